-- DEFINITIONS. What a row of flattened rows is drawn as. Assumes nothing.
use Rattle.std.specs.Prelude.{ℕ, Bool, not, cond, List, eqb}
use Rattle.motion.specs.Motion.{is_rapid}
use Rattle.row_cells.specs.Row.{mark_of}
use Rattle.still_curved.specs.Curved.{motion_after, still_curved}
use Rattle.picture_class.specs.declared.Class.{Class}
use Rattle.picture_class.specs.declared.Class.TheVariants.{Rapid, Feed, Sample, Curved}
use Rattle.picture_class.specs.declared.Judged.{Judged}

-- a row that is no curve: a sample where it is marked, and else a rapid or a feed by the motion in force at it
unfoldable pub straight_of : Bool → ℕ → Class
straight_of marked motion = cond marked Sample (cond (is_rapid motion) Rapid Feed)

-- a row, where m was in force before it
unfoldable pub class_of : ℕ → List ℕ → Judged
class_of m row =
    record {
      motion = motion_after m row;
      class = cond (still_curved m row) Curved (straight_of (not (eqb (mark_of row) 0)) (motion_after m row));
    }

-- r f s c
abbrev pub letter_of : Class → ℕ
letter_of Rapid = 114
letter_of Feed = 102
letter_of Sample = 115
letter_of Curved = 99
