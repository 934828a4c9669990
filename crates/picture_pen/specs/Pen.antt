-- DEFINITIONS. What a row draws, and where the pen is behind it. Assumes nothing.
use Rattle.std.specs.Prelude.{ℕ, ◌+◌, Bool, true, false, cond, List, [], Option, Some, None, ltb}
use Rattle.motion.specs.Motion.{g_one}
use Rattle.picture_class.specs.declared.Class.{Class}
use Rattle.picture_class.specs.declared.Class.TheVariants.{Rapid, Feed, Sample, Curved}
use Rattle.picture_class.specs.Class.{class_of, letter_of}
use Rattle.picture_span.specs.Span.{no_span, widened}
use Rattle.picture_point.specs.declared.Point.{Point}
use Rattle.picture_path.specs.declared.Path.{Path}
use Rattle.picture_path.specs.PathText.{path_after, move_text}
use Rattle.picture_span.specs.declared.Counts.{Counts}
use Rattle.picture_span.specs.declared.Frame.{Frame}
use Rattle.picture_span.specs.declared.Plane.{Plane}
use Rattle.picture_spot.specs.Spot.{shows_code, spot_after, both_known}
use Rattle.picture_pen.specs.declared.Pen.{Pen}

-- before the first row the motion in force is G1, and nothing is known
abbrev pub first_pen : Pen
first_pen =
    record {
      motion = g_one;
      across = None;
      up = None;
      path = record { letter = 0; points = 0 };
      frame = record { across = no_span; up = no_span };
      counts = record { rapid = 0; feed = 0; sample = 0; curved = 0 };
    }

-- ---- the rows of each class are counted, up to what a text has room for
abbrev pub most_count : ℕ
most_count = 9999999999

unfoldable pub one_more : ℕ → ℕ
one_more n = cond (ltb n most_count) (n + 1) n

abbrev pub counted_of : Counts → Class → Counts
counted_of c Rapid = record { rapid = one_more c.rapid; feed = c.feed; sample = c.sample; curved = c.curved }
counted_of c Feed = record { rapid = c.rapid; feed = one_more c.feed; sample = c.sample; curved = c.curved }
counted_of c Sample = record { rapid = c.rapid; feed = c.feed; sample = one_more c.sample; curved = c.curved }
counted_of c Curved = record { rapid = c.rapid; feed = c.feed; sample = c.sample; curved = one_more c.curved }

-- ---- a row shows an axis of the plane
unfoldable pub shows_either : List ℕ → Plane → Bool
shows_either row plane = cond (shows_code row plane.across) true (shows_code row plane.up)

-- ---- the box is that of the places where both axes are known
abbrev pub frame_after : Frame → Option ℕ → Option ℕ → Frame
frame_after f None up = f
frame_after f (Some a) None = f
frame_after f (Some a) (Some u) = record { across = widened f.across a; up = widened f.up u }

-- ---- a row moves where it shows an axis of the plane, and both were known before
unfoldable pub moves_in : Pen → List ℕ → Plane → Bool
moves_in pen row plane = cond (both_known pen.across pen.up) (shows_either row plane) false

unfoldable pub path_behind : Path → ℕ → Bool → Path
path_behind path letter moved = cond moved (path_after path letter) path

-- the pen behind a row
unfoldable pub pen_after : Pen → List ℕ → Plane → Pen
pen_after pen row plane =
    let judged = class_of pen.motion row in
    let across = spot_after pen.across row plane.across in
    let up = spot_after pen.up row plane.up in
    record {
      motion = judged.motion;
      across = across;
      up = up;
      path = path_behind pen.path (letter_of judged.class) (moves_in pen row plane);
      frame = frame_after pen.frame across up;
      counts = counted_of pen.counts judged.class;
    }

-- an axis that is not known stands at 0
abbrev pub at_of : Option ℕ → ℕ
at_of None = 0
at_of (Some p) = p

abbrev pub point_of : Pen → Point
point_of pen = record { across = at_of pen.across; up = at_of pen.up }

-- what a row draws: a move from where the pen was to where it is then, on a path of the row's class
unfoldable pub row_drawn : Pen → List ℕ → Plane → List ℕ
row_drawn pen row plane =
    let then = pen_after pen row plane in
    cond (moves_in pen row plane) (move_text pen.path then.path.letter (point_of pen) (point_of then)) []
