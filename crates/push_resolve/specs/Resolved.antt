-- DEFINITIONS. A block resolved at a state, as the code hands it on. Assumes nothing.
use Rattle.std.specs.Prelude.{ℕ, List}
use Rattle.motion.specs.Motion.{kind_of}
use Rattle.saved_state.specs.State.{geometric_mask}
use Rattle.push_resolve.specs.Blocks.{motion_then, plane_then, emits, kept, news}
use Rattle.push_resolve.specs.declared.Resolved.{Resolved}

abbrev pub resolved : List ℕ → List ℕ → Resolved
resolved st r =
    record {
      kind = kind_of (motion_then st r);
      motion = motion_then st r;
      plane = plane_then st r;
      emits = emits st r;
      kept = kept st r;
      news = news st r;
      axes = geometric_mask st;
    }
