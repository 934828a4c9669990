-- DEFINITIONS. A block's own rows: rules 3.6, 3.9, 3.10. Assumes nothing.
use Rattle.std.specs.Prelude.{ℕ, true, false, List, [], Float}
use Rattle.std.proofs.Math.Option.{Option}
use Rattle.motion.specs.Motion.{kind_of}
use Rattle.motion.specs.declared.Kind.{Kind}
use Rattle.motion.specs.declared.Kind.TheVariants.{Same, Linear, Clockwise, Counter, Akima, Basis, Cubic, Other, Refused}
use Rattle.saved_state.specs.State.{tolerance, geometric, position}
use Rattle.push_resolve.specs.Blocks.{motion_then, plane_then}
use Rattle.arc_answer.specs.Arc.{Answer, passed, arc_answer}

-- 3.6, 3.9, 3.10: unchanged, an arc, or no row yet
unfoldable pub answer_as : Kind → Float → List ℕ → ℕ → (ℕ → Option ℕ) → List ℕ → Answer
answer_as Same tol gs plane pos r = passed 0 r
answer_as Linear tol gs plane pos r = passed 0 r
answer_as Clockwise tol gs plane pos r = arc_answer tol gs plane true pos r
answer_as Counter tol gs plane pos r = arc_answer tol gs plane false pos r
answer_as Akima tol gs plane pos r = record { rows = []; warning = 0; wanted = 0; held = 0 }
answer_as Basis tol gs plane pos r = record { rows = []; warning = 0; wanted = 0; held = 0 }
answer_as Cubic tol gs plane pos r = record { rows = []; warning = 0; wanted = 0; held = 0 }
answer_as Other tol gs plane pos r = passed 0 r
answer_as Refused tol gs plane pos r = passed 0 r

unfoldable pub own_answer : List ℕ → List ℕ → Answer
own_answer st r = answer_as (kind_of (motion_then st r)) (tolerance st) (geometric st) (plane_then st r) (position st) r
