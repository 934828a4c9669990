-- `spline_curve::write_curve`: the answers to its goals. Assumes nothing.
use Rattle.spline_curve.specs.Curves.{write_none}
use Rattle.spline_curve.proofs.write_curve.Goals as goal

pub returns-then-n-lt2 : goal.returns-then-n-lt2
returns-then-n-lt2 c =
    let a = c.args in
    write_none a.d a.ms.now a.pts.now a.ws.now a.out.now c.if-n-lt2.true

pub write_runs-requires : goal.write_runs-requires
write_runs-requires c =
    let two = c.if-n-lt2.false in
    record { ready = c.requires.drawn.tables two; remembers = c.requires.recalled.halvings two; ws_in_bounds = c.requires.ws_in_bounds }
