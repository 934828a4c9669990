-- `picture_run::close`: the answers to its goals. Assumes nothing.
use native.Mathlib.Omega.{arith}
use Rattle.picture_path.specs.PathLaws.{behind-end}
use Rattle.picture_run.proofs.close.Goals as goal

pub put_end-b-requires : goal.put_end-b-requires
put_end-b-requires c =
    let h = behind-end _ c.put_path_end-a.ensures in omega (arith, c.requires.outs)

pub returns : goal.returns
returns c =
    let h = behind-end _ c.put_path_end-a.ensures in
    let k = c.put_end-b.ensures.most in (omega (arith, c.requires.outs), c.requires.errs)
