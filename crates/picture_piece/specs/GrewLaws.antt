-- LAWS. From text that was stored to its room. Assumes nothing.
use Rattle.std.specs.Prelude.{ℕ, ◌≤◌, List, length}
use Rattle.std.proofs.Common.{arith}
use Rattle.csv_figures.specs.Out.{Wrote}
use Rattle.csv_figures.specs.OutLaws.{wrote-length}
use Rattle.picture_piece.specs.Grew.{Grew}

pub grew : {o o' t : List ℕ} {n r : ℕ} (room : ℕ) → length t ≤ room → Wrote o n t o' r → Grew o n room o' r
grew room h w = record { least = omega (arith, w.next); most = omega (arith, w.next); same = wrote-length w }
