-- `night_path::ends_csv`: the answers to its goals. Assumes nothing.
use Rattle.std.proofs.Common.{ℕ, ◌-◌, ap, ◌∙◌, ◌&&◌, List, length, leb, drop}
use Rattle.csv_fields.specs.Readers.{tail-is}
use Rattle.csv_words.specs.Text.{bytes}
use Rattle.csv_words.specs.Words.{same}
use Rattle.night_path.specs.Names.{ending}
use Rattle.night_path.specs.Comparing.{ends_same}
use Rattle.night_path.proofs.Naming.{tail-ends}
use Rattle.night_path.proofs.ends_csv.Goals as goal

pub returns : goal.returns
returns c =
    let t = c.args.path.now in
    let k = c.args.from in
    ends_same _ (bytes ".csv") _ c.ends_with.ensures.value c.ends_with.ensures.bound
    ∙ ap (λ (z : List ℕ). leb ending (length z) && same (drop (length z - ending) z) (bytes ".csv")) (tail-is t k)
    ∙ tail-ends t k
