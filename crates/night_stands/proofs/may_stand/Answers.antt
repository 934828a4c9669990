-- `night_stands::may_stand`: the answers to its goals. Assumes nothing.
use Rattle.std.proofs.Common.{◌≡◌, true, false, rules, tests}
use Rattle.std.proofs.lemmas.Iterator.{cases_from_all, YieldsList-from_slice}
use Rattle.night_stands.specs.Standing.{byte_stands}
use Rattle.night_stands.proofs.Bytes.{stands-all}
use Rattle.night_stands.proofs.may_stand.Goals as goal

pub returns : goal.returns
returns c =
    let t = c.args.path.now in
    stands-all t _ (cases_from_all _ _ _ (λ b. byte_stands b ≡ true) (λ b. byte_stands b ≡ false) c.all.ensures.ran
    (YieldsList-from_slice t cc) (λ x q k. search (rules, tests)) (λ x q k. search (rules, tests)))
