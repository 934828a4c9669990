-- `spline_channels::place_of`: the answers to its goals. Assumes nothing.
use Rattle.std.specs.Prelude.{◌≡◌, ◌≢◌, ℕ, ◌<◌, EachIndex, MatchOption, slice_index, length}
use Rattle.std.proofs.Common.{rules, ◌∙◌}
use Rattle.spline_channels.specs.Keeps.{place-found}
use Rattle.spline_channels.proofs.place_of.Goals as goal

pub returns : goal.returns
returns c =
    let codes = c.args.codes.now in
    let k = c.args.k in
    let found : MatchOption c.position.result (EachIndex codes (λ i. slice_index codes i ≢ k))
    (λ i. (i < length codes) × ((slice_index codes i ≡ k) × ((j : ℕ) → j < i → slice_index codes j ≢ k))) = search rules in
    c.unwrap_or.ensures ∙ place-found k codes c.position.result found
