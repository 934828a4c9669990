-- `root_bound::greatest`: the answers to its goals. Assumes nothing.
use Rattle.root_bound.proofs.Bound.{by-halves}
use Rattle.root_bound.proofs.greatest.Goals as goal

pub returns : goal.returns
returns c =
    let low = c.product.ensures.0 in
    let high = c.product-2.ensures.0 in
    let cross = c.product-3.ensures.0 in
    rw (low, high, cross) (by-halves c.args.t)
