-- `push_resolve::resolve`: the answers to its goals. Assumes nothing.
use Rattle.push_resolve.specs.BlockLaws.{block_listed, resolved-is}
use Rattle.push_resolve.proofs.resolve.Goals as goal

pub geometric_mask-axes-requires : goal.geometric_mask-axes-requires
geometric_mask-axes-requires c =
    block_listed c.requires

pub returns : goal.returns
returns c =
    resolved-is _ _ _ c.or_now-motion.ensures c.or_now-plane.ensures c.kind_of.ensures c.ends_spline-emits.ensures c.still_held-kept.ensures
    c.is_news-news.ensures c.geometric_mask-axes.ensures
