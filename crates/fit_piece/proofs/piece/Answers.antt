-- `fit_piece::piece`: the answers to its goals. Assumes nothing.
use borrow.Author.Rules.{rules}
use Rattle.std.proofs.lemmas.List.Sorted.{IsPartitionPoint-from_clause}
use Rattle.fit_piece.proofs.Pieces.{ends, passes, parted, halved}
use Rattle.fit_piece.proofs.piece.Goals as goal

pub returns : goal.returns
returns c =
    let args = c.args in
    let pre = c.requires in
    let found = c.partition_point in
    let at = IsPartitionPoint-from_clause (passes args.ts.now args.n args.t) (ends args.ts.now args.n args.t) found.result found.ensures.partitioned
    (parted args.ts.now args.n args.t pre.rising pre.le_n.1) (λ a r f' k. search rules) in
    halved args.ts.now args.n args.t found.result pre.le_n.0 pre.le_n.1 found.ensures.bound at
