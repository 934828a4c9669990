-- `row_made::made_mask`: the answers to its goals. Assumes nothing.
use mathlib.Core.Path.{◌∙◌, ap}
use Prim.Native.Nat.{ℕ}
use lib.Bits.{bit_and, bit_or}
use Rattle.row_made.specs.Making.{first-mask, later-mask}
use Rattle.row_made.proofs.made_mask.Goals as goal

pub returns-then-first : goal.returns-then-first
returns-then-first c =
    let one = c in
    let start = one in
    let gs = start.args.gs in
    let mask = start.args.mask in
    let made = first-mask gs mask start.requires.1.0 start.requires.1.1 start.args.row.now in
    rw one.if-first.true (ap (λ (p : ℕ). bit_or p (bit_and mask gs)) c.ridden.ensures ∙ made)

pub returns : goal.returns
returns c =
    let start = c in
    rw c.if-first.false (later-mask start.args.gs start.args.mask start.requires.1.0 start.requires.1.1 start.args.row.now)
