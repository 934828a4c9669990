-- `night_pieces::put_refusal`: the answers to its goals. Assumes nothing.
use native.Mathlib.Omega.{arith}
use borrow.Author.Tests.{eq-eqb, ne_eqb}
use Rattle.csv_figures.specs.OutLaws.{wrote-length}
use Rattle.night_pieces.proofs.Writing.{refusal-none, refusal-some}
use Rattle.night_pieces.proofs.put_refusal.Goals as goal

pub returns-then-refusal-eq0 : goal.returns-then-refusal-eq0
returns-then-refusal-eq0 c =
    let b2 = c in
    let b5 = b2 in
    let b7 = b5 in (
      refusal-none b7.args.refusal b7.args.line (eq-eqb b7.args.refusal 0 b5.if-refusal-eq0.true) b2.put_bytes.ensures,
      omega
          (arith, b2.put_bytes.ensures.next),
    )

pub put_next-requires : goal.put_next-requires
put_next-requires c = omega (arith, c.put_next-a.ensures.1, wrote-length c.put_next-a.ensures.0)

pub returns : goal.returns
returns c =
    let b2 = c in
    let b6 = b2 in
    let b8 = b6 in
    let b10 = b8 in (
      refusal-some b10.args.refusal b10.args.line (ne_eqb b10.args.refusal 0 b8.if-refusal-eq0.false) b6.put_next-a.ensures.0
          b2.put_next.ensures.0,
      omega (arith, b6.put_next-a.ensures.1, b2.put_next.ensures.1),
    )
