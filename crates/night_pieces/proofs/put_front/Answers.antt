-- `night_pieces::put_front`: the answers to its goals. Assumes nothing.
use mathlib.Core.Path.{◌∙◌}
use native.Mathlib.Omega.{arith}
use Rattle.csv_figures.specs.OutLaws.{wrote_then, wrote-length}
use Rattle.night_pieces.proofs.Writing.{whole-near}
use Rattle.night_pieces.proofs.put_front.Goals as goal

pub put_text-b-requires : goal.put_text-b-requires
put_text-b-requires c =
    let b3 = c in
    omega (arith, whole-near _ b3.put_whole-a.ensures, wrote-length b3.put_whole-a.ensures)

pub put_numbers-c-requires : goal.put_numbers-c-requires
put_numbers-c-requires c =
    let b3 = c in
    let b7 = b3 in (
      omega arith,
      omega (
        arith,
        whole-near _ b7.put_whole-a.ensures,
        wrote-length b7.put_whole-a.ensures,
        b3.put_text-b.ensures.next,
        wrote-length b3.put_text-b.ensures,
      ),
    )

pub put_text-requires : goal.put_text-requires
put_text-requires c =
    let b3 = c in
    let b7 = b3 in
    let b11 = b7 in
    omega (
      arith,
      whole-near _ b11.put_whole-a.ensures,
      wrote-length b11.put_whole-a.ensures,
      b7.put_text-b.ensures.next,
      wrote-length
          b7.put_text-b.ensures,
      b3.put_numbers-c.ensures.near,
      wrote-length b3.put_numbers-c.ensures.text,
    )

pub shape_of-out : goal.shape_of-out
shape_of-out c =
    let b2 = c in
    let b6 = b2 in
    let b10 = b6 in
    let b14 = b10 in
    wrote-length b2.put_text.ensures ∙ wrote-length b6.put_numbers-c.ensures.text ∙ wrote-length b10.put_text-b.ensures ∙ wrote-length
    b14.put_whole-a.ensures

pub returns : goal.returns
returns c =
    let b2 = c in
    let b6 = b2 in
    let b10 = b6 in
    let b14 = b10 in
    record {
      text = wrote_then b14.put_whole-a.ensures
          (wrote_then b10.put_text-b.ensures (wrote_then b6.put_numbers-c.ensures.text b2.put_text.ensures));
      near = omega (
        arith,
        whole-near _
            b14.put_whole-a.ensures,
        wrote-length b14.put_whole-a.ensures,
        b10.put_text-b.ensures.next,
        wrote-length b10.put_text-b.ensures,
        b6.put_numbers-c.ensures.near,
        wrote-length b6.put_numbers-c.ensures.text,
        b2.put_text.ensures.next,
      );
    }
