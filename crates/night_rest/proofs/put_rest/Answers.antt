-- `night_rest::put_rest`: the answers to its goals. Assumes nothing.
use Prim.Native.Nat.{◌-◌}
use mathlib.Core.Path.{◌∙◌}
use native.Mathlib.Omega.{arith}
use Rattle.csv_figures.specs.OutLaws.{wrote_then, wrote-length}
use Rattle.night_rest.proofs.put_rest.Goals as goal

pub put_refusal-b-requires : goal.put_refusal-b-requires
put_refusal-b-requires c =
    let b5 = c in
    omega (arith, b5.put_numbers-a.ensures.near, wrote-length b5.put_numbers-a.ensures.text)

pub put_numbers-c-requires : goal.put_numbers-c-requires
put_numbers-c-requires c =
    let b3 = c in
    let b9 = b3 in (
      omega arith,
      omega (
        arith,
        b9.put_numbers-a.ensures.near,
        wrote-length b9.put_numbers-a.ensures.text,
        b3.put_refusal-b.ensures.1,
        wrote-length b3.put_refusal-b.ensures.0,
      ),
    )

pub put_crlf-requires : goal.put_crlf-requires
put_crlf-requires c =
    let b3 = c in
    let b7 = b3 in
    let b13 = b7 in
    omega (
      arith,
      b13.put_numbers-a.ensures.near,
      wrote-length b13.put_numbers-a.ensures.text,
      b7.put_refusal-b.ensures.1,
      wrote-length
          b7.put_refusal-b.ensures.0,
      b3.put_numbers-c.ensures.near,
      wrote-length b3.put_numbers-c.ensures.text,
    )

pub shape_of-out : goal.shape_of-out
shape_of-out c =
    let b2 = c in
    let b6 = b2 in
    let b10 = b6 in
    let b16 = b10 in
    wrote-length b2.put_crlf.ensures ∙ wrote-length b6.put_numbers-c.ensures.text ∙ wrote-length b10.put_refusal-b.ensures.0 ∙
    wrote-length b16.put_numbers-a.ensures.text

pub returns : goal.returns
returns c =
    let b2 = c in
    let b6 = b2 in
    let b10 = b6 in
    let b16 = b10 in
    record {
      text = wrote_then b16.put_numbers-a.ensures.text
          (wrote_then b10.put_refusal-b.ensures.0 (wrote_then b6.put_numbers-c.ensures.text b2.put_crlf.ensures));
      near = omega (
        arith,
        b16.put_numbers-a.ensures.near,
        wrote-length b16.put_numbers-a.ensures.text,
        b10.put_refusal-b.ensures.1,
        wrote-length b10.put_refusal-b.ensures.0,
        b6.put_numbers-c.ensures.near,
        wrote-length b6.put_numbers-c.ensures.text,
        b2.put_crlf.ensures.next,
      );
    }
