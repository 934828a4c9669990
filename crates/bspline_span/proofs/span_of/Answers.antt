-- `bspline_span::span_of`: the answers to its goals. Assumes nothing.
use native.Mathlib.Omega.{arith}
use Rattle.bspline_tables.specs.Tables.{span_in}
use Rattle.bspline_tables.specs.Spans.{in_span}
use Rattle.bspline_span.proofs.span_of.Goals as goal

pub returns-then-u-hi : goal.returns-then-u-hi
unfolding span_in
returns-then-u-hi c = record { value = rw (← c.requires.hi_value, c.if-u-hi.true); lower_bound = omega arith }

pub overflow_add-result : goal.overflow_add-result
overflow_add-result c =
    let pre = c.requires in
    omega (arith, in_span _ _ _ _ pre.p_lt_n.0 pre.p_lt_n.1 pre.hi_value c.if-u-hi.false, c.trunc_count.ensures)

pub returns : goal.returns
unfolding span_in
returns c =
    let if1 = c.if-u-hi in
    let pre = c.requires in
    record {
      value = rw (← pre.hi_value, if1.false, c.trunc_count.ensures);
      lower_bound = omega (
        arith,
        in_span _ _ _ _ pre.p_lt_n.0 pre.p_lt_n.1
            pre.hi_value if1.false,
        c.trunc_count.ensures,
      );
    }
