-- `arc_sample::draw`: the answers to its goals. Assumes nothing.
use Rattle.std.proofs.Common.{ℕ, ◌^◌, ◌<◌, length, sym, refl, ap, ◌∙◌, subst, arith}
use Rattle.floats.specs.Fill.{length-upto}
use Rattle.layout.specs.Layout.{axis_codes}
use Rattle.row_cells.specs.Masks.{mask_lt}
use Rattle.arc_sample.specs.Draw.{drawn-rows}
use Rattle.arc_sample.proofs.draw.Goals as goal

pub put_mid_rows-place-requires : goal.put_mid_rows-place-requires
put_mid_rows-place-requires c =
    let put-spans = c.put_spans in
    let put-starts = c.put_starts in
    let drawn-axes = c.drawn_axes-mask in
    let plane-v = c.plane_v-v in
    let back = c in
    let plane-u = back.plane_u-u in
    let pre = back.requires in
    let shows = subst (λ (m : ℕ). m < 2 ^ axis_codes) (sym drawn-axes.ensures) (mask_lt _ axis_codes) in
    let from = ap length put-starts.ensures ∙ length-upto _ axis_codes in
    let by = ap length put-spans.ensures ∙ length-upto _ axis_codes in
    record {
      drawing_of = (
        record { long = pre.long; axes = pre.axes; shows = shows; on_u = omega (arith, plane-u.ensures.1); on_v = omega (arith, plane-v.ensures.1) },
        record { from = from; by = by },
      );
      le_n = (pre.some, pre.room);
    }

pub put_last_row-requires : goal.put_last_row-requires
put_last_row-requires c =
    let put-mid-rows = c.put_mid_rows-place in
    let back = c in
    let drawn-axes = back.drawn_axes-mask in
    let plane-v = back.plane_v-v in
    let plane-u = back.plane_u-u in
    let pre = back.requires in
    let shows = subst (λ (m : ℕ). m < 2 ^ axis_codes) (sym drawn-axes.ensures) (mask_lt _ axis_codes) in
    record {
      drawing_of = record {
        long = pre.long;
        axes = pre.axes;
        shows = shows;
        on_u = omega (arith, plane-u.ensures.1);
        on_v = omega (
          arith,
          plane-v.ensures.1,
        );
      };
      row_words_in_bounds = omega (arith, put-mid-rows.ensures.same, put-mid-rows.ensures.ends, pre.room, pre.some);
    }

pub returns : goal.returns
returns c =
    let put-mid-rows = c.put_mid_rows-place in
    let put-spans = c.put_spans in
    let back = c in
    let put-starts = back.put_starts in
    let drawn-axes = back.drawn_axes-mask in
    let plane-v = back.plane_v-v in
    let plane-u = back.plane_u-u in
    let pre = back.requires in
    let hu : plane-u.result < axis_codes = omega (arith, plane-u.ensures.1) in
    let hv : plane-v.result < axis_codes = omega (arith, plane-v.ensures.1) in
    drawn-rows _ pre.axes _ _ _ hu hv _ plane-u.ensures.0 plane-v.ensures.0 _ _ _ put-starts.ensures put-spans.ensures _ pre.some
    drawn-axes.ensures refl pre.room put-mid-rows.ensures c.put_last_row.ensures
