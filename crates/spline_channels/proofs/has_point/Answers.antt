-- `spline_channels::has_point`: the answers to its goals. Assumes nothing.
use Rattle.std.specs.Prelude.{◌≡◌, ◌&&◌, ℕ, ◌<◌, ltb, length, slice_index, true, IsTrue, ◌↔◌}
use Rattle.std.proofs.Common.{rules, sym, ◌∙◌}
use Rattle.layout.specs.Layout.{axis_codes, r_present}
use Rattle.row_cells.specs.Codes.{geometric_of}
use Rattle.row_cells.specs.Bits.{has}
use Rattle.row_cells.specs.Row.{has_point}
use Rattle.spline_channels.specs.Keeps.{any_keep, any-is}
use Rattle.spline_channels.proofs.has_point.Goals as goal

pub returns : goal.returns
unfolding has_point geometric_of
returns c =
    let axes = c.args.axes.now in
    let present = slice_index c.args.row.now r_present in
    let some : IsTrue c.any.result ↔ ((i : ℕ) × (i < length axes) × (ltb (slice_index axes i) axis_codes && has present (slice_index axes i) ≡ true)) =
    search rules in
    any-is (λ (k : ℕ). ltb k axis_codes && has present k) axes 0 _ some ∙ sym (any_keep _ _ _)
