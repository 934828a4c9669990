-- `spline_write::spread_curve`: the answers to its goals. Assumes nothing.
use Rattle.spline_write.proofs.Writing.{spreads_at, spread_at}
use Rattle.spline_write.proofs.spread_curve.Goals as goal

pub spread-requires : goal.spread-requires
spread-requires c =
    let at-chans = c in
    let at-axes = at-chans in
    let at-places-of = at-axes in
    let start = at-places-of in
    record {
      spreads = spreads_at _ _ _ _ _ _ _ _ _ _ _ at-axes.axes_mask.ensures at-chans.axes_mask-2.ensures at-places-of.places_of.ensures _
          start.requires.spreads;
      row_words_in_bounds = start.requires.row_words_in_bounds;
    }

pub returns : goal.returns
returns c =
    let at-spread = c in
    let at-chans = at-spread in
    let at-axes = at-chans in
    let at-places-of = at-axes in
    let spread = at-spread.spread.ensures in
    spread_at _ _ _ _ _ _ _ _ _ _ _ at-axes.axes_mask.ensures at-chans.axes_mask-2.ensures at-places-of.places_of.ensures _ spread
