-- LAWS. The numbers that a held spline has at most. Assumes nothing.
use Rattle.std.specs.Prelude.{ℕ, ◌+◌, ◌*◌, ◌≤◌, List}
use Rattle.std.proofs.Common.{mul-le-mul, arith}
use Rattle.layout.specs.Layout.{axis_codes, most_points}
use Rattle.spline_channels.proofs.ChannelLaws.{channels-few}
use Rattle.spline_curve.specs.Asks.{Holds, channel_count}
use Rattle.spline_emission.specs.Sizes.{numbers_of}

pub numbers-few : {axes words store : List ℕ} {held : ℕ} → Holds axes words store held → numbers_of axes store held ≤ axis_codes * most_points
numbers-few {axes} {words} {store} {held} h =
    let few : held + 1 ≤ most_points = omega (arith, h.many) in
    let narrow : channel_count axes store held ≤ axis_codes = channels-few _ _ h.once in
    let cells : (held + 1) * channel_count axes store held ≤ most_points * axis_codes = mul-le-mul few narrow in
    omega (arith, cells)
