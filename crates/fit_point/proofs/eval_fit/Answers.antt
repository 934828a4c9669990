-- `fit_point::eval_fit`: the answers to its goals. Assumes nothing.
use mathlib.Core.Path.{◌≡◌, ◌∙◌}
use borrow.Author.Rules.{rules}
use Rattle.fit_point.specs.Channels.{channel_of}
use Rattle.fit_point.proofs.Blends.{blended_is}
use Rattle.fit_point.proofs.eval_fit.Goals as goal

pub returns : goal.returns
returns c =
    let a = c.args in
    let w = c.piece_near-w in
    let b = c.blend_at-b in
    c.each_channel.ensures _ (λ i x h called.
    let e : x ≡ channel_of b.result a.fps.now a.slopes.now a.m a.ch w.result i = search rules in
    e ∙ blended_is a.fts.now a.fps.now a.slopes.now a.m a.ch a.t w.ensures.0 c.step_at-h.ensures c.held_in.ensures b.ensures i h)
