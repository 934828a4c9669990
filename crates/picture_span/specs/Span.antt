-- DEFINITIONS. The box of a picture's points, one span for each axis. Assumes nothing.
use Rattle.std.specs.Prelude.{ℕ, ◌-◌, Bool, cond, ltb}
use Rattle.picture_span.specs.declared.Span.{Span}

-- the widest box, in millionths of a millimetre
abbrev pub widest : ℕ
widest = 2000000000000000

-- a span of places: it has none where `to` is below `from`
unfoldable pub lower_of : ℕ → ℕ → ℕ
lower_of a b = cond (ltb b a) b a

unfoldable pub higher_of : ℕ → ℕ → ℕ
higher_of a b = cond (ltb a b) b a

abbrev pub no_span : Span
no_span = record { from = widest; to = 0 }

abbrev pub widened : Span → ℕ → Span
widened s p = record { from = lower_of s.from p; to = higher_of s.to p }

abbrev pub is_empty : Span → Bool
is_empty s = ltb s.to s.from

unfoldable pub extent : Span → ℕ
extent s = cond (is_empty s) 0 (lower_of (s.to - s.from) widest)
