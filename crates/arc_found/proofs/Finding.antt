-- LAWS. What the centre search looks at: an offset, or else CR. Assumes nothing.
use mathlib.Core.Path.{◌≡◌, refl, sym, subst}
use mathlib.Core.Bool.{Bool, true, false}
use mathlib.Core.Logic.{◌⊎◌, ⊎_elim}
use lib.Dec.{T}
use mathlib.Core.Option as Maybe
use Rattle.std.specs.Prelude.{Float, Option, Some, None}
use Rattle.std.specs.Option.{is_some, unwrap_or}
use Rattle.floats.specs.Numbers.{◌⊕◌, f0}
use Rattle.arc_centre.specs.Centre.{Ends, centred, centre_of}
use Rattle.arc_centre.specs.Types.{number_is}

module _ (cw : Bool) (e : Ends) where
  pub by-offset : (i j : Option Float) (cr : Maybe.Option Float) → (is_some i ≡ true) ⊎ (is_some j ≡ true)
      → centre_of cw e (number_is i) (number_is j) cr ≡ centred (e.su ⊕ unwrap_or i f0) (e.sv ⊕ unwrap_or j f0)
  unfolding centre_of
  by-offset (Some x) (Some y) cr h = refl
  by-offset (Some x) None cr h = refl
  by-offset None (Some y) cr h = refl
  by-offset None None cr h =
      absurd (⊎_elim (λ (e : false ≡ true). subst T (sym e) tt) (λ (e : false ≡ true). subst T (sym e) tt) h)

  pub no-offset : (i j : Option Float) (cr : Maybe.Option Float) → is_some i ≡ false → is_some j ≡ false
      → centre_of cw e (number_is i) (number_is j) cr ≡ centre_of cw e Maybe.none Maybe.none cr
  no-offset None None cr h k = refl
  no-offset (Some x) j cr h k = absurd (subst T h tt)
  no-offset None (Some y) cr h k = absurd (subst T k tt)
