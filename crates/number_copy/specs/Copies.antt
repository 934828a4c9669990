-- LAWS. What a slice is once another of its length was copied over its front. Assumes nothing.
use Rattle.std.specs.Prelude.{◌≡◌, List, ℕ, length, Float}
use Rattle.std.specs.Float.{nan}
use Rattle.std.proofs.Common.{sym, ◌∙◌, arith, ext_get_or}
use Rattle.floats.specs.Numbers.{at}
use Rattle.floats.specs.Lists.{filled}
use Rattle.floats.specs.Fill.{length-filled, at-filled}

pub copied : (src dst : List Float) {i : ℕ} {xs : List Float} → length src ≡ length dst → i ≡ length dst → xs ≡ filled (at src) i dst → xs ≡ src
copied src dst {i} {xs} h ei e = e ∙ ext_get_or nan (filled (at src) i dst) src
    (length-filled (at src) dst i (omega arith) ∙ sym h)
    (λ k g. at-filled (at src) dst i k nan (omega (arith, length-filled (at src) dst i (omega arith))))
