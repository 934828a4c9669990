-- LAWS. What is kept of a job's tries comes back. Assumes nothing.
use Rattle.std.specs.Prelude.{ℕ, ◌+◌, ◌*◌, ◌/◌, ◌%◌, ◌<◌, ◌≡◌, eqb}
use Rattle.std.proofs.Common.{◌∙◌, ap, arith, ne_eqb}
use Rattle.floats.specs.Truth.{or_f}
use Rattle.night_tried.specs.Tried.{sums, counts, tried_word, tries_of, same_file}

low : (x t : ℕ) → t < counts → (x * counts + t) % counts ≡ t
low x t h = omega arith

high : (x t : ℕ) → t < counts → (x * counts + t) / counts ≡ x
high x t h = omega arith

pub tries_kept : (sum tries : ℕ) → tries < counts → tries_of (tried_word sum tries) ≡ tries
unfolding tried_word tries_of
tries_kept sum tries h = omega arith

pub file_kept : (sum tries other : ℕ) → sum < sums → 0 < tries → tries < counts → same_file (tried_word sum tries) other ≡ eqb sum other
unfolding tried_word same_file
file_kept sum tries other s z h =
    let m : sum % sums ≡ sum = omega arith in
    let k : tries % counts ≡ tries = omega arith in
    rw (m, k) (or_f _ (ne_eqb ((sum * counts + tries) % counts) 0 (λ e. absurd (omega (arith, low sum tries h, e))))
    ∙ ap (λ (v : ℕ). eqb v other) (high sum tries h))
