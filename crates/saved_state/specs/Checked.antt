-- LAWS. What a state and a store that pass their check are. Assumes nothing.
use Rattle.std.specs.Prelude.{ℕ, ◌*◌, ◌≤◌, ◌≡◌, true, List, length, leb}
use Rattle.std.proofs.Common.{sym, ◌∙◌, arith, leb-true}
use Rattle.layout.specs.Layout.{row_words}
use Rattle.floats.specs.Lists.{all}
use Rattle.floats.specs.Truth.{cond-t, cond-f, by_bit}
use Rattle.saved_state.specs.State.{held, state_ok, store_ok, held_row_ok, saved_check}

pub saved-ok : (st store : List ℕ) → saved_check st store ≡ 0 → state_ok st ≡ true
unfolding saved_check
saved-ok st store p = by_bit (state_ok st) (λ b. b) (λ b. let z : ◌≡◌ {A = ℕ} 9 0 = sym (cond-f _ _ b) ∙ p in absurd (omega arith))

pub saved_rows : (st store : List ℕ) → saved_check st store ≡ 0 → all (held st) (held_row_ok st store) ≡ true
unfolding saved_check
saved_rows st store p =
    by_bit (all (held st) (held_row_ok st store)) (λ b. b)
    (λ b. by_bit (store_ok st store)
    (λ c. let z : ◌≡◌ {A = ℕ} 9 0 = sym (cond-t _ _ (saved-ok st store p) ∙ cond-t _ _ c ∙ cond-f _ _ b) ∙ p in absurd (omega arith))
    (λ c. let z : ◌≡◌ {A = ℕ} 8 0 = sym (cond-t _ _ (saved-ok st store p) ∙ cond-f _ _ c) ∙ p in absurd (omega arith)))

pub saved-store : (st store : List ℕ) → saved_check st store ≡ 0 → held st * row_words ≤ length store
unfolding saved_check store_ok
saved-store st store p =
    by_bit (leb (held st * row_words) (length store)) (λ b. leb-true (held st * row_words) (length store) b)
    (λ b. let z : ◌≡◌ {A = ℕ} 8 0 = sym (cond-t _ _ (saved-ok st store p) ∙ cond-f _ _ b) ∙ p in absurd (omega arith))
