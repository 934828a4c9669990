-- LAWS. A call that is judged by a check and then by its room: when it is done, and what the count of 7 is. Assumes nothing.
use Rattle.std.specs.Prelude.{ℕ, ◌≤◌, ◌<◌, List, leb, eqb}
use Rattle.std.proofs.Math.Path.{◌≡◌, sym, ap}
use Rattle.std.proofs.Common.{◌∙◌, arith, eqb-true, leb-true, leb-false}
use Rattle.std.proofs.lemmas.Bool.{eqb-false}
use Rattle.floats.specs.Truth.{by_bit}
use Rattle.call_reply.specs.declared.Reply.{Reply}
use Rattle.call_reply.specs.Replies.{plain, After, too_few}
use Rattle.demand_calls.specs.Places.{places}

-- what f answers by the places that it is lent: `check` is the refusal that is due, n the rows that it needs
pub record Judged (f done : List ℕ → After) (check n : ℕ) : Type 0 where
  pub goes : (rows : List ℕ) → check ≡ 0 → n ≤ places rows → f rows ≡ done rows
  pub few : (rows : List ℕ) → check ≡ 0 → places rows < n → (f rows).reply ≡ too_few n
  pub turned : (rows : List ℕ) → (check ≡ 0 → ⊥) → (f rows).reply ≡ plain check
  pub code : (rows : List ℕ) → (done rows).reply.code ≡ 0
  pub count : (rows : List ℕ) → (done rows).reply.count ≡ n
  pub seven : check ≡ 7 → ⊥

data Outcome (check n lent : ℕ) : Type 0 where
  room : check ≡ 0 → n ≤ lent → Outcome check n lent
  short : check ≡ 0 → lent < n → Outcome check n lent
  refused : (check ≡ 0 → ⊥) → Outcome check n lent

outcome : (check n lent : ℕ) → Outcome check n lent
outcome check n lent =
    by_bit (eqb check 0)
    (λ a. by_bit (leb n lent)
    (λ b. room (eqb-true check 0 a) (leb-true n lent b))
    (λ b. short (eqb-true check 0 a) (leb-false n lent b)))
    (λ a. refused (eqb-false check 0 a))

module _ {f done : List ℕ → After} {check n : ℕ} (j : Judged f done check n) where
  -- what an accepted call says of its input
  pub accepted : (rows : List ℕ) → (f rows).reply.code ≡ 0 → (check ≡ 0) × (n ≤ places rows)
  unfolding too_few
  accepted rows z = by-case (outcome check n (places rows))
    where
      by-case : Outcome check n (places rows) → (check ≡ 0) × (n ≤ places rows)
      by-case (room e g) = (e, g)
      by-case (short e g) = let q : ◌≡◌ {A = ℕ} 7 0 = sym (ap (λ (p : Reply). p.code) (j.few rows e g)) ∙ z in absurd (omega arith)
      by-case (refused d) = absurd (d (sym (ap (λ (p : Reply). p.code) (j.turned rows d)) ∙ z))

  -- 2.11: the reply has the count that the call needs
  pub counted : (rows : List ℕ) → (f rows).reply.code ≡ 7 → (check ≡ 0) × ((f rows).reply.count ≡ n)
  unfolding too_few
  counted rows z = by-case (outcome check n (places rows))
    where
      by-case : Outcome check n (places rows) → (check ≡ 0) × ((f rows).reply.count ≡ n)
      by-case (room e g) =
          let q : ◌≡◌ {A = ℕ} 0 7 = sym (ap (λ (a : After). a.reply.code) (j.goes rows e g) ∙ j.code rows) ∙ z in
          absurd (omega arith)
      by-case (short e g) = (e, ap (λ (p : Reply). p.count) (j.few rows e g))
      by-case (refused d) = absurd (j.seven (sym (ap (λ (p : Reply). p.code) (j.turned rows d)) ∙ z))

  -- 8.6: and that is what the same call writes given room
  pub needs : (rows : List ℕ) → (f rows).reply.code ≡ 7 → (lent : List ℕ) → (f rows).reply.count ≤ places lent
      → ((f lent).reply.code ≡ 0) × ((f lent).reply.count ≡ (f rows).reply.count)
  needs rows z lent h =
      let s : (check ≡ 0) × ((f rows).reply.count ≡ n) = counted rows z in
      let d : f lent ≡ done lent = j.goes lent s.0 (omega (arith, s.1)) in
      (ap (λ (a : After). a.reply.code) d ∙ j.code lent, ap (λ (a : After). a.reply.count) d ∙ j.count lent ∙ sym s.1)
