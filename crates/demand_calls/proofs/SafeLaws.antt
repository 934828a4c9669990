-- LAWS. Answers that are safe: a refusal that leaves every word, and a call that is done. Assumes nothing.
use Rattle.std.specs.Prelude.{ℕ, ◌≤◌, ◌≡◌, refl, List, length}
use Rattle.std.proofs.Common.{arith}
use Rattle.call_reply.specs.declared.Reply.{Reply}
use Rattle.call_reply.specs.Replies.{plain, After, too_few}
use Rattle.demand_calls.specs.Safe.{Turned, Safe, SafeState}

-- ---- the numbers
pub plain-turned : (n : ℕ) → n ≤ 9 → Turned (plain n)
plain-turned n h = record { ten = h; none = λ d. (refl, refl, refl); count = λ d e. refl }

pub few-turned : (n : ℕ) → Turned (too_few n)
unfolding too_few
few-turned n = record { ten = omega arith; none = λ d. (refl, refl, refl); count = λ d e. absurd (e refl) }

done-turned : (p : Reply) → p.code ≡ 0 → Turned p
done-turned p e = record { ten = omega (arith, e); none = λ d. absurd (d e); count = λ d f. absurd (d e) }

-- ---- of a state alone
pub kept-state : (n : ℕ) (st : List ℕ) → n ≤ 9 → SafeState (record { reply = plain n; state = st }) st
kept-state n st h = record { turned = plain-turned n h; same = λ d. refl; long = refl }

pub new-state : (st new : List ℕ) → length new ≡ length st → SafeState (record { reply = plain 0; state = new }) st
new-state st new e = record { turned = plain-turned 0 (omega arith); same = λ d. absurd (d refl); long = e }

-- ---- of state, store and row places
pub kept_safe : (p : Reply) (st store rows : List ℕ) → Turned p → Safe (record { reply = p; state = st; store = store; rows = rows }) st store rows
kept_safe p st store rows t = record { turned = t; same = λ d. (refl, refl, refl); long = (refl, refl, refl) }

pub done_safe : (a : After) (st store rows : List ℕ) → a.reply.code ≡ 0 → length a.state ≡ length st → length a.store ≡ length store
    → length a.rows ≡ length rows → Safe a st store rows
done_safe a st store rows z s t u = record { turned = done-turned a.reply z; same = λ d. absurd (d z); long = (s, t, u) }
