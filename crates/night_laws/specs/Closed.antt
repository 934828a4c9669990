-- LAWS. Behind a told call a try stands closed exactly where the tally took the call as a close. Assumes nothing.
use Rattle.std.specs.Prelude.{ℕ, ◌≡◌, refl, Bool, true, false, cond, ◌&&◌, ◌||◌, not, List, eqb}
use Rattle.std.proofs.Common.{ap, ◌∙◌}
use Rattle.call_reply.specs.declared.Reply.{Reply}
use Rattle.tally_call.specs.Calls.{k_close, too_few_places, call_of, closes}
use Rattle.csv_count.specs.Count.{bad_text}
use Rattle.night_course.specs.declared.Ticket.{Ticket}
use Rattle.night_course.specs.declared.Course.{Course}
use Rattle.night_course.specs.Course.{refused, left, closed, if_told}
use Rattle.night_refusal.specs.Refusal.{stands_then, turned_down}
use Rattle.night_answer.specs.Answer.{Answered, stands_on, done_by, answered}

-- a refusal leaves no try closed
pub refused_open : (c : Course) (kind code line : ℕ) → eqb (turned_down c kind code line).stands closed ≡ false
unfolding turned_down stands_then
refused_open c kind code line = go (eqb code too_few_places || (not (eqb code bad_text) && eqb kind k_close))
  where
    go : (x : Bool) → eqb (cond x left refused) closed ≡ false
    go true = refl
    go false = refl

-- a call that the tally did not take leaves none either
pub untold_open : (c : Course) (code : ℕ) → eqb code 0 ≡ false → eqb (if_told code c).stands closed ≡ false
unfolding if_told
untold_open c code e = rw e

-- one that it took does so where it is a close that was done, and only there
pub closed-closes : (t : Ticket) (c : Course) (kind : ℕ) (r : Reply) (rows : List ℕ) → eqb c.stands closed ≡ false
    → eqb (if_told 0 (answered t c kind r rows).course).stands closed ≡ closes (call_of kind r.code r.count r.warning rows)
unfolding if_told answered done_by stands_on turned_down stands_then closes call_of
closed-closes t c kind r rows e =
    go _ _ (eqb r.code 0) (eqb kind k_close) (eqb r.code too_few_places || (not (eqb r.code bad_text) && eqb kind k_close)) refl refl
  where
    go : (a b : Answered) (x y z : Bool) → a.course.stands ≡ cond y closed c.stands → b.course.stands ≡ cond z left refused
        → eqb (cond x a b).course.stands closed ≡ (y && x)
    go a b true true z p q = ap (λ (n : ℕ). eqb n closed) p
    go a b true false z p q = ap (λ (n : ℕ). eqb n closed) p ∙ e
    go a b false true true p q = ap (λ (n : ℕ). eqb n closed) q
    go a b false true false p q = ap (λ (n : ℕ). eqb n closed) q
    go a b false false true p q = ap (λ (n : ℕ). eqb n closed) q
    go a b false false false p q = ap (λ (n : ℕ). eqb n closed) q
