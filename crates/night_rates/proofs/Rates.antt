-- LAWS. A mark keeps the bits of its job's try word, try after try; so the counts over marks are those over try words. Assumes nothing.
use Rattle.std.specs.Prelude.{ℕ, zero, suc, ◌<◌, ◌≡◌, refl, Bool, true, false, cond, not, ◌||◌, List, [], ◌∷◌, get_or}
use Rattle.std.proofs.Common.{sym, ◌∙◌, ap, add-zero, arith}
use Rattle.std.proofs.lemmas.Bool.{not-true}
use Rattle.floats.specs.Truth.{and_left, and_right, cond-t}
use Rattle.row_cells.specs.Bits.{has}
use Rattle.row_cells.specs.Masks.{with-other}
use Rattle.tally_words.specs.Words.{b_closed, b_first, b_final, b_failing, count_if}
use Rattle.tally_call.specs.declared.Call.{Call}
use Rattle.tally_call.specs.Calls.{fails, closes, try_number, try_after}
use Rattle.tally_laws.proofs.JobLaws.{bits_of}
use Rattle.night_marks.specs.Marks.{mark_number, b_left, mark_after}
use Rattle.night_counts.specs.Counts.{count_with}
use Rattle.night_rates.specs.Tried.{stay_open, word_behind, Agrees, AgreeUpto}

-- ---- one call that does not close
call-keeps : {m w : ℕ} (c : Call) → closes c ≡ false → Agrees m w → Agrees m (try_after w c)
unfolding try_after
call-keeps {m} {w} c e h =
    let b = bits_of (has w b_closed) (has w b_first) (has w b_final) (has w b_failing || fails c) in
    rw (e) (record { closed = h.closed ∙ sym b.b0; first = h.first ∙ sym b.b1; last = h.last ∙ sym b.b2 })

pub open_keeps : {m : ℕ} (cs : List Call) {w : ℕ} → stay_open cs ≡ true → Agrees m w → Agrees m (word_behind w cs)
unfolding stay_open word_behind
open_keeps [] e h = h
open_keeps (c ∷ cs) e h =
    open_keeps cs (and_right (not (closes c)) (stay_open cs) e) (call-keeps c (shut (closes c) (and_left (not (closes c)) (stay_open cs) e)) h)
  where
    shut : (b : Bool) → not b ≡ true → b ≡ false
    shut b g = not-true b g

-- ---- a try that was left: none of the three bits changes
pub left_agrees : {m w : ℕ} (cs : List Call) (passed : Bool) → stay_open cs ≡ true → Agrees m w → Agrees (mark_after m false passed) (word_behind w cs)
unfolding mark_after
left_agrees {m} {w} cs passed e h =
    let k = open_keeps cs e h in
    record {
      closed = with-other m b_left b_closed (λ z. absurd (omega arith)) ∙ k.closed;
      first = with-other m b_left b_first (λ z. absurd (omega arith)) ∙ k.first;
      last = with-other m b_left b_final (λ z. absurd (omega arith)) ∙ k.last;
    }

-- ---- a try that was closed by its last call, and passed as the tally says
mark-is : (a b x : Bool) → mark_number a b x ≡ try_number a b x false
unfolding mark_number try_number
mark-is a b x = sym (add-zero _)

closed-word : (w : ℕ) (c : Call) → closes c ≡ true
    → try_after w c ≡ try_number true (cond (has w b_closed) (has w b_first) (not (has w b_failing || fails c))) (not (has w b_failing || fails c)) false
unfolding try_after
closed-word w c e = cond-t _ _ e

pub closed_agrees : {m w : ℕ} (cs : List Call) (c : Call) → stay_open cs ≡ true → closes c ≡ true → Agrees m w
    → let v = try_after (word_behind w cs) c in Agrees (mark_after m true (has v b_final)) v
unfolding mark_after
closed_agrees {m} {w} cs c e f h = rw (mark-word) (record { closed = refl; first = refl; last = refl })
  where
    u : ℕ
    u = word_behind w cs

    good : Bool
    good = not (has u b_failing || fails c)

    k : Agrees m u
    k = open_keeps cs e h

    final : has (try_after u c) b_final ≡ good
    final = ap (λ (z : ℕ). has z b_final) (closed-word u c f) ∙ (bits_of true (cond (has u b_closed) (has u b_first) good) good false).b2

    mark-word : mark_after m true (has (try_after u c) b_final) ≡ try_after u c
    mark-word =
        mark-is true (cond (has m b_closed) (has m b_first) (has (try_after u c) b_final)) (has (try_after u c) b_final)
        ∙ rw (final, k.closed, k.first) (sym (closed-word u c f))

-- ---- so the counts are the same: rules 9.17 and 9.18 over the jobs of a night
count_same : (f g : ℕ → Bool) (n : ℕ) → ((i : ℕ) → i < n → f i ≡ g i) → count_if f n ≡ count_if g n
unfolding count_if
count_same f g zero h = refl
count_same f g (suc n) h = rw (count_same f g n (λ i l. h i (omega arith)), h n (omega arith))

module _ {n : ℕ} (marks words : List ℕ) (h : AgreeUpto n marks words) where
  pub closed_same : count_with marks n b_closed ≡ count_with words n b_closed
  unfolding count_with
  closed_same = count_same (λ i. has (get_or marks i 0) b_closed) (λ i. has (get_or words i 0) b_closed) n (λ i l. (h i l).closed)

  pub first-same : count_with marks n b_first ≡ count_with words n b_first
  unfolding count_with
  first-same = count_same (λ i. has (get_or marks i 0) b_first) (λ i. has (get_or words i 0) b_first) n (λ i l. (h i l).first)

  pub last-same : count_with marks n b_final ≡ count_with words n b_final
  unfolding count_with
  last-same = count_same (λ i. has (get_or marks i 0) b_final) (λ i. has (get_or words i 0) b_final) n (λ i l. (h i l).last)
