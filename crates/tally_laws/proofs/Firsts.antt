-- LAWS. Whether a job's first try passed is settled at its first accepted close, and by a failing call before that. Assumes nothing.
use Rattle.std.specs.Prelude.{ℕ, ◌≡◌, refl, Bool, true, false, ◌||◌, not, List, [], ◌∷◌, ◌++◌}
use Rattle.std.proofs.Common.{sym, ◌∙◌, ap}
use Rattle.std.proofs.lemmas.Bool.{false≢true}
use Rattle.floats.specs.Lists.{any_of}
use Rattle.floats.specs.Truth.{by_bit, or_t}
use Rattle.tally_words.specs.Words.{empty_tally}
use Rattle.tally_call.specs.Calls.{fails, closes}
use Rattle.tally_call.specs.declared.Call.{Call}
use Rattle.tally_laws.specs.Jobs.{Note, JobCall, answer, took, run, taken, calls_of, tries_from, open_from, tries_of, passes, any_try, first_passes}
use Rattle.tally_laws.specs.ListLaws.{any_snoc}
use Rattle.tally_laws.proofs.JobLaws.{calls_append}

-- the tries of more calls are those of the first ones, and then those that the rest closes
tries_append : (since cs ds : List Call) → tries_from since (cs ++ ds) ≡ tries_from since cs ++ tries_from (open_from since cs) ds
unfolding tries_from open_from
tries_append since [] ds = refl
tries_append since (c ∷ cs) ds =
    by_bit (closes c)
    (λ b. rw b (ap (λ (z : List (List Call)). (since ++ (c ∷ [])) ∷ z) (tries_append [] cs ds)))
    (λ b. rw b (tries_append (since ++ (c ∷ [])) cs ds))

first_append : (xs ys : List (List Call)) → any_try xs ≡ true → first_passes (xs ++ ys) ≡ first_passes xs
unfolding any_try first_passes
first_append [] ys h = absurd (false≢true h)
first_append (x ∷ xs) ys h = refl

-- once a job has a closed try, no further call changes whether its first one passed
pub first-stays : (cs ds : List Call) → any_try (tries_of cs) ≡ true → first_passes (tries_of (cs ++ ds)) ≡ first_passes (tries_of cs)
first-stays cs ds h = ap first_passes (tries_append [] cs ds) ∙ first_append (tries_of cs) _ h

taken_append : (st : List ℕ) (ns ms : List Note) → taken st (ns ++ ms) ≡ taken st ns ++ taken (run st ns) ms
unfolding taken run
taken_append st [] ms = refl
taken_append st (n ∷ ns) ms =
    by_bit (took st n)
    (λ b. rw (b, taken_append (answer st n).state ns ms))
    (λ b. rw (b, taken_append (answer st n).state ns ms))

-- the same of what is told to a fresh tally: notes ms behind notes ns, after which the job has a closed try
pub told-first-stays : (ns ms : List Note) (job : ℕ)
    → any_try (tries_of (calls_of job (taken empty_tally ns))) ≡ true
    → first_passes (tries_of (calls_of job (taken empty_tally (ns ++ ms)))) ≡ first_passes (tries_of (calls_of job (taken empty_tally ns)))
told-first-stays ns ms job h =
    let first : List JobCall = taken empty_tally ns in
    let rest : List JobCall = taken (run empty_tally ns) ms in
    let e : calls_of job (taken empty_tally (ns ++ ms)) ≡ calls_of job first ++ calls_of job rest =
    ap (calls_of job) (taken_append empty_tally ns ms) ∙ calls_append job first rest in
    ap (λ (cs : List Call). first_passes (tries_of cs)) e ∙ first-stays (calls_of job first) (calls_of job rest) h

-- ---- a call that fails, before any accepted close
fails_more : (since : List Call) (c : Call) → (any_of fails since || fails c) ≡ true → passes (since ++ (c ∷ [])) ≡ false
unfolding passes
fails_more since c h = ap not (any_snoc fails since c ∙ h)

failing : (since cs : List Call) → any_of fails since ≡ true → first_passes (tries_from since cs) ≡ false
unfolding tries_from first_passes
failing since [] h = refl
failing since (c ∷ cs) h =
    by_bit (closes c)
    (λ b. rw b (fails_more since c (or_t _ h)))
    (λ b. rw b (failing (since ++ (c ∷ [])) cs (any_snoc fails since c ∙ or_t _ h)))

or_right : (a : Bool) {b : Bool} → b ≡ true → (a || b) ≡ true
or_right true h = refl
or_right false h = h

failed-from : (since cs : List Call) (c : Call) (ds : List Call) → any_of closes cs ≡ false → fails c ≡ true
    → first_passes (tries_from since (cs ++ (c ∷ ds))) ≡ false
unfolding tries_from first_passes any_of
failed-from since [] c ds = λ n f.
    by_bit (closes c)
    (λ b. rw b (fails_more since c (or_right (any_of fails since) f)))
    (λ b. rw b (failing (since ++ (c ∷ [])) ds (any_snoc fails since c ∙ or_right (any_of fails since) f)))
failed-from since (x ∷ cs) c ds =
    by_bit (closes x)
    (λ b. rw b (λ n f. absurd (false≢true (sym n))))
    (λ b. rw b (λ n f. failed-from (since ++ (x ∷ [])) cs c ds n f))

-- a call that fails before the first accepted close makes the first try fail, whatever follows: a start in between too
pub failed-stays : (cs : List Call) (c : Call) (ds : List Call) → any_of closes cs ≡ false → fails c ≡ true → first_passes (tries_of (cs ++ (c ∷ ds))) ≡ false
failed-stays cs c ds n f = failed-from [] cs c ds n f
