-- LAWS. How tries are cut. Assumes nothing.
use Rattle.std.specs.Prelude.{◌≡◌, refl, false, List, [], ◌∷◌, ◌++◌}
use Rattle.std.proofs.Common.{sym, ◌∙◌, ap, append_assoc, append-nil}
use Rattle.floats.specs.Lists.{flatten, any_of}
use Rattle.floats.specs.Truth.{by_bit, or_f}
use Rattle.tally_call.specs.declared.Call.{Call}
use Rattle.tally_call.specs.Calls.{closes}
use Rattle.tally_laws.specs.Jobs.{tries_from, open_from}
use Rattle.tally_laws.specs.Statements.{Try, Each, nil, cons, TriesCut}
use Rattle.tally_laws.specs.ListLaws.{any_snoc}

whole : (since cs : List Call) → flatten (tries_from since cs) ++ open_from since cs ≡ since ++ cs
unfolding tries_from open_from flatten
whole since [] = sym (append-nil since)
whole since (c ∷ cs) =
    by_bit (closes c)
    (λ b. rw b (append_assoc (since ++ (c ∷ [])) (flatten (tries_from [] cs)) (open_from [] cs)
    ∙ ap (λ (z : List Call). (since ++ (c ∷ [])) ++ z) (whole [] cs) ∙ append_assoc since (c ∷ []) cs))
    (λ b. rw b (whole (since ++ (c ∷ [])) cs ∙ append_assoc since (c ∷ []) cs))

still_open : (since : List Call) (c : Call) → any_of closes since ≡ false → closes c ≡ false → any_of closes (since ++ (c ∷ [])) ≡ false
still_open since c n b = any_snoc closes since c ∙ or_f (closes c) n ∙ b

each-try : (since cs : List Call) → any_of closes since ≡ false → Each Try (tries_from since cs)
unfolding tries_from any_of
each-try since [] n = nil
each-try since (c ∷ cs) n =
    by_bit (closes c)
    (λ b. rw b (cons (record { before = since; close = c; is = refl; none = n; ends = b }) (each-try [] cs refl)))
    (λ b. rw b (each-try (since ++ (c ∷ [])) cs (still_open since c n b)))

none_open : (since cs : List Call) → any_of closes since ≡ false → any_of closes (open_from since cs) ≡ false
unfolding open_from any_of
none_open since [] n = n
none_open since (c ∷ cs) n = by_bit (closes c) (λ b. rw b (none_open [] cs refl)) (λ b. rw b (none_open (since ++ (c ∷ [])) cs (still_open since c n b)))

-- what tries are: the calls in their order, each try ended by its one accepted close
pub tries_cut : (cs : List Call) → TriesCut cs
unfolding any_of
tries_cut cs = record { all = whole [] cs; each = each-try [] cs refl; rest = none_open [] cs refl }
