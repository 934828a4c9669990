-- LAWS. From what the writers of lines promise to the bytes that wait. Assumes nothing.
use Rattle.std.specs.Prelude.{ℕ, zero, suc, ◌+◌, ◌≤◌, ◌≡◌, refl, Bool, true, false, cond, List, [], ◌∷◌, ◌++◌, length, take, drop}
use Rattle.std.proofs.Common.{zero-le, sym, ap, ◌∙◌, subst, append-nil, arith, add-zero, length-append, take_at, length-take-le}
use Rattle.std.proofs.lemmas.List.Edits.{sets, sets-eq}
use Rattle.std.proofs.Math.Seq.{length-sets}
use Rattle.csv_figures.specs.Out.{Wrote}
use Rattle.csv_figures.specs.Write.{whole_text}
use Rattle.csv_decimal.specs.Widths.{width-ten}
use Rattle.csv_figures.specs.Writers.{whole_length}
use Rattle.csv_words.specs.Text.{bytes}
use Rattle.csv_words.specs.Words.{same}
use Rattle.csv_line.specs.LineText.{crlf}
use Rattle.csv_header.specs.Header.{header, header_out}
use Rattle.csv_line.specs.Notice.{notice_text}
use Rattle.csv_count.specs.Count.{bad_text}
use Rattle.csv_out.specs.declared.Run.{Run}
use Rattle.csv_out.specs.Say.{Say, notice_room, header_room, refusal, heading}
use Rattle.csv_out.specs.Said.{Adds, Noted, Said}

-- ---- how long the lines are
pub notice_short : (line number : ℕ) (refused : Bool) → length (notice_text line number refused) ≤ notice_room
unfolding notice_text
notice_short line number refused = go (cond refused (bytes ",refused") []) (short refused)
  where
    short : (b : Bool) → length (cond b (bytes ",refused") []) ≤ 8
    short true = lib.Dec.lit≤ tt
    short false = lib.Dec.lit≤ tt

    go : (w : List ℕ) → length w ≤ 8 → length (whole_text line ++ ((44 ∷ whole_text number) ++ (w ++ crlf))) ≤ notice_room
    go w h =
        let a = length-append (whole_text line) ((44 ∷ whole_text number) ++ (w ++ crlf)) in
        let b = length-append (44 ∷ whole_text number) (w ++ crlf) in
        omega (arith, a, b, length-append w crlf, whole_length line, whole_length number, width-ten line, width-ten number)

pub header-short : length (header_out ++ crlf) ≤ header_room
header-short = lib.Dec.lit≤ tt

-- ---- bytes that are added
pub adds_none : (o : List ℕ) (n : ℕ) → Adds [] o n o n
adds_none o n = record { count = sym (add-zero n); bytes = sym (append-nil (take n o)); same = refl }

pub adds-text : (t o o' : List ℕ) (n r : ℕ) → n + length t ≤ length o → r ≡ n + length t → o' ≡ sets o n t → Adds t o n o' r
adds-text t o o' n r h e w =
    let long : length (take n o ++ t) ≡ r = length-append (take n o) t ∙ ap (λ (k : ℕ). k + length t) (length-take-le n o (omega arith)) ∙ sym e in
    record {
      count = e;
      bytes = ap (λ (l : List ℕ). take r l) (w ∙ sets-eq t o n h) ∙ take_at (take n o ++ t) (drop (n + length t) o) r long;
      same = ap length w ∙ length-sets o n t;
    }

pub adds-wrote : {t o o' : List ℕ} {n r : ℕ} → n + length t ≤ length o → Wrote o n t o' r → Adds t o n o' r
adds-wrote {t} {o} {o'} {n} {r} h w = adds-text t o o' n r h w.next w.text

pub adds-kept : (o o' : List ℕ) (n : ℕ) → take n o' ≡ take n o → length o' ≡ length o → Adds [] o n o' n
adds-kept o o' n e l = record { count = sym (add-zero n); bytes = e ∙ sym (append-nil (take n o)); same = l }

-- ---- notices
pub noted-said : {t e e' : List ℕ} {run r : Run} (b : Bool) (o o' : List ℕ) → take run.out o' ≡ take run.out o → length o' ≡ length o
    → Noted b t run e r e' → Said (record { refused = b; out = []; err = t }) run o e r o' e'
noted-said {t} {e} {e'} {run} {r} b o o' k l n =
    record {
      physical = n.physical;
      source = n.source;
      refused = n.refused;
      out = subst (λ (m : ℕ). Adds [] o run.out o' m) (sym n.out) (adds-kept o o' run.out k l);
      err = n.err;
    }

-- ---- what is said, by cases
abbrev pub says : Bool → List ℕ → List ℕ → Say
says b o e = record { refused = b; out = o; err = e }

pub heading-good : (physical : ℕ) (text : List ℕ) → same header text ≡ true → heading physical text ≡ says false (header_out ++ crlf) []
unfolding heading
heading-good physical text e = rw e

pub heading_bad : (physical : ℕ) (text : List ℕ) → same header text ≡ false → heading physical text ≡ says true [] (notice_text physical bad_text true)
unfolding heading refusal
heading_bad physical text e = rw e

-- ---- the answers of the proofs, in one step each
pub note : {b : Bool} {s t e e' : List ℕ} {run r : Run} → s ≡ t → r.out ≡ run.out → r.physical ≡ run.physical
    → r.source ≡ run.source → r.refused ≡ b → length t ≤ notice_room
    → run.err + notice_room ≤ length e → Wrote e run.err t e' r.err → Noted b s run e r e'
note {b} {s} {t} {e} {e'} {run} {r} z p q k f l h w =
    rw z (record { out = p; physical = q; source = k; refused = f; err = adds-wrote (omega arith) w })

pub no_note : {t e : List ℕ} {run : Run} → t ≡ [] → Noted run.refused t run e run e
no_note {t} {e} {run} z = rw z (record { out = refl; physical = refl; source = refl; refused = refl; err = adds_none e run.err })

pub say_noted : {p : Say} {t e e' o o' : List ℕ} {run r : Run} → p ≡ says true [] t
    → take run.out o' ≡ take run.out o → length o' ≡ length o → Noted true t run e r e' → Said p run o e r o' e'
say_noted {p} {t} {e} {e'} {o} {o'} {run} {r} z k l n = subst (λ (s : Say). Said s run o e r o' e') (sym z) (noted-said true o o' k l n)

pub say_header : {p : Say} {o o' e : List ℕ} {run r : Run} → p ≡ says false (header_out ++ crlf) [] → r.physical ≡ run.physical
    → r.source ≡ run.source → r.refused ≡ false → r.err ≡ run.err → run.out + header_room ≤ length o
    → Wrote o run.out (header_out ++ crlf) o' r.out → Said p run o e r o' e
say_header {p} {o} {o'} {e} {run} {r} z q s f d h w =
    subst (λ (x : Say). Said x run o e r o' e) (sym z)
    (record {
      physical = q;
      source = s;
      refused = f;
      out = adds-wrote (omega (arith, header-short)) w;
      err = subst (λ (m : ℕ). Adds [] e run.err e m) (sym d) (adds_none e run.err);
    })

-- what waits stays within the buffer
take_short : (n : ℕ) (l : List ℕ) → length (take n l) ≤ length l
take_short zero l = zero-le
take_short (suc n) [] = zero-le
take_short (suc n) (c ∷ l) = let h = take_short n l in omega arith

pub adds-within : {t o o' : List ℕ} {n r : ℕ} → n ≤ length o → Adds t o n o' r → r ≤ length o'
adds-within {t} {o} {o'} {n} {r} h w =
    let e = ap length w.bytes ∙ length-append (take n o) t ∙ ap (λ (k : ℕ). k + length t) (length-take-le n o h) in
    omega (arith, e, take_short r o', w.count)
