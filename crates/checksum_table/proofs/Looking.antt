-- Laws of this crate's proofs: a byte by the table, and the loop over bytes. Assumes nothing.
use Prim.Native.Nat.{ℕ, ◌+◌, ◌*◌, ◌/◌, ◌%◌, ◌^◌, ◌<◌}
use mathlib.Core.Path.{◌≡◌, refl, sym, ap, ap₂, ◌∙◌, subst}
use mathlib.Core.List.{List, [], ◌∷◌}
use mathlib.Core.Logic.{⊎_elim}
use native.Mathlib.Omega.{arith}
use native.Mathlib.Numerals.{add-one}
use native.Mathlib.Nat.{add-zero, eq-or-lt_of_le}
use lib.Bits.{bit_xor, xor_zero_r, xor_comm, xor_lt, xor_mod, xor_block, xor_shifted}
use lib.ListN.{length, take, get_or, set, length-set}
use lib.Seq.{take-suc, take-length, get_or-set_same, get_or-set_other}
use Rattle.checksum.specs.Checksum.{tail_bits, steps, with_byte, with_bytes}
use Rattle.checksum.specs.Pieces.{pieces}
use Rattle.checksum_table.specs.Table.{leaves, TableTo}
use Rattle.checksum_table.proofs.Linear.{steps_xor, steps_low, steps-small}

-- ---- a byte by the table
split : (s b : ℕ) → bit_xor s (b * 2 ^ tail_bits) ≡ bit_xor (bit_xor (s / 2 ^ tail_bits) b * 2 ^ tail_bits) (s % 2 ^ tail_bits)
split s b =
    let x : ℕ = s / 2 ^ tail_bits in
    let l : ℕ = s % 2 ^ tail_bits in
    let h : l < 2 ^ tail_bits = omega arith in
    let e : s ≡ x * 2 ^ tail_bits + l = omega arith in
    ap₂ bit_xor e (sym (add-zero (b * 2 ^ tail_bits)))
    ∙ xor_block tail_bits x b l 0 h (omega arith)
    ∙ ap (λ (z : ℕ). bit_xor x b * 2 ^ tail_bits + z) (xor_zero_r l)
    ∙ sym (xor_shifted (bit_xor x b) tail_bits l h)

abbrev first : ℕ → ℕ → ℕ
first s b = bit_xor (s / 2 ^ tail_bits % 256) b

first-is : (s b : ℕ) → b < 256 → bit_xor (s / 2 ^ tail_bits) b % 256 ≡ first s b
first-is s b h = let e : b % 256 ≡ b = omega arith in xor_mod (s / 2 ^ tail_bits) b 8 ∙ ap (bit_xor (s / 2 ^ tail_bits % 256)) e

pub first-low : (s b : ℕ) → b < 256 → first s b < 256
first-low s b h = xor_lt 8 (s / 2 ^ tail_bits % 256) b (omega arith) h

left : (x : ℕ) → steps 8 (x * 2 ^ tail_bits) ≡ leaves (x % 256)
left x = let e : x * 2 ^ tail_bits % 2 ^ 32 ≡ x % 256 * 2 ^ tail_bits = omega arith in steps_low 7 (x * 2 ^ tail_bits) ∙ ap (steps 8) e

pub byte_is : (s b : ℕ) → b < 256 → bit_xor (s % 2 ^ tail_bits * 256) (leaves (first s b)) ≡ with_byte s b
unfolding with_byte
byte_is s b h =
    let x : ℕ = bit_xor (s / 2 ^ tail_bits) b in
    let l : ℕ = s % 2 ^ tail_bits in
    sym (ap (steps 8) (split s b)
    ∙ steps_xor 8 (x * 2 ^ tail_bits) l
    ∙ ap₂ bit_xor (left x ∙ ap leaves (first-is s b h)) (steps-small l (omega arith))
    ∙ xor_comm (leaves (first s b)) (l * 256))

pub by_entry : {e : ℕ} (s b : ℕ) (table : List ℕ) → b < 256 → TableTo 256 table → e ≡ get_or table (first s b) 0
    → bit_xor (s % 2 ^ tail_bits * 256) e ≡ with_byte s b
by_entry s b table h t e = ap (bit_xor (s % 2 ^ tail_bits * 256)) (e ∙ t.is (first s b) (first-low s b h)) ∙ byte_is s b h

-- ---- the table
pub table_none : {t : List ℕ} → length t ≡ 256 → TableTo 0 t
table_none h = record { long = h; is = λ k l. absurd (omega arith) }

pub table_more : {t : List ℕ} {n v : ℕ} → TableTo n t → n < 256 → v ≡ leaves n → TableTo (n + 1) (set t n v)
table_more {t} {n} {v} p h e =
    record {
      long = length-set t n v ∙ p.long;
      is = λ (k : ℕ) (l : k < n + 1). ⊎_elim
          (λ (q : k ≡ n). subst (λ (j : ℕ). get_or (set t n v) j 0 ≡ leaves j) (sym q) (get_or-set_same t n v 0 (omega (arith, p.long)) ∙ e))
          (λ (q : k < n). get_or-set_other t n k v 0 (λ (z : k ≡ n). omega arith) ∙ p.is k q)
          (eq-or-lt_of_le {n = k} {m = n} (omega arith));
    }

pub table-all : {t : List ℕ} (n : ℕ) → n ≡ 256 → TableTo n t → TableTo 256 t
table-all {t} n e p = subst (λ (k : ℕ). TableTo k t) e p

-- ---- byte after byte
pub bytes-none : (s : ℕ) (l : List ℕ) → s ≡ with_bytes s (take 0 l)
unfolding with_bytes
bytes-none s l = refl

pub bytes-more : {t u : ℕ} (s : ℕ) (l : List ℕ) (i : ℕ) → t ≡ with_bytes s (take i l) → i < length l → u ≡ with_byte t (get_or l i 0)
    → u ≡ with_bytes s (take (i + 1) l)
unfolding with_bytes
bytes-more s l i e h f =
    f
    ∙ ap (λ (z : ℕ). with_byte z (get_or l i 0)) e
    ∙ sym (ap (λ (k : ℕ). with_bytes s (take k l)) (add-one i) ∙ ap (with_bytes s) (take-suc l i 0 h) ∙ pieces s (take i l) (get_or l i 0 ∷ []))

pub bytes-all : {t : ℕ} (s : ℕ) (l : List ℕ) (i : ℕ) → t ≡ with_bytes s (take i l) → i ≡ length l → t ≡ with_bytes s l
bytes-all s l i e h = e ∙ ap (λ (k : ℕ). with_bytes s (take k l)) h ∙ ap (with_bytes s) (take-length l)
