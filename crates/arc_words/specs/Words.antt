-- CONTRACTS. The words of an arc's rows as the code makes them: the axes that they have, the words of a sample and of the end. Assumes nothing.
use Rattle.std.specs.Prelude.{ℕ, ◌+◌, ◌<◌, ◌≡◌, Bool, ◌&&◌, ◌||◌, cond, List, length, get_or, eqb, Float}
use Rattle.std.proofs.Math.Option
use Rattle.std.proofs.Math.Option.{Option}
use Rattle.floats.specs.Numbers.{◌⊕◌, ◌⊖◌, ◌⊗◌, num, bits, at}
use Rattle.trig.specs.Trig.{sin_steps, cos_steps}
use Rattle.layout.specs.Layout.{axis_codes, r_cells}
use Rattle.row_cells.specs.Bits.{has, mask_sum}
use Rattle.row_cells.specs.Row.{present_of}
use Rattle.arc_numbers.specs.Arc.{Ends, Arc, angle_at, radius_at}

-- the axes that the rows of an arc have: the two of the plane, and the programmed ones of the started list
unfoldable pub drawn : ℕ → ℕ → ℕ → ℕ → ℕ → Bool
drawn gs present u v k = eqb k u || (eqb k v || (has gs k && has present k))

abbrev pub drawn_mask : ℕ → List ℕ → ℕ → ℕ → ℕ
drawn_mask gs r u v = mask_sum (drawn gs (present_of r) u v) axis_codes

-- where axis k starts, and how far it goes: with an unknown start it holds its end
unfoldable pub start_of : List ℕ → (ℕ → Option ℕ) → ℕ → Float
start_of r pos k = num (Option.get_or (pos k) (get_or r (r_cells + k) 0))

unfoldable pub span_of : List ℕ → List Float → ℕ → Float
span_of r starts k = num (get_or r (r_cells + k) 0) ⊖ at starts k

unfoldable pub ramp_of : List Float → List Float → Float → ℕ → ℕ
ramp_of starts spans f k = bits (at starts k ⊕ at spans k ⊗ f)

-- axis k's word in the row at the fraction f, and in the last row
unfoldable pub sample_word : Arc → ℕ → ℕ → List Float → List Float → Float → ℕ → ℕ
sample_word c u v starts spans f k =
    cond (eqb k u) (bits (c.cu ⊕ radius_at c f ⊗ cos_steps (angle_at c f)))
    (cond (eqb k v) (bits (c.cv ⊕ radius_at c f ⊗ sin_steps (angle_at c f))) (ramp_of starts spans f k))

unfoldable pub end_word : List ℕ → ℕ → ℕ
end_word r k = get_or r (r_cells + k) 0

unfoldable pub last_word : Ends → ℕ → ℕ → List ℕ → ℕ → ℕ
last_word e u v r k = cond (eqb k u) (bits e.eu) (cond (eqb k v) (bits e.ev) (end_word r k))

-- what the sample asks
pub record SampleOf (words : List ℕ) (u v : ℕ) (starts spans : List Float) : Type 0 where
  pub room : length words ≡ axis_codes
  pub on_u : u < axis_codes
  pub on_v : v < axis_codes
  pub from : length starts ≡ axis_codes
  pub by : length spans ≡ axis_codes
