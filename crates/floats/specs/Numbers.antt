-- DEFINITIONS. Floats as the definitions write them: each operation rounded once, constants by their bits. Assumes nothing.
use Rattle.std.specs.Prelude.{ℕ, cond, List, pos, get_or, Float}
use Rattle.std.specs.Float.Ieee as Ieee
use Rattle.std.specs.Float.{nan, binary64}
use Rattle.std.specs.Float.Ieee.{lt}

infixl 65 ◌⊕◌
infixl 65 ◌⊖◌
infixl 70 ◌⊗◌
infixl 70 ◌⊘◌
abbrev pub ◌⊕◌ : Float → Float → Float
x ⊕ y = Ieee.add binary64 x y

abbrev pub ◌⊖◌ : Float → Float → Float
x ⊖ y = Ieee.sub binary64 x y

abbrev pub ◌⊗◌ : Float → Float → Float
x ⊗ y = Ieee.mul binary64 x y

abbrev pub ◌⊘◌ : Float → Float → Float
x ⊘ y = Ieee.div binary64 x y

-- the number of a bit pattern, the bit pattern of a number, and a whole number as a float
abbrev pub num : ℕ → Float
num w = Ieee.of_bits binary64 w

abbrev pub bits : Float → ℕ
bits x = Ieee.to_bits binary64 x

abbrev pub of_nat : ℕ → Float
of_nat n = Ieee.of_int binary64 (pos n)

-- 0, 1/4, 1/2, 3/4, 1, 2, 3, 4, 6, tau, 1e-4, 1e-9, 1e-12, 1e-30
abbrev pub f0 : Float
f0 = num 0

abbrev pub f¼ : Float
f¼ = num 0x3fd0_0000_0000_0000

abbrev pub f½ : Float
f½ = num 0x3fe0_0000_0000_0000

abbrev pub f¾ : Float
f¾ = num 0x3fe8_0000_0000_0000

abbrev pub f1 : Float
f1 = num 0x3ff0_0000_0000_0000

abbrev pub f2 : Float
f2 = num 0x4000_0000_0000_0000

abbrev pub f3 : Float
f3 = num 0x4008_0000_0000_0000

abbrev pub f4 : Float
f4 = num 0x4010_0000_0000_0000

abbrev pub f6 : Float
f6 = num 0x4018_0000_0000_0000

abbrev pub tau : Float
tau = num 0x4019_21fb_5444_2d18

abbrev pub 1e-4 : Float
1e-4 = num 0x3f1a_36e2_eb1c_432d

abbrev pub 1e-9 : Float
1e-9 = num 0x3e11_2e0b_e826_d695

abbrev pub 1e-12 : Float
1e-12 = num 0x3d71_9799_812d_ea11

abbrev pub 1e-30 : Float
1e-30 = num 0x39b4_484b_feeb_c2a0

-- |x|, never -0; the larger; x held between two numbers
abbrev pub abs_of : Float → Float
abs_of x = cond (lt f0 x) x (f0 ⊖ x)

abbrev pub larger_of : Float → Float → Float
larger_of x y = cond (lt x y) y x

abbrev pub held_in : Float → Float → Float → Float
held_in lo hi x = cond (lt x lo) lo (cond (lt hi x) hi x)

-- number i of a list
abbrev pub at : List Float → ℕ → Float
at xs i = get_or xs i nan
