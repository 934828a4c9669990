-- CONTRACTS. What is left of whole numbers by tau's digits. Assumes nothing.
use Rattle.std.specs.Prelude.{ℕ, ◌*◌, ◌%◌, ◌^◌}

-- tau is so many times 2 ^ -50
abbrev pub tau_digits : ℕ
tau_digits = 0x19_21fb_5444_2d18

abbrev pub left_by_tau : ℕ → ℕ → ℕ
left_by_tau digits n = digits * 2 ^ n % tau_digits
