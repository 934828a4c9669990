-- LAWS. Values of the step lists that antt computes. Assumes nothing.
use mathlib.Core.Path.{◌≡◌, refl}
use lib.Ieee.{binary64, add, sub, mul, div, neg, lt, le, eq, of_bits}
use Rattle.trig.specs.Trig.{sin_steps, cos_steps, acos_steps}
use Rattle.root.specs.Root.{sqrt}

pub sin_nought : sin_steps (of_bits binary64 0) ≡ of_bits binary64 0
unfolding sin_steps add sub mul eq neg of_bits
sin_nought = refl

pub cos_nought : cos_steps (of_bits binary64 0) ≡ of_bits binary64 0x3ff0000000000000
unfolding cos_steps add sub mul eq neg of_bits
cos_nought = refl

pub acos_one : acos_steps (of_bits binary64 0x3ff0000000000000) ≡ of_bits binary64 0
unfolding acos_steps sqrt add sub mul div lt le eq neg of_bits
acos_one = refl

pub acos_nought : acos_steps (of_bits binary64 0) ≡ of_bits binary64 0x3ff921fb54442d18
unfolding acos_steps sqrt add sub mul div lt le eq neg of_bits
acos_nought = refl

pub acos_minus_one : acos_steps (of_bits binary64 0xbff0000000000000) ≡ of_bits binary64 0x400921fb54442d18
unfolding acos_steps sqrt add sub mul div lt le eq neg of_bits
acos_minus_one = refl
