-- Where a turn brought no bytes, none are counted. Assumes nothing.
use Prim.Native.Nat.{ℕ, ◌+◌, ◌-◌, ◌≤◌, ◌<◌, ◌^◌}
use mathlib.Core.Path.{◌≡◌, refl, sym, ap, subst}
use mathlib.Core.List.{List, []}
use native.Mathlib.Omega.{arith}
use native.Mathlib.Nat.{add-zero}
use lib.ListN.{take, drop}
use Rattle.checksum.specs.Checksum.{with_bytes}
use Rattle.text_lines.specs.declared.Turn.{Turn}
use Rattle.night_flush.specs.declared.Reading.{Reading}
use Rattle.night_reading.specs.declared.Sum.{Sum}
use Rattle.night_reading.specs.Reading.{came_by}
use Rattle.night_reading.specs.Readings.{Summed}

pub none_came : (s : Reading) (t : Turn) (b : List ℕ) → t.end ≤ t.at + (s.end - s.at)
    → let was : Sum = record { sum = s.sum; length = s.length } in Summed was (came_by s t b) was
unfolding with_bytes
none_came s t b h =
    let from = t.at + (s.end - s.at) in
    let z : t.end - from ≡ 0 = omega arith in
    let none : came_by s t b ≡ [] = ap (λ (k : ℕ). take k (drop from b)) z in
    subst (λ (x : List ℕ). Summed was x was) (sym none) (record { sum = refl; count = λ (l : s.length + 0 < 2 ^ 64). sym (add-zero s.length) })
  where
    was : Sum
    was = record { sum = s.sum; length = s.length }
