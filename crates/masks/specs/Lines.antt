-- Sets of lines, kept as 64-bit masks: bit i, of worth 2 ^ i, is line i. All that is said of a mask goes by `in_mask`.
use Rattle.std.specs.Prelude.{ℕ, ◌-◌, ◌/◌, ◌%◌, ◌^◌, Bool, not, List, eqb}
use Rattle.std.specs.Int.Bits.{bit_and, bit_or, bit_xor}
use Rattle.bounded.specs.Below.{count_below, those}

-- whether line i is in the set
unfoldable pub in_mask : ℕ → ℕ → Bool
in_mask m i = eqb (m / 2 ^ i % 2) 1

-- the set with line i
unfoldable pub with_line : ℕ → ℕ → ℕ
with_line m i = bit_or m (2 ^ i)

-- the lines that are in one of the two and not in the other
unfoldable pub exclusive_or : ℕ → ℕ → ℕ
exclusive_or a b = bit_xor a b

-- whether no line is in both
unfoldable pub disjoint : ℕ → ℕ → Bool
disjoint a b = eqb (bit_and a b) 0

-- the lines that are not in the set
unfoldable pub others : ℕ → ℕ
others m = 2 ^ 64 - 1 - m

-- the lines of the set, rising, and how many they are
unfoldable pub lines_in : ℕ → List ℕ
lines_in m = those 64 (in_mask m)

unfoldable pub count_lines : ℕ → ℕ
count_lines m = count_below 64 (in_mask m)

-- the lines that are not in the set, rising
unfoldable pub lines_not_in : ℕ → List ℕ
lines_not_in m = those 64 (λ i. not (in_mask m i))
