-- The room of n rows, each of w numbers, as a loop takes it row by row.
use Prim.Native.Nat.{ℕ, ◌+◌, ◌*◌, ◌<◌, ◌≤◌}
use mathlib.Core.Path.{◌≡◌}
use native.Mathlib.Nat.{mul-suc, mul-le-mul_left}
use native.Mathlib.Numerals.{add-one}
use native.Mathlib.Omega.{arith}

pub next_row : (w i : ℕ) → w * (i + 1) ≡ w * i + w
next_row w i = rw (add-one, mul-suc) (omega arith)

pub row_left : (w i n : ℕ) → i < n → w * i + w ≤ w * n
row_left w i n h = omega (arith, next_row w i, mul-le-mul_left {m = i + 1} {n = n} w (omega (arith, h)))
