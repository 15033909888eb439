-- How long the start of a line is.
use Prim.Native.Nat.{ℕ, ◌≤◌}
use Prim.Native.Char.{code}
use mathlib.Core.List.{◌∷◌, ◌++◌}
use native.Mathlib.Omega.{arith}
use lib.ListN.{length, length-append}
use Rattle.decimals.specs.Decimal.{decimal_of}
use Rattle.decimals.proofs.Printing.{decimal-le}
use Rattle.number_text.specs.Text.{field}
use Rattle.reporting.specs.Text.{shown_start}

pub start-text : (n letter count : ℕ) → length (shown_start n letter count) ≤ 64
start-text n letter count =
    omega (arith, length-append (decimal_of n) (code "," ∷ letter ∷ (field 0 ++ field count)), length-append (field 0) (field count), decimal-le n, decimal-le 0, decimal-le count)
