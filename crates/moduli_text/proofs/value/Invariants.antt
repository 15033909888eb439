use Prim.Native.Nat.{min}
use mathlib.Core.Path.{◌≡◌}
use Rattle.bounded.specs.Below.{up_to}
use Rattle.moduli_text.specs.Text.{with_digit}
use Rattle.moduli_text.proofs.value.Given as goal

-- the number of the first digits, capped
abbrev pub invariant-loop-c : goal.invariant-loop-c
invariant-loop-c l = l.v ≡ min (up_to l.c-index (with_digit l.s) 0) 1000000000001
