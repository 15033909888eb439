use lib.Pow.{ones_lt}
use Rattle.masks.proofs.Members.{shifted_one}
use native.Mathlib.Omega.{arith}
use Prim.Native.Nat.{ℕ, ◌-◌, ◌^◌, ◌<◌}
use mathlib.Core.Path.{sym, ap}
use Rattle.naming.proofs.first_ones.Goals as goal

pub returns-then-n-eq64 : goal.returns-then-n-eq64
returns-then-n-eq64 c = ap (λ (n : ℕ). 2 ^ n - 1) (sym c.if-n-eq64.true)

pub overflow_sub-result : goal.overflow_sub-result
overflow_sub-result c = let n = c.args.n in
    let l : n < 64 = omega (arith, c.requires, c.if-n-eq64.false) in
    omega (arith, shifted_one n l, ones_lt n)

pub returns : goal.returns
returns c = let n = c.args.n in
    let l : n < 64 = omega (arith, c.requires, c.if-n-eq64.false) in
    rw (shifted_one n l)
