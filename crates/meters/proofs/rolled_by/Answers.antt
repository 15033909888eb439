use Prim.Native.Nat.{◌<◌, ◌≤◌}
use native.Mathlib.Nat.{mod-lt}
use native.Mathlib.Omega.{arith}
use Rattle.meters.specs.Meters.{modulus_of}
use Rattle.meters.proofs.MeterLaws.{modulus-range, rolled-sum}
use Rattle.meters.proofs.rolled_by.Goals as goal

range : (c : goal.After-modulus-k) → let a = c.args in (100 ≤ modulus_of a.moduli.now a.m) × (modulus_of a.moduli.now a.m ≤ 1000000000000)
range c = let s = c.before in modulus-range s.args.moduli.now s.requires.0 s.args.m s.requires.1

some : (c : goal.After-modulus-k) → 0 < c.modulus-k.result
some c = omega (arith, c.modulus-k.ensures, (range c).0)

pub overflow_add-result : goal.overflow_add-result
overflow_add-result c =
    let a = c.args in
    let x = mod-lt a.stored (some c) in
    let y = mod-lt a.amount (some c) in
    record { fits = omega (arith, x, y, c.modulus-k.ensures, (range c).1) }

pub returns : goal.returns
returns c = let a = c.args in rw c.modulus-k.ensures (rolled-sum a.moduli.now a.m a.stored a.amount)

pub nonzero_rem-result : goal.nonzero_rem-result
nonzero_rem-result c = some c

pub nonzero_rem-result-2 : goal.nonzero_rem-result-2
nonzero_rem-result-2 c = some c

pub nonzero_rem-result-3 : goal.nonzero_rem-result-3
nonzero_rem-result-3 c = some c
