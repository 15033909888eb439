use mathlib.Core.Path.{◌≡◌, ap, subst, ◌∙◌}
use Prim.Native.Nat.{ℕ, ◌+◌, ◌-◌, ◌/◌, ◌^◌, ◌<◌}
use native.Mathlib.Omega.{arith}
use Rattle.decimals.proofs.Printing.{wide, wide-zero, length_digits, Fewer, fewer}
use Rattle.decimals.proofs.width.Goals as goal

pub loop-rest-init : goal.loop-rest-init
loop-rest-init c = (omega arith, omega arith, length_digits 19 c.args.v)

pub loop-rest-preserved : goal.loop-rest-preserved
loop-rest-preserved c =
    let h = c.loop-rest in
    let f : Fewer (20 - h.n) h.rest = fewer (20 - h.n) h.rest c.loop-rest-test.true h.invariant.1 in
    let e : 20 - h.n - 1 ≡ 20 - (h.n + 1) = omega (arith, f.some) in (
      omega (arith, f.some),
      subst (λ (m : ℕ). h.rest / 10 < 10 ^ m) e f.less,
      h.invariant.2
          ∙ ap (λ (m : ℕ). h.n + m) f.count
          ∙ (omega arith)
          ∙ ap (λ (m : ℕ). h.n + 1 + wide m (h.rest / 10)) e,
    )

pub returns : goal.returns
returns c =
    let h = c.loop-rest in
    let z : h.rest ≡ 0 = omega arith in
    omega (arith, h.invariant.2, ap (wide (20 - h.n)) z, wide-zero (20 - h.n))
