use Prim.Native.Nat.{ℕ, min}
use mathlib.Core.Path.{refl, ap, ◌∙◌}
use native.Mathlib.Omega.{arith}
use Rattle.bounded.specs.Below.{up_to}
use Rattle.bounded.proofs.Below.{up_none, up_turn, ends}
use Rattle.moduli_text.specs.Text.{with_digit, value_of}
use Rattle.moduli_text.proofs.value.Goals as goal

pub loop-c-init : goal.loop-c-init
loop-c-init c = omega (arith, up_none {A = ℕ} (with_digit c.args.s.now) 0)

pub loop-c-preserved : goal.loop-c-preserved
loop-c-preserved c =
    let l = c.args.s.now in
    let i = c.loop-c.c-index in
    omega (arith, c.loop-c.invariant, up_turn {A = ℕ} (with_digit l) 0 (up_to i (with_digit l) 0) i refl)

pub returns : goal.returns
unfolding value_of
returns c =
    c.loop-c.invariant
    ∙ ap (λ (x : ℕ). min x 1000000000001) (ends (λ k. up_to k (with_digit c.args.s.now) 0) _ _ c.loop-c.auto.c-index-end c.loop-c-test.false)
