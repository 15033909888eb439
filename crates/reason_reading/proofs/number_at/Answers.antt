use mathlib.Core.Path.{sym, ap, ◌∙◌}
use native.Mathlib.Omega.{arith}
use Prim.Native.Nat.{ℕ}
use lib.ListN.{get_or}
use Rattle.reason_reading.specs.Numbers.{with_digit}
use Rattle.reason_reading.proofs.Scanning.{turn-digit, turn_gap, turn-found, turn-past, end-found, end-past, end-none}
use Rattle.reason_reading.proofs.number_at.Goals as goal

pub loop-b-preserved-in-Some : goal.loop-b-preserved-in-Some
loop-b-preserved-in-Some c =
    turn-digit c.args.text.now c.args.k c.loop-b.left c.loop-b.b-index c.loop-b-test.true c.loop-b.number c.in-Some.v
    (ap (λ (v : ℕ). with_digit v (get_or c.args.text.now c.loop-b.b-index 0)) (sym c.unwrap_or.ensures) ∙ sym c.with_digit.ensures ∙ c.in-Some.is)
    c.loop-b.invariant

pub loop-b-preserved-in_default-number : goal.loop-b-preserved-in_default-number
loop-b-preserved-in_default-number c =
    let none = c.in_default-number.is in
    rw none
    (turn_gap c.args.text.now c.args.k c.loop-b.left c.loop-b.b-index c.loop-b-test.true
    (ap (λ (v : ℕ). with_digit v (get_or c.args.text.now c.loop-b.b-index 0)) (sym (rw none at c.unwrap_or.ensures)) ∙ sym c.with_digit.ensures ∙ c.in_default.is)
    (rw none at c.loop-b.invariant))

pub returns-then-left-eq0 : goal.returns-then-left-eq0
returns-then-left-eq0 c =
    let some = c.in-Some-number.is in
    turn-found c.args.text.now c.args.k c.loop-b.left c.loop-b.b-index c.loop-b-test.true c.in-Some-number.v
    (ap (λ (v : ℕ). with_digit v (get_or c.args.text.now c.loop-b.b-index 0)) (sym (rw some at c.unwrap_or.ensures)) ∙ sym c.with_digit.ensures ∙ c.in_default.is)
    (rw some at c.loop-b.invariant) c.if-left-eq0.true

pub loop-b-preserved : goal.loop-b-preserved
loop-b-preserved c =
    let some = c.in-Some-number.is in
    turn-past c.args.text.now c.args.k c.loop-b.left c.loop-b.b-index c.loop-b-test.true c.in-Some-number.v
    (ap (λ (v : ℕ). with_digit v (get_or c.args.text.now c.loop-b.b-index 0)) (sym (rw some at c.unwrap_or.ensures)) ∙ sym c.with_digit.ensures ∙ c.in_default.is)
    (rw some at c.loop-b.invariant) (omega arith)

pub returns-in_default-number-2 : goal.returns-in_default-number-2
returns-in_default-number-2 c =
    end-none c.args.text.now c.args.k c.loop-b.left c.loop-b.b-index (omega (arith, c.loop-b-test.false)) (rw c.in_default-number-2.is at c.loop-b.invariant)

pub returns-then-left-eq0-2 : goal.returns-then-left-eq0-2
returns-then-left-eq0-2 c =
    end-found c.args.text.now c.args.k c.loop-b.left c.in-Some-number-2.v c.loop-b.b-index (omega (arith, c.loop-b-test.false)) (rw c.in-Some-number-2.is at c.loop-b.invariant) c.if-left-eq0-2.true

pub returns-else-left-eq0-2 : goal.returns-else-left-eq0-2
returns-else-left-eq0-2 c =
    end-past c.args.text.now c.args.k c.loop-b.left c.in-Some-number-2.v c.loop-b.b-index (omega (arith, c.loop-b-test.false)) (rw c.in-Some-number-2.is at c.loop-b.invariant) (omega arith)
