use borrow.Author.Rules.{rules}
use mathlib.Core.Path.{◌≡◌, ap, sym, ◌∙◌}
use mathlib.Core.Bool.{Bool, not}
use native.Mathlib.Omega.{arith}
use borrow.Author.Tests.{eq-eqb, ne_eqb}
use Rattle.bounded.specs.Below.{one, count_below}
use Rattle.state.specs.Held.{held_slots}
use Rattle.bounded.proofs.Nth.{nth-found, nth-turn, nth-ended}
use Rattle.op_commit.proofs.held_slot.Invariants.{holds}
use Rattle.op_commit.proofs.held_slot.Goals as goal
use Rattle.op_commit.proofs.held_slot.Goals.{then-m-ne0+else-left-eq0, else-m-ne0}

pub loop-s-init : goal.loop-s-init
unfolding count_below
loop-s-init c = search rules

pub returns-then-left-eq0 : goal.returns-then-left-eq0
unfolding held_slots
returns-then-left-eq0 c =
    nth-found _ _ _ _ c.loop-s.left c.loop-s.invariant c.loop-s-test.true (ap not (ne_eqb _ _ (λ q. c.if-m-ne0.true (c.held_at-m.ensures ∙ q)))) c.if-left-eq0.true

pub loop-s-preserved : goal.loop-s-preserved
unfolding one
loop-s-preserved c =
    let test = holds c.args.words.now c.args.w c.loop-s.s in
    nth-turn (holds c.args.words.now c.args.w) c.args.z.slots _ c.loop-s.s c.loop-s.left c.loop-s.invariant c.if-m-ne0.left
    (elim c.if-m-ne0.branch [
      | then-m-ne0+else-left-eq0 w ↦ let e : one test ≡ 1 = ap (λ (b : Bool). one (not b)) (ne_eqb _ _ (λ k. w.if-m-ne0.true (c.held_at-m.ensures ∙ k))) in omega arith
      | else-m-ne0 w ↦ let e : one test ≡ 0 = ap (λ (b : Bool). one (not b)) (eq-eqb _ _ (sym c.held_at-m.ensures ∙ w.if-m-ne0.false)) in omega arith
    ])

pub returns : goal.returns
unfolding held_slots
returns c = nth-ended _ _ _ _ c.loop-s.left c.loop-s.invariant c.loop-s.auto.s-end c.loop-s-test.false
