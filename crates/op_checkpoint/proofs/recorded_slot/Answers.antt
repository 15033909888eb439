use borrow.Author.Rules.{rules}
use mathlib.Core.Path.{◌≡◌, ap, sym, ◌∙◌}
use mathlib.Core.Bool.{Bool, not}
use native.Mathlib.Omega.{arith}
use borrow.Author.Tests.{eq-eqb, ne_eqb}
use Rattle.bounded.specs.Below.{one, count_below}
use Rattle.bounded.proofs.Nth.{nth-turn}
use Rattle.operations.specs.Operations.{recorded_slots}
use Rattle.op_checkpoint.proofs.CheckpointPieces.{found, ended}
use Rattle.op_checkpoint.proofs.recorded_slot.Invariants.{recorded}
use Rattle.op_checkpoint.proofs.recorded_slot.Goals as goal
use Rattle.op_checkpoint.proofs.recorded_slot.Goals.{then-q+else-left-eq0, else-q}

pub loop-s-init : goal.loop-s-init
unfolding count_below
loop-s-init c = search rules

pub returns-then-left-eq0 : goal.returns-then-left-eq0
unfolding recorded_slots
returns-then-left-eq0 c =
    found _ _ _ _ c.loop-s.left c.loop-s.invariant c.loop-s-test.true (ap not (ne_eqb _ _ (λ q. c.if-q.true (c.last_at-q.ensures ∙ q)))) c.if-left-eq0.true

pub loop-s-preserved : goal.loop-s-preserved
unfolding one
loop-s-preserved c =
    let test = recorded c.args.words.now c.loop-s.s in
    nth-turn (recorded c.args.words.now) c.args.z.slots _ c.loop-s.s c.loop-s.left c.loop-s.invariant c.if-q.left
    (elim c.if-q.branch [
      | then-q+else-left-eq0 w ↦ let e : one test ≡ 1 = ap (λ (b : Bool). one (not b)) (ne_eqb _ _ (λ k. w.if-q.true (c.last_at-q.ensures ∙ k))) in omega arith
      | else-q w ↦ let e : one test ≡ 0 = ap (λ (b : Bool). one (not b)) (eq-eqb _ _ (sym c.last_at-q.ensures ∙ w.if-q.false)) in omega arith
    ])

pub returns : goal.returns
unfolding recorded_slots
returns c = ended _ _ _ _ c.loop-s.left c.loop-s.invariant c.loop-s.auto.s-end c.loop-s-test.false
