use mathlib.Core.Path.{◌≡◌, sym, ap, ◌∙◌}
use borrow.Author.Rules.{rules}
use native.Mathlib.Omega.{arith}
use Rattle.bounded.specs.Below.{one, count_below}
use Rattle.masks.specs.Lines.{in_mask}
use Rattle.masks.proofs.Counts.{nth-found, nth-turn, nth-ended}
use Rattle.masks.proofs.nth_in.Goals as goal
use Rattle.masks.proofs.nth_in.Goals.{then-has+else-left-eq0, else-has}

pub loop-i-init : goal.loop-i-init
unfolding count_below
loop-i-init c = search rules

pub returns-then-left-eq0 : goal.returns-then-left-eq0
returns-then-left-eq0 c =
    nth-found c.args.m c.args.n c.loop-i.i c.loop-i.left c.loop-i.invariant
    (omega arith) (sym c.has.ensures ∙ c.if-has.true) c.if-left-eq0.true

pub loop-i-preserved : goal.loop-i-preserved
unfolding one
loop-i-preserved c =
    nth-turn c.args.m c.args.n c.loop-i.i c.loop-i.left c.loop-i.invariant c.if-has.left
    (elim c.if-has.branch [
      | then-has+else-left-eq0 w ↦
          let e : one (in_mask c.args.m c.loop-i.i) ≡ 1 = ap one (sym c.has.ensures ∙ w.if-has.true) in omega arith
      | else-has w ↦ let e : one (in_mask c.args.m c.loop-i.i) ≡ 0 = ap one (sym c.has.ensures ∙ w.if-has.false) in omega arith
    ])

pub returns : goal.returns
returns c =
    nth-ended c.args.m c.args.n c.loop-i.i c.loop-i.left c.loop-i.invariant c.loop-i.auto.i-end c.loop-i-test.false
