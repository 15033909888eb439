use Rattle.std.proofs.Common.{◌∙◌, sym, arith}
use Rattle.cutting.proofs.Cutting.{stands_here, stands_later, stands_not}
use Rattle.cutting.proofs.find.Goals as goal

pub returns-then-input-at-clause-value : goal.returns-then-input-at-clause-value
returns-then-input-at-clause-value c =
    let l = c.loop-at in
    stands_here c.args.b c.args.input.now l.at c.args.to c.loop-at-test.true c.requires.high c.if-input-at.true ∙ sym l.invariant

pub loop-at-preserved : goal.loop-at-preserved
loop-at-preserved c =
    let l = c.loop-at in
    l.invariant ∙ stands_later c.args.b c.args.input.now l.at c.args.to c.loop-at-test.true c.requires.high c.if-input-at.false

pub returns-clause-value : goal.returns-clause-value
returns-clause-value c =
    let l = c.loop-at in
    omega (arith, l.invariant, stands_not c.args.b c.args.input.now l.at c.args.to c.loop-at-test.false)
