use borrow.Author.Rules.{rules}
use Rattle.std.proofs.lemmas.Result.{err_from_is_err_and}
use Rattle.moduli_text.proofs.TextLaws.{going-first, going-stops, going_on, unended, more_left, nothing_left}
use Rattle.moduli_text.proofs.read_moduli.Goals as goal

pub loop-m-init : goal.loop-m-init
loop-m-init c = going-first c.args.text.now

pub returns-in_err-line : goal.returns-in_err-line
returns-in_err-line c =
    let p = err_from_is_err_and c.from_residual.result c.from_residual.ensures.1 in
    let e = c.in_err-line.ensures in
    rw (p.1, p.2, e.0) (unended c.args.text.now _ _ _ c.loop-m.invariant c.loop-m-test.true e.1)

pub returns-in_err-moduli : goal.returns-in_err-moduli
returns-in_err-moduli c =
    let p = err_from_is_err_and c.from_residual-in_err-moduli.result c.from_residual-in_err-moduli.ensures.1 in
    let parts = c.in_ok-line.ensures in
    rw (p.1, p.2) (going-stops c.args.text.now _ _ _ c.loop-m.invariant c.loop-m-test.true _ parts.1 parts.0 _ c.in_err-moduli.ensures)

pub loop-m-preserved : goal.loop-m-preserved
loop-m-preserved c =
    let parts = c.in_ok-line.ensures in
    going_on c.args.text.now _ _ _ c.loop-m.invariant c.loop-m-test.true _ parts.1 parts.0 _ c.in_ok-moduli.ensures _ parts.2

pub returns-then-not-is_empty : goal.returns-then-not-is_empty
returns-then-not-is_empty c =
    more_left c.args.text.now _ _ _ c.loop-m.auto.m-end c.loop-m-test.false c.loop-m.invariant (search rules)

pub returns : goal.returns
returns c =
    nothing_left c.args.text.now _ _ _ c.loop-m.auto.m-end c.loop-m-test.false c.loop-m.invariant (search rules)
