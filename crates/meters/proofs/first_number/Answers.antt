use mathlib.Core.Path.{sym, ◌∙◌}
use native.Mathlib.Omega.{arith}
use Rattle.meters.proofs.MeterLaws.{modulus-range, credit-adds, credit-takes, credit-fine, of-count}
use Rattle.meters.proofs.first_number.Goals as goal

-- credit is below its modulus
pub credit_after-requires : goal.credit_after-requires
credit_after-requires c =
    let a = c.args in
    let fine = credit-fine a.moduli.now a.kind a.meter a.stored a.amount c.requires.2 (sym c.moves_credit.ensures ∙ c.if-moves_credit.true) in
    let most = (modulus-range a.moduli.now c.requires.0 0 (omega arith)).1 in
    (λ t. omega (arith, credit-adds a.moduli.now a.kind a.stored a.amount fine t, most), λ t. (credit-takes a.moduli.now a.kind a.stored a.amount fine t).0)

pub returns-then-moves_credit : goal.returns-then-moves_credit
returns-then-moves_credit c = rw (← c.moves_credit.ensures, c.if-moves_credit.true) c.credit_after.ensures

pub rolled_by-requires : goal.rolled_by-requires
rolled_by-requires c =
    let h = of-count c.args.kind c.args.meter c.requires.1 (sym c.moves_credit.ensures ∙ c.if-moves_credit.false) in
    (c.requires.0, omega (arith, h.most))

pub returns : goal.returns
returns c = rw (← c.moves_credit.ensures, c.if-moves_credit.false) c.rolled_by.ensures
