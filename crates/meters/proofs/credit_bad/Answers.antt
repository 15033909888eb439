use Rattle.meters.proofs.MeterLaws.{adds-high, adds-rest, takes-under, takes-rest}
use Rattle.meters.proofs.credit_bad.Goals as goal

pub returns-then-most-credit : goal.returns-then-most-credit
returns-then-most-credit c =
    let a = c.args in
    adds-high a.moduli.now a.kind a.credit a.amount _ _ c.modulus-most.ensures c.is_adding.ensures c.if-is_adding.true c.if-most-credit.true

pub returns-then-is_adding : goal.returns-then-is_adding
returns-then-is_adding c =
    let a = c.args in
    adds-rest a.moduli.now a.kind a.credit a.amount _ _ c.modulus-most.ensures c.is_adding.ensures c.if-is_adding.true c.if-most-credit.false

pub returns-then-credit-amount : goal.returns-then-credit-amount
returns-then-credit-amount c =
    let a = c.args in
    takes-under a.moduli.now a.kind a.credit a.amount _ _ c.modulus-most.ensures c.is_adding.ensures c.if-is_adding.false c.if-credit-amount.true

pub returns : goal.returns
returns c =
    let a = c.args in
    takes-rest a.moduli.now a.kind a.credit a.amount _ _ c.modulus-most.ensures c.is_adding.ensures c.if-is_adding.false c.if-credit-amount.false
