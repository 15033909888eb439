use borrow.Author.Tests.{le-leb, lt-leb}
use Rattle.meters.specs.Meters.{amount_bad}
use Rattle.meters.proofs.MeterLaws.{own_range}
use Rattle.meters.proofs.amount_bad.Goals as goal

pub modulus-requires : goal.modulus-requires
modulus-requires c = (c.requires.0, rw c.own_meter.ensures (own_range c.args.kind c.args.meter c.requires.1).1)

pub returns-then-modulus-amount : goal.returns-then-modulus-amount
unfolding amount_bad
returns-then-modulus-amount c = rw (← c.own_meter.ensures, ← c.modulus.ensures, le-leb _ _ c.if-modulus-amount.true)

pub returns-then-moves_credit : goal.returns-then-moves_credit
unfolding amount_bad
returns-then-moves_credit c = rw (← c.own_meter.ensures, ← c.modulus.ensures, lt-leb _ _ c.if-modulus-amount.false, ← c.moves_credit.ensures, c.if-moves_credit.true) c.credit_bad.ensures

pub returns : goal.returns
unfolding amount_bad
returns c = rw (← c.own_meter.ensures, ← c.modulus.ensures, lt-leb _ _ c.if-modulus-amount.false, ← c.moves_credit.ensures, c.if-moves_credit.false)
