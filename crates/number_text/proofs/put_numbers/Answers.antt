use mathlib.Core.Path.{refl}
use native.Mathlib.Omega.{arith}
use Rattle.number_text.proofs.Puts.{numbers-none, numbers-at, numbers-turn, numbers-end}
use Rattle.number_text.proofs.put_numbers.Goals as goal

pub loop-number-init : goal.loop-number-init
loop-number-init c = (refl, numbers-none c.args.out.now c.args.at c.args.numbers.now)

pub put_after-next-requires : goal.put_after-next-requires
put_after-next-requires c =
    let l = c.loop-number in
    omega (arith, c.requires, c.loop-number-test.true, numbers-at c.args.numbers.now l.number-index l.invariant.1)

pub loop-number-preserved : goal.loop-number-preserved
loop-number-preserved c =
    let l = c.loop-number in
    let test = c.loop-number-test in
    let p = c.put_after-next in
    (omega arith, numbers-turn c.args.numbers.now l.number-index l.invariant.1 p.ensures test.true c.requires)

pub shape_of-out : goal.shape_of-out
shape_of-out c = c.loop-number.invariant.0

pub returns : goal.returns
returns c = numbers-end c.args.numbers.now c.loop-number.number-index c.loop-number.invariant.1 c.loop-number-test.false
