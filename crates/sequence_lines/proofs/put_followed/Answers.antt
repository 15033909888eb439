use Prim.Native.Nat.{◌-◌}
use mathlib.Core.Path.{refl}
use native.Mathlib.Omega.{arith}
use Rattle.sequence_lines.proofs.Parted.{followed-none, followed-at, followed-turn, followed-end}
use Rattle.sequence_lines.proofs.put_followed.Goals as goal

pub loop-v-init : goal.loop-v-init
loop-v-init c = (omega arith, refl, followed-none c.args.out.now c.args.at c.args.numbers.now)

pub put_marked-next-requires : goal.put_marked-next-requires
put_marked-next-requires c =
    let l = c.loop-v in
    omega (arith, c.requires, c.loop-v-test.true, followed-at c.args.numbers.now l.v-index l.invariant.2)

pub loop-v-preserved : goal.loop-v-preserved
loop-v-preserved c =
    let l = c.loop-v in
    let test = c.loop-v-test in
    let p = c.put_marked-next in
    (omega arith, omega arith, followed-turn c.args.numbers.now l.v-index l.invariant.2 p.ensures test.true c.requires)

pub shape_of-out : goal.shape_of-out
shape_of-out c = c.loop-v.invariant.1

pub returns : goal.returns
returns c = followed-end c.args.numbers.now c.loop-v.v-index c.loop-v.invariant.2 c.loop-v-test.false
