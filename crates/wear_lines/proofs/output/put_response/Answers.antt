use Prim.Native.Nat.{◌-◌}
use mathlib.Core.Path.{refl, ◌∙◌}
use native.Mathlib.Omega.{arith}
use Rattle.wear_lines.proofs.Taken.{listed-none, listed_at, listed-turn, listed-end}
use Rattle.wear_lines.proofs.output.put_response.Goals as goal

pub loop-k-init : goal.loop-k-init
loop-k-init c = (omega arith, refl, listed-none c.args.out.now c.args.counts.now)

pub put_line-next-requires : goal.put_line-next-requires
put_line-next-requires c =
    let l = c.loop-k in
    let low = listed_at c.args.counts.now l.k l.invariant.2 in
    omega (arith, c.requires.1, c.loop-k-test.true, low, l.invariant.1)

pub loop-k-preserved : goal.loop-k-preserved
loop-k-preserved c =
    let made = c.put_line-next in
    let l = c.loop-k in
    let low = listed_at c.args.counts.now l.k l.invariant.2 in
    (omega arith, made.auto.out ∙ l.invariant.1, listed-turn c.args.counts.now l.k l.invariant.2 made.ensures (omega (arith, c.requires.1, low)))

pub shape_of-out : goal.shape_of-out
shape_of-out c = c.loop-k.invariant.1

pub returns : goal.returns
returns c =
    let l = c.loop-k in
    listed-end c.args.out.now _ c.args.counts.now l.k _ l.invariant.0 c.loop-k-test.false l.invariant.2
