use mathlib.Core.Path.{refl}
use lib.Dec.{leb}
use borrow.Author.Tests.{leb-true}
use borrow.Author.Rules.{rules}
use native.Mathlib.Omega.{arith}
use Rattle.bounded.proofs.Below.{all-at}
use Rattle.bounded.proofs.Tab.{filled_none, filled-turn, filled-ends}
use Rattle.calling.specs.WriteLine.{datum}
use Rattle.calling.proofs.data_of.Goals as goal

pub loop-i-init : goal.loop-i-init
loop-i-init c = (search rules, filled_none _ _)

pub overflow_cast-bytes : goal.overflow_cast-bytes
overflow_cast-bytes c =
    let i = c.loop-i.i in
    let n = c.args.numbers.now in
    let low = all-at (λ k. leb (datum n k) 255) c.args.n i c.loop-i-test.true c.requires.1 in
    omega (arith, leb-true (datum n i) 255 low)

pub loop-i-preserved : goal.loop-i-preserved
loop-i-preserved c = (search rules, filled-turn _ _ _ _ _ c.loop-i.invariant.1 refl)

pub returns : goal.returns
returns c = filled-ends _ _ _ _ _ c.loop-i.invariant.0 c.loop-i-test.false c.loop-i.invariant.1
