use Rattle.naming.proofs.NamingLaws.{mask-none, mask-turn, low_turn, mask-high, mask_low}
use Rattle.bounded.specs.Below.{all_below}
use Rattle.masks.proofs.Members.{shifted_one}
use native.Mathlib.Omega.{arith}
use mathlib.Core.Path.{refl}
use borrow.Author.Rules.{rules}
use Rattle.naming.proofs.mask_of.Goals as goal

pub loop-name-init : goal.loop-name-init
unfolding all_below
loop-name-init c = (refl, mask-none c.args.names.now)

pub loop-name-preserved : goal.loop-name-preserved
loop-name-preserved c = let l = c.args.names.now in (
  low_turn l c.loop-name.all c.loop-name.name-index c.loop-name.invariant.0,
  mask-turn l c.loop-name.m _ c.loop-name.name-index (search rules) c.loop-name.invariant.1 (shifted_one _ (omega arith)),
)

pub returns-then-all-ge64 : goal.returns-then-all-ge64
returns-then-all-ge64 c = let l = c.args.names.now in
    mask-high l c.loop-name.all c.loop-name.name-index c.loop-name.auto.name-index-end c.loop-name-test.false c.loop-name.invariant.0 c.if-all-ge64.true

pub returns : goal.returns
returns c = let l = c.args.names.now in
    mask_low l c.loop-name.all c.loop-name.name-index c.loop-name.auto.name-index-end c.loop-name-test.false c.loop-name.invariant.0 c.loop-name.m c.if-all-ge64.false c.loop-name.invariant.1
