use mathlib.Core.Bool.{true, false}
use mathlib.Core.Path.{refl, sym}
use borrow.Author.Tests.{le-leb, lt-leb}
use borrow.Author.Rules.{rules}
use Rattle.bounded.proofs.Below.{all_none, all-turn, all-stops, all-ends}
use Rattle.calling.proofs.all_bytes.Goals as goal

pub loop-i-init : goal.loop-i-init
loop-i-init c = (search rules, all_none _)

pub returns-then-numbers-i-gt255 : goal.returns-then-numbers-i-gt255
returns-then-numbers-i-gt255 c = all-stops _ _ _ false c.loop-i-test.true (sym (lt-leb _ _ c.if-numbers-i-gt255.true)) refl

pub loop-i-preserved : goal.loop-i-preserved
loop-i-preserved c = (search rules, all-turn _ _ true c.loop-i.invariant.1 (sym (le-leb _ _ c.if-numbers-i-gt255.false)) refl)

pub returns : goal.returns
returns c = all-ends _ _ _ c.loop-i.invariant.0 c.loop-i-test.false c.loop-i.invariant.1
