use mathlib.Core.Path.{refl, ◌∙◌}
use Rattle.bounded.proofs.Below.{up_none, up_turn, up_ends}
use Rattle.op_writer.proofs.Back.{puts_one}
use borrow.Author.Rules.{rules}
use Rattle.op_writer.proofs.put_words.Goals as goal

pub returns-then-n-eq1 : goal.returns-then-n-eq1
returns-then-n-eq1 c =
    puts_one c.args.words.now c.args.k c.args.n c.args.part.now _ c.if-n-eq1.true c.put_word.ensures

pub loop-i-init : goal.loop-i-init
loop-i-init c = (refl, up_none _ _)

pub loop-i-preserved : goal.loop-i-preserved
loop-i-preserved c = (search rules, c.put_word-in-loop-i.ensures ∙ up_turn _ _ _ _ c.loop-i.invariant.1)

pub returns : goal.returns
returns c = up_ends _ _ _ _ _ c.loop-i.auto.i-end c.loop-i-test.false c.loop-i.invariant.1
