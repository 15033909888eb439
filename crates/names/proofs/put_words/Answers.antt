use mathlib.Core.Path.{ap, ◌∙◌}
use lib.ListN.{length-set}
use borrow.Author.Rules.{rules}
use Rattle.bounded.proofs.Tab.{filled_none, filled-turn, filled-ends}
use Rattle.words.specs.Words.{word}
use Rattle.replay.specs.Map.{page_frames}
use Rattle.names.proofs.Homes.{filled-whole}
use Rattle.names.proofs.put_words.Goals as goal

pub loop-p-init : goal.loop-p-init
loop-p-init c = (search rules, filled_none _ _)

pub loop-p-preserved : goal.loop-p-preserved
loop-p-preserved c =
    (simp length-set (search rules), filled-turn _ _ _ _ _ c.loop-p.invariant.1 (c.read_word.ensures ∙ ap (word c.args.image.now) c.page_word.ensures))

pub returns : goal.returns
returns c =
    let x = c.args in
    filled-ends _ _ _ _ _ c.loop-p.auto.p-end c.loop-p-test.false c.loop-p.invariant.1 ∙ filled-whole x.z.pages (page_frames (word x.image.now)) x.homes.now c.requires.2
