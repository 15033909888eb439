use mathlib.Core.Path.{ap, ◌∙◌}
use borrow.Author.Rules.{rules}
use Rattle.bounded.proofs.Below.{up_none, up_turn}
use Rattle.words.specs.Words.{word}
use Rattle.journal.specs.Slots.{slot_from}
use Rattle.replay.specs.Table.{with_slot, table_from}
use Rattle.replay.proofs.table_from.Goals as goal

pub loop-s-init : goal.loop-s-init
loop-s-init c = c.empty_table-t.ensures ∙ up_none _ _

pub loop-s-preserved : goal.loop-s-preserved
loop-s-preserved c =
    let e = c.slot_from.ensures ∙ ap (slot_from (word c.args.image.now)) c.slot_word.ensures in
    c.put_slot.ensures ∙ ap (with_slot c.loop-s.t c.loop-s.s) e ∙ up_turn _ _ _ _ c.loop-s.invariant

pub returns : goal.returns
unfolding table_from
returns c = search rules
