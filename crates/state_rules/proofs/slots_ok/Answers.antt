use mathlib.Core.Path.{sym, ◌∙◌}
use Rattle.layout.proofs.LayoutLaws.{legal}
use Rattle.slot_rules.proofs.SlotLaws.{slots-fine}
use Rattle.state.specs.State.{own_frame}
use Rattle.state_words.specs.Decoded.{decoded}
use Rattle.validity.specs.Validity.{slots_ok}
use Rattle.state_rules.proofs.slots_ok.Goals as goal

pub positions_ok-requires : goal.positions_ok-requires
positions_ok-requires c = legal _ (sym c.sizes_ok.ensures ∙ c.if-not-sizes_ok.false)

pub slots_fine-requires : goal.slots_fine-requires
slots_fine-requires c = legal _ (sym c.sizes_ok.ensures ∙ c.if-not-sizes_ok.false)

pub returns-then-positions_ok : goal.returns-then-positions_ok
unfolding slots_ok
returns-then-positions_ok c =
    let a = c.args in
    let st = decoded a.words.now in
    rw (← c.sizes_ok.ensures, c.if-not-sizes_ok.false, ← c.positions_ok.ensures, c.if-positions_ok.true)
    (c.slots_fine.ensures ∙ slots-fine (own_frame st) a.z st.table (legal _ (sym c.sizes_ok.ensures ∙ c.if-not-sizes_ok.false)))
