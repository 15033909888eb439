use mathlib.Core.Path.{ap, ◌∙◌}
use Rattle.layout.specs.declared.Sizes.{Sizes}
use Rattle.state_words.specs.Decoded.{decoded}
use Rattle.refusals.specs.Met.{slot_met}
use Rattle.refusals.proofs.Slots.{line-no-slot, line-high, line_first}
use Rattle.refusals.proofs.line_holder.Goals as goal

pub returns-then-s-ge16 : goal.returns-then-s-ge16
returns-then-s-ge16 c =
    let x = c.args in
    let st = decoded x.words.now in
    let s = c.slot_met-s in
    let e = s.ensures ∙ ap (λ (z : Sizes). slot_met z st.table.page x.page) c.sizes_in-z.ensures in
    line-no-slot st x.page s.result e x.writer x.line c.if-s-ge16.true

pub returns-then-line-gt63 : goal.returns-then-line-gt63
returns-then-line-gt63 c =
    let x = c.args in
    let st = decoded x.words.now in
    let s = c.slot_met-s in
    let e = s.ensures ∙ ap (λ (z : Sizes). slot_met z st.table.page x.page) c.sizes_in-z.ensures in
    line-high st x.page s.result e x.writer x.line c.if-s-ge16.false c.if-line-gt63.true

pub returns : goal.returns
returns c =
    let x = c.args in
    let st = decoded x.words.now in
    let s = c.slot_met-s in
    let e = s.ensures ∙ ap (λ (z : Sizes). slot_met z st.table.page x.page) c.sizes_in-z.ensures in
    c.first_of_line.ensures ∙ line_first st x.page s.result e x.writer x.line c.if-s-ge16.false c.if-line-gt63.false
