use mathlib.Core.Path.{refl}
use Rattle.script.proofs.Shown.{format-refused, format-taken}
use Rattle.script.proofs.turns.format_turn.Goals as goal

pub returns-then-number-ne0 : goal.returns-then-number-ne0
returns-then-number-ne0 c =
    let a = c.args in
    let f = c.format-answer in
    format-refused a.m a.words.now a.image.now a.z f.result _ _ _ f.ensures.started c.number_of-number.ensures _ c.if-number-ne0.true refl

pub returns : goal.returns
returns c =
    let a = c.args in
    let f = c.format-answer in
    format-taken a.m a.words.now a.image.now a.z f.result _ _ _ f.ensures.started c.number_of-number.ensures _
    c.if-number-ne0.false c.finish.ensures
