use mathlib.Core.Path.{sym, ◌∙◌}
use borrow.Author.Tests.{leb-true}
use Rattle.executing.specs.Called.{machine_at, turn_at}
use Rattle.script.proofs.Printed.{perform-none, perform-done}
use Rattle.script.proofs.performing.perform.Goals as goal

pub returns-then-not-has_room : goal.returns-then-not-has_room
returns-then-not-has_room c =
    let a = c.args in
    let none = sym c.has_room.ensures ∙ c.if-not-has_room.true in
    perform-none (machine_at a.m a.words.now) a.image.now a.n a.line.now a.out.now a.at none

pub put_output-end-requires : goal.put_output-end-requires
put_output-end-requires c = leb-true _ _ (sym c.has_room.ensures ∙ c.if-not-has_room.false)

pub returns : goal.returns
returns c =
    let a = c.args in
    let p = c.put_output-end.ensures in
    perform-done (machine_at a.m a.words.now) a.image.now a.n a.line.now a.out.now a.at c.parse.result (turn_at c.turn-t.result _ _) _ _
    (sym c.has_room.ensures ∙ c.if-not-has_room.false) c.parse.ensures c.turn-t.ensures p.laid p.place
