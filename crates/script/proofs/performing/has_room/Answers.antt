use Prim.Native.Nat.{◌+◌, ◌<◌}
use mathlib.Core.Path.{sym, ◌∙◌}
use native.Mathlib.Omega.{arith}
use borrow.Author.Tests.{lt-leb}
use Rattle.script.specs.Performed.{room}
use Rattle.script.proofs.Printed.{room-left}
use Rattle.script.proofs.performing.has_room.Goals as goal

pub returns-then-size-ge67 : goal.returns-then-size-ge67
returns-then-size-ge67 c = room-left c.args.size c.args.at c.if-size-ge67.true

pub returns-else-size-ge67 : goal.returns-else-size-ge67
returns-else-size-ge67 c =
    let a = c.args in
    let l : a.size < a.at + room = omega (arith, c.if-size-ge67.false) in
    lt-leb 67 a.size c.if-size-ge67.false ∙ sym (lt-leb (a.at + room) a.size l)
