use Rattle.trials.proofs.Playing.{room-enough, room-made}
use Rattle.trials.proofs.rounds.make_with_room.Goals as goal

pub returns-then-first-ne19 : goal.returns-then-first-ne19
returns-then-first-ne19 c =
    let at-make = c.before.before.before.before in
    let at-args = at-make.before.before.before.before in
    room-enough at-args.args.a _ _ at-make.make-first.ensures c.if-first-ne19.true

pub returns : goal.returns
returns c =
    let at-make3 = c.before.before in
    let at-make2 = at-make3.before.before.before.before.before in
    let at-if1 = at-make2.before.before.before in
    let at-make = at-if1.before.before.before.before in
    let at-args = at-make.before.before.before.before in
    room-made at-args.args.a _ _ at-make.make-first.ensures at-if1.if-first-ne19.false _ _ at-make2.make-emptied.ensures at-make3.make.ensures
