use Rattle.trials.proofs.Playing.{put-plain, put-stuck, put-freed}
use Rattle.trials.proofs.rounds.put_page.Goals as goal

pub returns-then-first-ne15 : goal.returns-then-first-ne15
returns-then-first-ne15 c =
    let a = c.args in
    put-plain a.byte a.page _ _ c.make-first.ensures c.if-first-ne15.true

pub returns-then-freed-ne0 : goal.returns-then-freed-ne0
returns-then-freed-ne0 c =
    let a = c.args in
    let first = c.make-first in
    put-stuck a.byte a.page _ _ first.ensures c.if-first-ne15.false _ c.make_with_room-freed.ensures c.if-freed-ne0.true

pub returns : goal.returns
returns c =
    let a = c.args in
    let first = c.make-first in
    let freed = c.make_with_room-freed in
    put-freed a.byte a.page _ _ first.ensures c.if-first-ne15.false _ freed.ensures c.if-freed-ne0.false _ c.make.ensures
