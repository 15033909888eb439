use Rattle.executing.proofs.Finished.{finish-none, finish-made}
use Rattle.executing.proofs.finishing.finish.Goals as goal

pub returns-then-needed-eq0 : goal.returns-then-needed-eq0
returns-then-needed-eq0 c =
    let a = c.args in
    finish-none a.answer a.words.now a.image.now a.cut a.letter _ _ c.number_of-number.ensures c.stores_of-needed.ensures _
    c.if-needed-eq0.true c.answered.ensures

pub returns : goal.returns
returns c =
    let a = c.args in
    finish-made a.answer a.words.now a.image.now a.cut a.letter _ _ c.number_of-number.ensures c.stores_of-needed.ensures _
    c.if-needed-eq0.false _ _ c.mount_cut-last.result c.run-run_answer.result _ _ _ c.budget_of.ensures c.run-run_answer.ensures.outcome c.run-run_answer.ensures.bytes
    c.stores_of-made.ensures c.mount_cut-last.ensures.number c.mount_cut-last.ensures.state c.ended.ensures
