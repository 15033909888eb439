use Rattle.sequence_runs.proofs.Called.{turned}
use Rattle.sequence_runs.proofs.turns.turn.Goals as goal

pub returns : goal.returns
returns c =
    let a = c.args in
    turned a.last a.k a.c a.words.now a.image.now c.ask-answer.result _ _ c.run.result _ _ _ _ _
    c.ask-answer.ensures c.number_of-number.ensures c.stores_of-needed.ensures c.budget_of.ensures
    c.run.ensures.outcome c.run.ensures.bytes
