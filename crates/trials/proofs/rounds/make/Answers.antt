use Rattle.trials.proofs.Playing.{call-made}
use Rattle.trials.proofs.rounds.make.Goals as goal

pub returns : goal.returns
returns c =
    let a = c.args in
    let f = c.call-answer in
    call-made a.a a.t a.words.now a.image.now f.result _ _ _ _ _ _
    f.ensures c.number_of-number.ensures c.stores_of-stores.ensures c.stores_for.ensures c.add-spent.ensures
