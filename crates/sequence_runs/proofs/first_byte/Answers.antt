use Rattle.sequence_runs.proofs.Called.{first-told}
use Rattle.sequence_runs.proofs.first_byte.Goals as goal

pub returns : goal.returns
returns c v e =
    let a = c.args in
    first-told v a.image.now a.line c.recall.new.target c.recall.ensures.bytes e
