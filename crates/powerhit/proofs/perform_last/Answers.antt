use Rattle.powerhit.proofs.Going.{finishes-none, finishes-some}
use Rattle.powerhit.proofs.perform_last.Goals as goal

pub returns-then-s-eq0 : goal.returns-then-s-eq0
returns-then-s-eq0 c = finishes-none c.text-1.given.0.1 c.if-s-eq0.true

pub returns : goal.returns
returns c =
    finishes-some c.if-s-eq0.false c.perform_kept.ensures
