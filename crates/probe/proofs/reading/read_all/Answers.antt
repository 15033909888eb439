use Rattle.probe.proofs.Shown.{takes_none, takes-more}
use Rattle.probe.proofs.reading.read_all.Goals as goal

pub loop-turn-init : goal.loop-turn-init
loop-turn-init c = takes_none _

pub loop-turn-preserved : goal.loop-turn-preserved
loop-turn-preserved c = takes-more _ _ _ _ c.loop-turn.invariant c.read_piece-s.ensures

pub returns-then-not-s : goal.returns-then-not-s
returns-then-not-s c = c.loop-turn.invariant

pub returns : goal.returns
returns c = c.loop-turn.invariant
