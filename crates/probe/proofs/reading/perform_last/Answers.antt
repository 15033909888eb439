use Rattle.std.proofs.Common.{arith}
use Rattle.probe.proofs.Shown.{closes-none, closes-line}
use Rattle.probe.proofs.reading.perform_last.Goals as goal

pub returns-then-s-eq0 : goal.returns-then-s-eq0
returns-then-s-eq0 c = closes-none _ (omega (arith, c.requires)) c.if-s-eq0.true

pub returns : goal.returns
returns c = closes-line _ (omega arith) _ c.if-s-eq0.false c.perform_kept.ensures
