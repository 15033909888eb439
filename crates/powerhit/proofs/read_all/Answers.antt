use Rattle.std.proofs.Common.{[], ◌++◌, take, refl, ◌∙◌}
use Rattle.powerhit.proofs.Going.{goes_none, goes_then}
use Rattle.powerhit.proofs.read_all.Goals as goal

pub loop-turn-init : goal.loop-turn-init
loop-turn-init c = (refl, refl, record { bytes = []; goes = goes_none })

pub loop-turn-preserved : goal.loop-turn-preserved
loop-turn-preserved c =
    let done = c.read_piece-s in
    let inv = c.loop-turn.invariant in
    let read = done.ensures in (
      done.auto.image ∙ inv.0,
      done.auto.input ∙ inv.1,
      record { bytes = inv.2.bytes ++ take read.count _; goes = goes_then inv.2.goes read.goes },
    )

pub returns-then-not-s : goal.returns-then-not-s
returns-then-not-s c = c.loop-turn.invariant.2

pub returns-after-loop-turn : goal.returns-after-loop-turn
returns-after-loop-turn c = c.loop-turn.invariant.2
