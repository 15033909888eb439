use mathlib.Core.List.{[], ◌++◌}
use mathlib.Core.Path.{refl, ◌∙◌}
use lib.ListN.{take}
use Rattle.try_sizes.proofs.Going.{takes_none, takes-then}
use Rattle.try_sizes.proofs.read_all.Goals as goal

pub loop-turn-init : goal.loop-turn-init
loop-turn-init c = (refl, refl, refl, record { bytes = []; goes = takes_none c.requires.kept_bound })

pub read_piece-s-requires : goal.read_piece-s-requires
read_piece-s-requires c =
    let inv = c.loop-turn.invariant in
    record {
      kept_bound = inv.3.goes.fits;
      line_len = inv.1 ∙ c.requires.line_len;
    }

pub loop-turn-preserved : goal.loop-turn-preserved
loop-turn-preserved c =
    let done = c.read_piece-s in
    let inv = c.loop-turn.invariant in
    let read = done.ensures in (
      done.auto.image ∙ inv.0,
      done.auto.line ∙ inv.1,
      done.auto.input ∙ inv.2,
      record { bytes = inv.3.bytes ++ take read.count _; goes = takes-then inv.3.goes read.goes },
    )

pub returns-then-not-s : goal.returns-then-not-s
returns-then-not-s c = c.loop-turn.invariant.3

pub returns-after-loop-turn : goal.returns-after-loop-turn
returns-after-loop-turn c = c.loop-turn.invariant.3
