use mathlib.Core.List.{[], ◌++◌}
use mathlib.Core.Path.{refl, ◌∙◌}
use lib.ListN.{take}
use Rattle.wear_by_frame.proofs.Going.{takes_none, takes-then}
use Rattle.wear_by_frame.proofs.read_all.Goals as goal

pub loop-turn-init : goal.loop-turn-init
loop-turn-init c = (refl, refl, refl, refl, record { bytes = []; goes = takes_none c.requires.sound })

pub read_piece-s-requires : goal.read_piece-s-requires
read_piece-s-requires c =
    let inv = c.loop-turn.invariant in
    record {
      sound = inv.4.goes.sound;
      counts_len = (inv.1 ∙ c.requires.counts_len.0, inv.2 ∙ c.requires.counts_len.1);
    }

pub loop-turn-preserved : goal.loop-turn-preserved
loop-turn-preserved c =
    let done = c.read_piece-s in
    let inv = c.loop-turn.invariant in
    let read = done.ensures in (
      done.auto.image ∙ inv.0,
      done.auto.counts ∙ inv.1,
      done.auto.line ∙ inv.2,
      done.auto.input ∙ inv.3,
      record { bytes = inv.4.bytes ++ take read.count _; goes = takes-then inv.4.goes read.goes },
    )

pub returns-then-not-s : goal.returns-then-not-s
returns-then-not-s c = c.loop-turn.invariant.4

pub returns-after-loop-turn : goal.returns-after-loop-turn
returns-after-loop-turn c = c.loop-turn.invariant.4
