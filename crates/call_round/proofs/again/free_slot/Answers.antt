use Rattle.refinement.specs.Run.{free}
use Rattle.call_round.proofs.Playing.{journal-unasked, journal-enough, journal-emptied}
use Rattle.call_round.proofs.again.free_slot.Goals as goal

pub returns-then-not-checkpoint : goal.returns-then-not-checkpoint
returns-then-not-checkpoint c =
    let a = c.args in
    let h = c.free_made-first.ensures in
    record {
      played = journal-unasked a.checkpoint (free) _ _ h.came (c.if-not-checkpoint.true);
      kept = h.kept;
    }

pub returns-then-first-ne19 : goal.returns-then-first-ne19
returns-then-first-ne19 c =
    let a = c.args in
    let h = c.free_made-first.ensures in
    record {
      played = journal-enough a.checkpoint (free) _ _ h.came c.if-first-ne19.true;
      kept = h.kept;
    }

pub returns : goal.returns
returns c =
    let a = c.args in
    let h = c.free_made.ensures in record {
      played = journal-emptied a.checkpoint (free) _ _ c.free_made-first.ensures.came
          (c.if-not-checkpoint.false) c.if-first-ne19.false _ _ c.checkpoint_made-emptied.ensures.came h.came;
      kept = h.kept;
    }
