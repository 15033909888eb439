use Rattle.trials.proofs.Playing.{not-committed, is-committed}
use Rattle.trials.proofs.rounds.commit_written.Goals as goal

pub returns-then-t-ne0 : goal.returns-then-t-ne0
returns-then-t-ne0 c = not-committed _ c.if-t-ne0.true

pub returns : goal.returns
returns c = is-committed _ _ c.if-t-ne0.false c.make_with_room.ensures
