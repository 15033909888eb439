use Rattle.call_round.proofs.Playing.{not-committed, is-committed}
use Rattle.call_round.proofs.commit_written.Goals as goal

pub returns-then-number-ne0 : goal.returns-then-number-ne0
returns-then-number-ne0 c = record {
  played = not-committed c.args.room c.args.writer _ c.if-number-ne0.true;
  kept = c.requires.0;
}

pub returns : goal.returns
returns c =
    let h = c.commit.ensures in
    record {
      played = is-committed c.args.room c.args.writer _ _ c.if-number-ne0.false h.played;
      kept = h.kept;
    }
