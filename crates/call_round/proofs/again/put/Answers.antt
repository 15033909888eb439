use borrow.Author.Tests.{not-true, not-false}
use Rattle.refinement.specs.Run.{Call, write}
use Rattle.call_round.proofs.Playing.{put-unasked, put-plain, put-stuck, put-freed}
use Rattle.call_round.proofs.again.put.Lts
use Rattle.call_round.proofs.again.put.Tie
use Rattle.call_round.proofs.again.put.Reads
use Rattle.call_round.proofs.again.put.Goals as goal

abbrev At-Start : Type 0
At-Start = Lts.Start Tie.the-claims Reads.Pre Reads.Post Tie.handed_clauses

-- the write
abbrev call : At-Start → Call
call s = let a = s.args in write a.writer a.a.page a.a.line a.a.offset a.a.length a.«data».now

pub returns-then-not-room : goal.returns-then-not-room
returns-then-not-room c =
    let h = c.write_made-first.ensures in
    record {
      played = put-unasked c.args.room (call c.before.before.before.before.before.before.before.before.before.before) _ _ h.came (not-true _ c.if-not-room.true);
      kept = h.kept;
    }

pub returns-then-first-ne15 : goal.returns-then-first-ne15
returns-then-first-ne15 c =
    let h = c.write_made-first.ensures in
    record {
      played = put-plain c.args.room (call c.before.before.before.before.before.before.before.before.before.before.before.before) _ _ h.came c.if-first-ne15.true;
      kept = h.kept;
    }

pub returns-then-freed-ne0 : goal.returns-then-freed-ne0
returns-then-freed-ne0 c =
    let h = c.free_slot-freed.ensures in
    record {
      played = put-stuck c.args.room (call c.before.before.before.before.before.before.before.before.before.before.before.before.before.before.before.before.before.before.before) _ _ c.write_made-first.ensures.came (not-false _ c.if-not-room.false) c.if-first-ne15.false _ h.played c.if-freed-ne0.true;
      kept = h.kept;
    }

pub returns : goal.returns
returns c =
    let h = c.write_made.ensures in record {
      played = put-freed c.args.room (call c.before.before.before.before.before.before.before.before.before.before.before.before.before.before.before.before.before.before.before.before.before.before.before.before) _ _ c.write_made-first.ensures.came
          (not-false _ c.if-not-room.false) c.if-first-ne15.false _ c.free_slot-freed.ensures.played c.if-freed-ne0.false _ h.came;
      kept = h.kept;
    }
