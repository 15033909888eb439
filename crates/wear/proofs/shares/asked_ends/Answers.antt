use Rattle.wear.proofs.shares.asked_ends.Goals as goal

pub returns-in-Begin : goal.returns-in-Begin
returns-in-Begin c = rw (c.ends_at.ensures, c.in-Begin.is)

pub returns-in-Commit : goal.returns-in-Commit
returns-in-Commit c = rw (c.ends_at-in-Commit.ensures, c.in-Commit.is, c.left-last.ensures)

pub returns-in-Abort : goal.returns-in-Abort
returns-in-Abort c = rw (c.ends_at-in-Abort.ensures, c.in-Abort.is)

pub returns-in-Write : goal.returns-in-Write
returns-in-Write c = rw (c.ends_at-in-Write.ensures, c.in-Write.is)

pub returns-in-Consolidate : goal.returns-in-Consolidate
returns-in-Consolidate c = rw (c.ends_at-in-Consolidate.ensures, c.in-Consolidate.is, c.left-in-Consolidate.ensures, c.left-last.ensures, c.left.ensures)

pub returns-in-Checkpoint : goal.returns-in-Checkpoint
returns-in-Checkpoint c = rw (c.ends_at-in-Checkpoint.ensures, c.in-Checkpoint.is, c.left-last.ensures)

pub returns-in-Mount : goal.returns-in-Mount
returns-in-Mount c = rw (c.ends_at-in-Mount.ensures, c.in-Mount.is)
