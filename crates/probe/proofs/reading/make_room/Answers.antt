use Rattle.std.proofs.Common.{rules, le-leb}
use borrow.Author.Tests.{lt-leb}
use Rattle.probe.proofs.reading.make_room.Goals as goal

pub returns-then-s-le36000 : goal.returns-then-s-le36000
returns-then-s-le36000 c = record {
  room = search rules;
  same = rw (le-leb _ 36000 c.if-s-le36000.true);
}

pub returns : goal.returns
returns c = record {
  room = search rules;
  same = rw (lt-leb _ 36000 c.if-s-le36000.false);
}
