use borrow.Author.Tests.{lt-ltb, le-ltb}
use Rattle.bounded.proofs.Below.{first-le}
use Rattle.state.specs.Slots.{free_after}
use Rattle.op_write.proofs.write_slot.Goals as goal

pub returns-then-own-z : goal.returns-then-own-z
returns-then-own-z c = rw (lt-ltb _ _ c.if-own-z.true)

pub round_slot-requires : goal.round_slot-requires
unfolding free_after
round_slot-requires c =
    (c.requires.0, c.requires.1, rw c.free_after-k.ensures (first-le _ _))

pub returns : goal.returns
returns c = rw (le-ltb _ _ c.if-own-z.false, ← c.free_after-k.ensures) c.round_slot.ensures
