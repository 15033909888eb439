use Prim.Native.Nat.{◌<◌}
use mathlib.Core.Path.{◌≡◌, ap}
use native.Mathlib.Omega.{arith}
use Rattle.state.specs.declared.Places.{Places}
use Rattle.state_words.specs.Decoded.{decoded}
use Rattle.op_write.proofs.Held.{slot-low, had-slot, took-slot}
use Rattle.op_write.proofs.hold_line.Lts
use Rattle.op_write.proofs.hold_line.Tie
use Rattle.op_write.proofs.hold_line.Reads
use Rattle.op_write.proofs.hold_line.Goals as goal

abbrev At-After-places_in-next : Type 0
At-After-places_in-next = Lts.After-places_in Tie.the-claims Reads.Pre Reads.Post

abbrev At-After-write_slot-s : Type 0
At-After-write_slot-s = Lts.After-write_slot Tie.the-claims Reads.Pre Reads.Post

next-is : (c : At-After-places_in-next) → c.places_in-next.result.next ≡ (decoded c.before.args.words.now).next
next-is c = ap (λ (a : Places). a.next) c.places_in-next.ensures

pub write_slot-s-requires : goal.write_slot-s-requires
write_slot-s-requires c = (c.requires.1, rw (next-is c.before) c.requires.2)

low : (c : At-After-write_slot-s) → c.write_slot-s.result < 16
low c =
    slot-low c.before.before.before.args.z _ (decoded c.before.before.before.args.words.now).table.page c.before.before.before.args.p _ _ c.before.before.before.requires.1 c.before.slot_of-own.ensures c.write_slot-s.ensures

pub held_at-m-requires : goal.held_at-m-requires
held_at-m-requires c = (c.requires.3, low c)

pub put_held-requires : goal.put_held-requires
put_held-requires c = (c.requires.3, low c.before.before.before)

pub returns-then-own-z : goal.returns-then-own-z
returns-then-own-z c =
    had-slot (decoded c.args.words.now) c.args.z _ c.args.w c.args.p c.args.l _ _ _ _ c.requires.0 (next-is c.before.before.before.before.before.before.before.before) c.slot_of-own.ensures
    c.write_slot-s.ensures c.held_at-m.ensures c.with.ensures _ c.put_held.ensures c.if-own-z.true

pub slot_at-spare-requires : goal.slot_at-spare-requires
slot_at-spare-requires c = low c.before.before.before.before.before.before.before

pub put_slot-requires : goal.put_slot-requires
put_slot-requires c = low c.before.before.before.before.before.before.before.before.before

pub overflow_add-s : goal.overflow_add-s
overflow_add-s c = omega (arith, low c.before.before.before.before.before.before.before.before.before.before.before)

pub returns : goal.returns
returns c =
    took-slot (decoded c.args.words.now) c.args.z _ c.args.w c.args.p c.args.l _ _ _ _ c.requires.0 (next-is c.before.before.before.before.before.before.before.before.before.before.before.before.before.before.before) c.slot_of-own.ensures
    c.write_slot-s.ensures c.held_at-m.ensures c.with.ensures _ c.put_held.ensures c.if-own-z.false _ c.entry_at-original.ensures _ c.slot_at-spare.ensures _ _ c.put_slot.ensures c.put_next.ensures
