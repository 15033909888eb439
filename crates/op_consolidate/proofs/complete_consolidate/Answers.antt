use Prim.Native.Nat.{◌<◌}
use mathlib.Core.Path.{◌≡◌, ap, ◌∙◌}
use native.Mathlib.Omega.{arith}
use Rattle.layout.specs.declared.Sizes.{Sizes}
use Rattle.layout.specs.Layout.{Legal}
use Rattle.state.specs.State.{State}
use Rattle.state.specs.declared.Places.{Places}
use Rattle.state.specs.Slots.{slot_of_page}
use Rattle.operations.specs.Operations.{slot_for}
use Rattle.operations.proofs.Taken.{slot-low}
use Rattle.state_words.specs.Decoded.{decoded}
use Rattle.op_consolidate.proofs.ConsolidatePieces.{consolidated}
use Rattle.op_consolidate.proofs.complete_consolidate.Lts
use Rattle.op_consolidate.proofs.complete_consolidate.Tie
use Rattle.op_consolidate.proofs.complete_consolidate.Reads
use Rattle.op_consolidate.proofs.complete_consolidate.Goals as goal

abbrev At-Start : Type 0
At-Start = Lts.Start Tie.the-claims Reads.Pre Reads.Post

abbrev At-After-slot_of-s : Type 0
At-After-slot_of-s = Lts.After-slot_of Tie.the-claims Reads.Pre Reads.Post

abbrev st : At-Start → State
st s = decoded s.args.words.now

-- the page's slot as it was found
slot : (c : At-After-slot_of-s) → c.slot_of-s.result ≡ slot_for (st c.before) c.args.p
slot c =
    c.slot_of-s.ensures ∙ ap (λ (z : Sizes). slot_of_page z (st c.before).table.page c.args.p) c.requires.0

low : (c : At-After-slot_of-s) → c.slot_of-s.result < 16
low c = omega (arith, slot-low (st c.before) c.args.p _ c.requires.3 (slot c), c.requires.2.legal)

pub slot_of-s-requires : goal.slot_of-s-requires
slot_of-s-requires c = rw c.requires.0 c.requires.2.legal

pub slot_at-t-requires : goal.slot_at-t-requires
slot_at-t-requires c = low c

pub put_slot-requires : goal.put_slot-requires
put_slot-requires c = low c.before.before.before.before.before.before.before

pub put_last-requires : goal.put_last-requires
put_last-requires c = low c.before.before.before.before.before.before.before.before.before

pub position-requires : goal.position-requires
position-requires c =
    let h : Legal c.args.z = rw c.requires.0 c.requires.2.legal in
    (h, rw (c.requires.0, c.requires.1) c.requires.2.head-low, omega (arith, h))

pub returns : goal.returns
returns c =
    consolidated (st c.before.before.before.before.before.before.before.before.before.before.before.before.before.before.before.before) _ _ _ _ _ c.args.z c.args.at.head c.args.p _ _ _ _ _ _ c.requires.2 c.requires.0 (ap (λ (p : Places). p.head) c.requires.1) (slot c.before.before.before.before.before.before.before.before.before.before.before.before.before.before.before) c.slot_at-t.ensures c.copy_to.ensures c.put_entry.ensures c.copy_from.ensures c.free_slot.ensures c.put_slot.ensures c.put_last.ensures c.position.ensures c.put_head.ensures c.put_nothing.ensures
