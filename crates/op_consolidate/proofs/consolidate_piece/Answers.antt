use mathlib.Core.Path.{◌≡◌, ap, ◌∙◌}
use native.Mathlib.Omega.{arith}
use Rattle.layout.specs.declared.Sizes.{Sizes}
use Rattle.layout.specs.Layout.{image_length}
use Rattle.replay.specs.Table.{slot_in}
use Rattle.state.specs.State.{State}
use Rattle.state.specs.declared.Places.{Places}
use Rattle.state.specs.Slots.{slot_of_page}
use Rattle.operations.specs.Operations.{slot_for}
use Rattle.operations.proofs.Taken.{slot-low}
use Rattle.refinement.specs.Frames.{page_slot}
use Rattle.refinement.specs.Consolidate.{Consolidates}
use Rattle.refinement.proofs.SeenFrames.{page-slot-owning}
use Rattle.refinement.proofs.ConsolidatePlaces.{copy-from-low, copy-to-low, freeing-record-fits}
use Rattle.state_words.specs.Decoded.{decoded}
use Rattle.op_consolidate.proofs.ConsolidatePieces.{freeing-made, slot-made, copy_apart}
use Rattle.op_consolidate.proofs.consolidate_piece.Lts
use Rattle.op_consolidate.proofs.consolidate_piece.Tie
use Rattle.op_consolidate.proofs.consolidate_piece.Reads
use Rattle.op_consolidate.proofs.consolidate_piece.Goals as goal

abbrev At-Start : Type 0
At-Start = Lts.Start Tie.the-claims Reads.Pre Reads.Post

abbrev At-After-slot_of-s : Type 0
At-After-slot_of-s = Lts.After-slot_of Tie.the-claims Reads.Pre Reads.Post

abbrev st : At-Start → State
st s = decoded s.args.words.now

-- what is required, of the state; its head and the page's slot as they were read
leans : (s : At-Start) → Consolidates (st s).sizes (st s).head (st s).table s.args.p
leans s = rw (s.requires.0, s.requires.1) at s.requires.2

head : (s : At-Start) → s.args.at.head ≡ (st s).head
head s = ap (λ (p : Places). p.head) s.requires.1

slot : (c : At-After-slot_of-s) → let s = c.before.before in c.slot_of-s.result ≡ slot_for (st c.before.before) c.args.p
slot c =
    let s = c.before.before in
    c.slot_of-s.ensures ∙ ap (λ (z : Sizes). slot_of_page z (st c.before.before).table.page c.args.p) c.requires.0

pub slot_at-t-requires : goal.slot_at-t-requires
slot_at-t-requires c =
    omega (arith, slot-low (st c.before.before.before) c.args.p _ (leans c.before.before.before).has-slot (slot c.before), (leans c.before.before.before).legal)

pub slot_piece-requires : goal.slot_piece-requires
slot_piece-requires c =
    let h = leans c.before.before.before.before.before in
    let o = page-slot-owning (st c.before.before.before.before.before) c.args.p h.legal h.page-low h.has-slot h.shapes in
    let t : c.slot_at-t.result ≡ page_slot (st c.before.before.before.before.before) c.args.p = c.slot_at-t.ensures ∙ ap (slot_in (st c.before.before.before.before.before).table) (slot c.before.before.before) in
    let e = freeing-made c.args.z c.args.at.head (st c.before.before.before.before.before) c.args.p _ _ _ c.requires.0 (head c.before.before.before.before.before) (slot c.before.before.before) c.slot_at-t.ensures c.freeing_record-e.ensures in (
      c.requires.2.legal,
      c.requires.2.head-low,
      rw (t, c.requires.0) (copy-from-low (st c.before.before.before.before.before).sizes (page_slot (st c.before.before.before.before.before) c.args.p) o),
      rw (t, c.requires.0) (copy-to-low (st c.before.before.before.before.before).sizes (page_slot (st c.before.before.before.before.before) c.args.p) o),
      rw t (copy_apart (st c.before.before.before.before.before).sizes (page_slot (st c.before.before.before.before.before) c.args.p) o),
      rw e (freeing-record-fits (st c.before.before.before.before.before) c.args.p h.legal h.head-low h.has-slot o),
      c.requires.2.page-low,
      c.requires.3,
    )

pub returns : goal.returns
returns c =
    slot-made c.args.z c.args.at.head (st c.before.before.before.before.before.before) c.args.p _ _ _ c.requires.0 (head c.before.before.before.before.before.before) (slot c.before.before.before.before) c.slot_at-t.ensures c.freeing_record-e.ensures c.args.i (image_length c.args.z) c.args.image.now _ c.slot_piece.ensures
