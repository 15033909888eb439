-- A write on a state in words: z and next are what the code read, own the slot that the page has, and s the one that it is written by.
use Prim.Native.Nat.{ℕ, ◌+◌, ◌*◌, ◌%◌, ◌<◌, ◌≤◌}
use mathlib.Core.List.{List}
use mathlib.Core.Path.{◌≡◌, ap, ◌∙◌}
use native.Mathlib.Omega.{arith}
use lib.ListN.{set}
use borrow.Author.Tests.{lt-ltb, le-ltb}
use Rattle.layout.specs.declared.Sizes.{Sizes}
use Rattle.layout.specs.Layout.{Legal, line_word, image_length}
use Rattle.journal.specs.declared.Slot.{Slot}
use Rattle.replay.specs.declared.Table.{Table}
use Rattle.replay.specs.Table.{slot_in, with_slot}
use Rattle.masks.specs.Lines.{with_line}
use Rattle.state.specs.State.{State, own_frame}
use Rattle.state.specs.Slots.{slot_of_page}
use Rattle.state.specs.Held.{held_at}
use Rattle.refinement.specs.Frames.{other_frame}
use Rattle.refinement.specs.Write.{write_slot, slot_to_write, frame_to_write, write_at, write_value, write_done}
use Rattle.refinement.proofs.WritePlaces.{write-slot-low}
use Rattle.op_pieces.specs.declared.Piece.{Piece}
use Rattle.op_pieces.specs.Pieces.{Next, line_piece}
use Rattle.op_pieces.proofs.PieceLaws.{line-next}
use Rattle.state_words.specs.Decoded.{with_table, with_writers, with_held, with_next, with_nothing}
use Rattle.op_write.specs.LineHeld.{slot_from, line_held}

-- the slot that was found is the definition's, and below 16
pub slot_is : (z : Sizes) (next : ℕ) (page : List ℕ) (p own s : ℕ) → own ≡ slot_of_page z page p → s ≡ slot_from z next page own → s ≡ slot_to_write z page next p
slot_is z next page p own s a b = rw a at b

pub slot-low : (z : Sizes) (next : ℕ) (page : List ℕ) (p own s : ℕ) → Legal z → own ≡ slot_of_page z page p → s ≡ slot_from z next page own → s < 16
slot-low z next page p own s h a b = omega (arith, write-slot-low z page next p s h (slot_is z next page p own s a b), h)

-- the frame that was found, t being the slot
pub frame_is : (z : Sizes) (next : ℕ) (t : Table) (p l own s f : ℕ) (u : Slot) → own ≡ slot_of_page z t.page p → s ≡ slot_from z next t.page own → u ≡ slot_in t s → f ≡ other_frame u l
    → f ≡ frame_to_write z t next p l
frame_is z next t p l own s f u a b c d = rw (c, b, a) at d

-- the piece of a write
pub write-next : (st : State) (p l i : ℕ) (img : List ℕ) (z : Sizes) (next : ℕ) (line : List ℕ) (r : Piece) → z ≡ st.sizes → next ≡ st.next → line ≡ st.pending.line → i < 8
    → r ≡ line_piece (line_word z (frame_to_write z st.table next p l) l) line i → 8 * (r.at + 8) ≤ image_length z
    → Next (λ m. write_at st p l) (λ m. write_value st) i (image_length z) img r
unfolding write_slot
write-next st p l i img z next line r ez en el h q w =
    let v = rw q at w in
    rw q (line-next _ _ i (image_length z) img _ line i h v
    (λ d m b. rw (ez, en)) (λ d m b. rw el))

-- the state after each store, where the page has a slot and where it takes one; m is what the writer held of the slot
module _ (st : State) (z : Sizes) (next w p l own s m v : ℕ) (ez : z ≡ st.sizes) (en : next ≡ st.next) (eo : own ≡ slot_of_page z st.table.page p)
    (es : s ≡ slot_from z next st.table.page own) (em : m ≡ held_at st.writers.held w s) (ev : v ≡ with_line m l)
    (s1 : State) (e1 : s1 ≡ with_writers st (with_held st.writers (set st.writers.held (16 * w + s) v))) where
  pub had-slot : own < z.slots → s1 ≡ line_held st w p l
  unfolding write_slot
  had-slot h =
      let t = rw (eo, ez) at (lt-ltb own z.slots h) in
      e1 ∙ rw (ev, em, es, eo, en, ez, t)

  pub took-slot : z.slots ≤ own → (f : ℕ) → f ≡ own_frame s1 p → (t : Slot) → t ≡ slot_in s1.table s → (s2 s3 : State)
      → s2 ≡ with_table s1 (with_slot s1.table s (record { page = p; original = f; spare = t.spare; bitmap = 0 })) → s3 ≡ with_next s2 ((s + 1) % z.slots) → s3 ≡ line_held st w p l
  unfolding write_slot
  took-slot h f ef t et s2 s3 e2 e3 =
      let n = rw (eo, ez) at (le-ltb own z.slots h) in
      rw (e3, e2, et, ef, e1, ev, em, es, eo, en, ez, n)

pub write_is_done : (st s1 s2 : State) (w p l : ℕ) → s1 ≡ line_held st w p l → s2 ≡ with_nothing s1 → s2 ≡ write_done st w p l
write_is_done st s1 s2 w p l e1 e2 = e2 ∙ ap with_nothing e1
