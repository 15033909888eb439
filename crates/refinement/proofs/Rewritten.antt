-- A write that changes no byte of a line that its writer holds: if its eight stores were made, each would put back the word that is there, as the
-- line is seen in the frame that they go to, and the state at their end would be the one before them.
use Prim.Native.Nat.{ℕ, ◌+◌, ◌*◌, ◌^◌, ◌<◌, ◌≤◌}
use mathlib.Core.Bool.{Bool, true, false, not, ◌&&◌}
use mathlib.Core.List.{List}
use mathlib.Core.Path.{◌≡◌, refl, sym, ap, ◌∙◌}
use native.Mathlib.Omega.{arith}
use lib.Dec.{eqb}
use lib.ListN.{length, get_or, set}
use lib.Seq.{set-get_or}
use borrow.Author.Tests.{not-true}
use Rattle.bounded.specs.Rows.{refusal}
use Rattle.bounded.proofs.Tests.{and_left, and_right}
use Rattle.layout.specs.declared.Sizes.{Sizes}
use Rattle.layout.specs.Layout.{frames, line_word, image_length}
use Rattle.layout.proofs.LayoutLaws.{line-end}
use Rattle.words.specs.Words.{Bytes, word}
use Rattle.words.proofs.WordLaws.{store_same}
use Rattle.image.specs.Lines.{line_words, merge_changes}
use Rattle.image.proofs.LineLaws.{length-line, merge-same}
use Rattle.masks.specs.Lines.{in_mask, with_line}
use Rattle.state.specs.State.{State}
use Rattle.state.specs.declared.Op.TheVariants.{Write}
use Rattle.state.specs.Held.{held_at}
use Rattle.state.specs.Wide.{is_wide}
use Rattle.operations.specs.Operations.{slot_for, slotted, write_rows, needs}
use Rattle.operations.proofs.Taken.{WriteTaken, write-taken}
use Rattle.validity.specs.Validity.{state_ok}
use Rattle.refinement.specs.Frames.{seen_frame, holds}
use Rattle.refinement.specs.Settled.{no_pending}
use Rattle.refinement.specs.Write.{write_slot, write_at, write_value}
use Rattle.refinement.specs.Stores.{store_made, completed, stepped_by, left}
use Rattle.refinement.specs.Calls.{with_pending, world_of, finished_line, changes_nothing}
use Rattle.refinement.proofs.Going.{ranges-of, shapes-of}
use Rattle.refinement.proofs.LinePut.{with-again}
use Rattle.refinement.proofs.SeenFrames.{seen_low}
use Rattle.refinement.proofs.Valid.{map-low}
use Rattle.refinement.proofs.PutBack.{line_at, all_back}
use Rattle.refinement.proofs.WriterCalls.{frame_line, changes-narrow, finished-narrow}

module _ (st : State) (img : List ℕ) (w p l o n : ℕ) (bytes : List ℕ) (ok : state_ok st ≡ true) (long : image_length st.sizes ≤ length img) (sound : Bytes img)
    (row : refusal (write_rows st w p l o n) ≡ 0) (given : n ≤ length bytes)
    (other : is_wide st.wide w ≡ false) (idle : changes_nothing st img w p l o n bytes ≡ true) where
  abbrev z : Sizes
  z = st.sizes

  -- the frame that the line is seen in, and the state with the write pending
  abbrev f : ℕ
  f = seen_frame st w p l

  abbrev asks : State
  asks = with_pending st (Write w p l o n) (finished_line st img w p l o n bytes)

  T : WriteTaken st w p l o n
  T = write-taken st w p l o n row

  abbrev same : Bool
  same = not (merge_changes (frame_line st img w p l) o n bytes)

  both : holds st w p l && same ≡ true
  both = sym (changes-narrow st img w other p l o n bytes) ∙ idle

  line-held : holds st w p l ≡ true
  line-held = and_left (holds st w p l) same both

  pub has-slot : slotted st p ≡ true
  has-slot = and_left (slotted st p) (in_mask (held_at st.writers.held w (slot_for st p)) l) line-held

  mine : in_mask (held_at st.writers.held w (slot_for st p)) l ≡ true
  mine = and_right (slotted st p) (in_mask (held_at st.writers.held w (slot_for st p)) l) line-held

  frame-low : f < frames z
  frame-low = seen_low st w p l (ranges-of st ok).legal T.args.page-low (shapes-of st ok) (map-low st ok p T.args.page-low)

  line_low : 8 * line_word z f l + 64 ≤ length img
  line_low = omega (arith, line-end z f l frame-low T.args.line_low)

  -- ---- the stores

  finished : finished_line st img w p l o n bytes ≡ line_words (frame_line st img w p l)
  finished =
      finished-narrow st img w other p l o n bytes
      ∙ ap line_words
      (merge-same (frame_line st img w p l) o n bytes (length-line img z f l frame-low T.args.line_low long) T.args.fits given
      (not-true (merge_changes (frame_line st img w p l) o n bytes) (and_right (holds st w p l) same both)))

  goes : (i : ℕ) → write_at asks p l i ≡ line_word z f l + i
  unfolding write_slot seen_frame
  goes i = rw (has-slot, mine)

  value : (i : ℕ) → i < 8 → write_value asks i ≡ word img (line_word z f l + i)
  value i m = ap (λ (ws : List ℕ). get_or ws i 0) finished ∙ line_at img (line_word z f l) i m line_low

  pub back : (i : ℕ) → i < needs st (Write w p l o n) → store_made asks img (Write w p l o n) i ≡ img
  unfolding needs
  back i m = rw (goes i, value i m) (store_same img (line_word z f l + i) sound (omega (arith, line_low)))

  -- ---- the state

  module _ (none : st.pending ≡ no_pending) (low : held_at st.writers.held w (slot_for st p) < 2 ^ 64) where
    held_back : set st.writers.held (16 * w + slot_for st p) (with_line (held_at st.writers.held w (slot_for st p)) l) ≡ st.writers.held
    held_back =
        ap (set st.writers.held (16 * w + slot_for st p)) (with-again (held_at st.writers.held w (slot_for st p)) l low T.args.line_low mine)
        ∙ set-get_or st.writers.held (16 * w + slot_for st p) 0

    pub completed-back : completed asks (Write w p l o n) ≡ st
    unfolding write_slot
    completed-back =
        rw has-slot
        (λ i.
        record { sizes = st.sizes; head = st.head; tail = st.tail; next = st.next; table = st.table; map = st.map; writers = record { opened = st.writers.opened; held = held_back i; prepared = st.writers.prepared }; wide = st.wide; pending = sym none i })

    -- after all eight the world is as it was
    pub world-back : stepped_by (left asks) (world_of asks img) ≡ world_of st img
    unfolding needs
    world-back = all_back st img (Write w p l o n) (finished_line st img w p l o n bytes) back refl (omega arith) completed-back
