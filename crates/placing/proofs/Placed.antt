-- Where the stores of the operations go.
use Prim.Native.Nat.{ℕ, ◌+◌, ◌-◌, ◌*◌, ◌/◌, ◌%◌, ◌<◌, ◌≤◌}
use mathlib.Core.Bool.{Bool, true, false, cond}
use mathlib.Core.List.{List}
use mathlib.Core.Path.{◌≡◌, refl}
use native.Mathlib.Nat.{mod-lt}
use native.Mathlib.Omega.{arith}
use lib.Dec.{ltb, leb, eqb}
use lib.ListN.{length, get_or}
use borrow.Author.Tests.{lt-ltb, le-ltb, lt-leb, leb-true, leb-false, eq-eqb, ne_eqb}
use Rattle.bounded.proofs.Tests.{case_on}
use Rattle.layout.specs.declared.Sizes.{Sizes}
use Rattle.layout.specs.Layout.{Legal, layout_word, head_word, tail_word, page_word, slot_word, record_word, padding_word, line_word, image_words}
use Rattle.journal.specs.Records.{position}
use Rattle.journal.specs.declared.Slot.{Slot}
use Rattle.masks.specs.Lines.{count_lines}
use Rattle.fresh.specs.Fresh.{format_at}
use Rattle.state.specs.State.{State}
use Rattle.state.specs.declared.Op.TheVariants.{Write, Commit, Consolidate, Checkpoint, Format}
use Rattle.state.specs.Held.{held_slots}
use Rattle.operations.specs.Operations.{copy_count, recorded_slots}
use Rattle.refinement.specs.Frames.{page_slot}
use Rattle.refinement.specs.Commit.{commit_at_of}
use Rattle.refinement.specs.Consolidate.{is_few, copy_to, copy_lines, consolidation_at, consolidate_at}
use Rattle.refinement.specs.Checkpoint.{checkpoint_slot_of, checkpoint_at_of}
use Rattle.refinement.specs.Stores.{store_at}
use Rattle.refinement.proofs.CheckpointPlaces.{recorded-slot-low}
use Rattle.refinement.proofs.ConsolidatePlaces.{copy_line}
use Rattle.placing.specs.Placing.{InJournal, InSlots, records_of, recorded_in, copies_of, Placed, EachPlaced}

-- word k of a record
in-journal : (z : Sizes) → Legal z → (q k : ℕ) → k < 4 → InJournal z (record_word z q + k)
in-journal z legal q k h =
    let low : q % z.places < z.places = mod-lt q (omega (arith, legal.slots-low, legal.places-low)) in
    record { from = omega arith; below = omega (arith, low) }

-- at most half the lines are copied
pub copies-few : (m : ℕ) → copy_count m ≤ 32
unfolding copy_count
copies-few m =
    case_on (leb (count_lines m) 32)
    (λ t. rw t (leb-true (count_lines m) 32 t))
    (λ t. rw t (omega (arith, leb-false (count_lines m) 32 t)))

module _ (st : State) (img : List ℕ) (legal : Legal st.sizes) where
  abbrev z : Sizes
  z = st.sizes

  records : (w i : ℕ) → i < 4 * records_of st w → InJournal z (store_at st (Commit w) i)
  unfolding commit_at_of
  records w i h = rw (lt-ltb i (4 * records_of st w) h) (in-journal z legal (position z st.head (i / 4)) (i % 4) (omega arith))

  head : (w i : ℕ) → 4 * records_of st w ≤ i → store_at st (Commit w) i ≡ head_word
  unfolding commit_at_of
  head w i h = rw (le-ltb i (4 * records_of st w) h)

  copies : (p i : ℕ) → i < 8 * copies_of st p → store_at st (Consolidate p) i ≡ line_word z (copy_to (page_slot st p)) (get_or (copy_lines (page_slot st p)) (i / 8) 64) + i % 8
  unfolding consolidate_at
  copies p i h = rw (lt-ltb i (8 * copies_of st p) h)

  page : (p i : ℕ) → i ≡ 8 * copies_of st p → store_at st (Consolidate p) i ≡ page_word p
  unfolding consolidate_at
  page p i e =
      let c = 8 * copies_of st p in
      rw (le-ltb i c (omega arith), eq-eqb i c e)

  freeing : (p i : ℕ) → 8 * copies_of st p < i → i < 8 * copies_of st p + 5 → InJournal z (store_at st (Consolidate p) i)
  unfolding consolidate_at
  freeing p i h l =
      let c = 8 * copies_of st p in
      let u : eqb i c ≡ false = ne_eqb i c (λ e. omega (arith, e)) in
      rw (le-ltb i c (omega arith), u, lt-ltb i (c + 5) l) (in-journal z legal st.head (i - (c + 1)) (omega arith))

  freed : (p i : ℕ) → 8 * copies_of st p + 5 ≤ i → store_at st (Consolidate p) i ≡ head_word
  unfolding consolidate_at
  freed p i h =
      let c = 8 * copies_of st p in
      let u : eqb i c ≡ false = ne_eqb i c (λ e. omega (arith, e)) in
      rw (le-ltb i c (omega arith), u, le-ltb i (c + 5) h)

  slots : (i : ℕ) → i < 3 * recorded_in st → InSlots z (store_at st Checkpoint i)
  unfolding checkpoint_at_of
  slots i h =
      let s = checkpoint_slot_of z st.table.last i in
      let low : s < z.slots = recorded-slot-low z st.table.last (i / 3) s legal refl in
      rw (lt-ltb i (3 * recorded_in st) h) (record { from = omega arith; below = omega (arith, low) })

  tail : (i : ℕ) → 3 * recorded_in st ≤ i → store_at st Checkpoint i ≡ tail_word
  unfolding checkpoint_at_of
  tail i h = rw (le-ltb i (3 * recorded_in st) h)

  -- the image has more than a header
  some_words : 8 < image_words z
  some_words = omega (arith, legal.pages-low)

  first : (i : ℕ) → i < 8 → store_at st Format i < 8
  unfolding format_at
  first i h =
      let u : eqb i (image_words z) ≡ false = ne_eqb i (image_words z) (λ e. omega (arith, e, some_words)) in
      case_on (eqb i 0)
      (λ t. rw t (omega arith))
      (λ t. rw (t, u) (case_on (leb i 3) (λ l. rw l (omega arith)) (λ l. rw l h)))

  rising : (i : ℕ) → 8 ≤ i → i < image_words z → store_at st Format i ≡ i
  unfolding format_at
  rising i h l =
      let t : eqb i 0 ≡ false = ne_eqb i 0 (λ e. omega (arith, e)) in
      let u : eqb i (image_words z) ≡ false = ne_eqb i (image_words z) (λ e. omega (arith, e)) in
      rw (t, u, lt-leb i 3 (omega arith))

  last : store_at st Format (image_words z) ≡ layout_word
  unfolding format_at
  last =
      let t : eqb (image_words z) 0 ≡ false = ne_eqb (image_words z) 0 (λ e. omega (arith, e, some_words)) in
      rw (t, eq-eqb (image_words z) (image_words z) refl)

pub each_placed : EachPlaced
each_placed st img legal =
    record {
      write = λ w p l o n i. refl;
      records = records st img legal;
      head = head st img legal;
      copies = copies st img legal;
      lines = λ p j h. copy_line (page_slot st p) j h;
      few = λ p. copies-few (page_slot st p).bitmap;
      page = page st img legal;
      freeing = freeing st img legal;
      freed = freed st img legal;
      slots = slots st img legal;
      tail = tail st img legal;
      first = first st img legal;
      rising = rising st img legal;
      last = last st img legal;
    }
