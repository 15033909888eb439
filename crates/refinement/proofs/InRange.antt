-- Every store of an operation that no row turns back goes to a word of the image; but for a wide write's, to one before the entries.
use Prim.Native.Nat.{ℕ, ◌+◌, ◌-◌, ◌*◌, ◌/◌, ◌%◌, ◌<◌, ◌≤◌}
use mathlib.Core.Bool.{Bool, true, false, not, ◌&&◌, ◌||◌}
use mathlib.Core.List.{List}
use mathlib.Core.Logic.{⊎_elim}
use mathlib.Core.Path.{◌≡◌, refl, sym, subst}
use native.Mathlib.Nat.{mod-lt}
use native.Mathlib.Omega.{arith}
use lib.Dec.{ltb, leb, eqb}
use lib.ListN.{length, get_or, set, length-set, get_or-eq_default}
use lib.Seq.{get_or-set_same}
use borrow.Author.Tests.{eqb-true, eqb-false, ltb-true, ltb-false, leb-false}
use Rattle.bounded.specs.Rows.{refusal}
use Rattle.bounded.proofs.Tests.{case_on, row_keeps, and_right, or_left, or_right}
use Rattle.bounded.proofs.Those.{chosen, length-those}
use Rattle.layout.specs.declared.Sizes.{Sizes}
use Rattle.layout.specs.Layout.{Legal, frames, head_word, tail_word, count_word, page_word, slot_word, record_word, line_word, entry_word, image_words, image_length}
use Rattle.layout.proofs.LayoutLaws.{record-end, frame-start, line-end}
use Rattle.entries.specs.Entries.{key_of, key_page, key_line}
use Rattle.entries.proofs.EntryLaws.{entry-le}
use Rattle.journal.specs.Records.{position}
use Rattle.journal.specs.declared.Slot.{Slot}
use Rattle.journal.specs.Slots.{shaped}
use Rattle.journal.proofs.SlotWords.{Owning, Free, shape}
use Rattle.replay.specs.declared.Table.{Table}
use Rattle.replay.specs.Table.{no_position, slot_in, with_slot}
use Rattle.replay.proofs.Tables.{slot-other}
use Rattle.masks.proofs.Members.{in-none}
use Rattle.state.specs.State.{State, own_frame}
use Rattle.state.specs.declared.Op.{Op}
use Rattle.state.specs.declared.Op.TheVariants.{Idle, Write, Commit, Consolidate, Checkpoint, Event, Prepare, Confirm, Log, Copy, Format}
use Rattle.state.specs.Wide.{entry_for, has_entry}
use Rattle.state.specs.Slots.{free_after}
use Rattle.operations.specs.Operations.{is_idle, slot_for, slotted, op_rows, needs, recorded_slots}
use Rattle.validity.specs.Validity.{state_ok}
use Rattle.validity.proofs.Ranged.{slots-good}
use Rattle.operations.proofs.Taken.{write-taken, consolidate-taken, log-taken, event-taken}
use Rattle.refinement.specs.Frames.{other_frame, page_slot}
use Rattle.refinement.specs.Wide.{log_at, copied_frame, copy_at, copy_at_of}
use Rattle.refinement.specs.Stores.{store_at}
use Rattle.refinement.specs.Write.{write_slot, write_at, write_table}
use Rattle.refinement.specs.Commit.{commit_slots, commit_at, commit_at_of}
use Rattle.refinement.specs.Consolidate.{is_few, copy_to, copy_lines, copy_store_count, consolidate_at}
use Rattle.refinement.specs.Checkpoint.{checkpoint_slot, checkpoint_at, checkpoint_at_of}
use Rattle.meters.specs.Meters.{event_known, moves_credit, first_meter, own_meter}
use Rattle.meters.proofs.MeterLaws.{first-low, own_range}
use Rattle.refinement.specs.Event.{first_asked, line_done, second_asked, lines_done, line_stores, event_at}
use Rattle.refinement.proofs.EventRows.{lines-sizes}
use Rattle.refinement.proofs.SeenFrames.{page-slot-owning}
use Rattle.fresh.proofs.FreshStores.{format-in}
use Rattle.refinement.proofs.StateValid.{parts, valid}
use Rattle.refinement.proofs.Pending.{pends}
use Rattle.refinement.proofs.Valid.{copy-low}
pub use Rattle.refinement.proofs.SeenFrames.{other-low}
pub use Rattle.refinement.proofs.ConsolidatePlaces.{copy_line}

-- ---- words of the image by what they are

module _ (z : Sizes) (g : Legal z) where
  record-in : (q k : ℕ) → k < 4 → record_word z q + k < entry_word z 0
  record-in q k l = omega (arith, record-end z g q, frame-start z)

  slot-in : (s k : ℕ) → s < z.slots → k < 3 → slot_word z s + k < entry_word z 0
  slot-in s k l m = omega (arith, frame-start z)

  page-in : (p : ℕ) → p < z.pages → page_word p < entry_word z 0
  page-in p l = omega (arith, frame-start z)

  header-in : (a : ℕ) → a < 8 → a < entry_word z 0
  header-in a l = omega (arith, frame-start z)

  line-in : (f l k : ℕ) → f < frames z → l < 64 → k < 8 → line_word z f l + k < entry_word z 0
  line-in f l k a b c = omega (arith, line-end z f l a b)

-- ---- the operations

module _ (z : Sizes) (g : Legal z) where
  -- in each slot the frame that is not the committed one is a frame
  abbrev OthersLow : Table → Type 0
  OthersLow t = (s l : ℕ) → s < z.slots → other_frame (slot_in t s) l < frames z

  -- an element replaced, inside the list or past it
  at_set : (P : ℕ → Type 0) (l : List ℕ) (s x : ℕ) → P x → P 0 → P (get_or (set l s x) s 0)
  at_set P l s x h o =
      case_on (ltb s (length l))
      (λ t. rw (get_or-set_same l s x 0 (ltb-true s (length l) t)) h)
      (λ t.
      let q : get_or (set l s x) s 0 ≡ 0 = get_or-eq_default (set l s x) 0 (omega (arith, length-set l s x, ltb-false s (length l) t)) in
      rw q o)

  -- with a slot taken, in which no line is in the spare
  others-taken : (t : Table) (s p f x : ℕ) → OthersLow t → x < frames z → OthersLow (with_slot t s (record { page = p; original = f; spare = x; bitmap = 0 }))
  others-taken t s p f x low h u l m =
      let v : Slot = record { page = p; original = f; spare = x; bitmap = 0 } in
      case_on (eqb u s)
      (λ q.
      let none : get_or (set t.bitmap s 0) s 0 ≡ 0 = at_set (λ b. b ≡ 0) t.bitmap s 0 refl refl in
      rw (eqb-true u s q, none, in-none l) (at_set (λ y. y < frames z) t.spare s x h (omega (arith, g.slots-low))))
      (λ q. subst (λ (y : Slot). other_frame y l < frames z) (sym (slot-other t s v u (eqb-false u s q))) (low u l m))

  spare-in : (t : Slot) → shaped z t ≡ true → t.spare < frames z
  spare-in t e = ⊎_elim (λ (o : Owning z t). o.spare_low) (λ (f : Free z t). f.spare_low) (shape z t e)

-- a write goes to a slot, whatever the state
write-slot-in : (st : State) (p : ℕ) → Legal st.sizes → write_slot st p < st.sizes.slots
unfolding write_slot
write-slot-in st p g =
    let z = st.sizes in
    case_on (slotted st p)
    (λ y. rw y (ltb-true (slot_for st p) z.slots y))
    (λ y. rw y (mod-lt (st.next + free_after z st.table.page st.next) (omega (arith, g.slots-low))))

write-in : (st : State) (g : Legal st.sizes) → OthersLow st.sizes g st.table → (p l i : ℕ) → l < 64 → i < 8 → write_at st p l i < entry_word st.sizes 0
write-in st g low p l i m k =
    line-in st.sizes g (other_frame (slot_in st.table (write_slot st p)) l) l i (low (write_slot st p) l (write-slot-in st p g)) m k

commit-in : (st : State) → Legal st.sizes → (w i : ℕ) → commit_at st w i < entry_word st.sizes 0
unfolding commit_at_of
commit-in st g w i =
    let z = st.sizes in
    row_keeps (λ (x : ℕ). x < entry_word z 0) (ltb i (4 * length (commit_slots st w))) (record_word z (position z st.head (i / 4)) + i % 4) head_word
    (record-in z g (position z st.head (i / 4)) (i % 4) (omega arith)) (header-in z g head_word (omega arith))

module _ (st : State) (e : state_ok st ≡ true) where
  abbrev z : Sizes
  z = st.sizes

  legal : Legal z
  legal = (valid st e).legal

  others-low : OthersLow z legal st.table
  others-low s l m = other-low z (slot_in st.table s) l ((valid st e).slots.shapes s m)

  pub consolidate-in : (p i : ℕ) → refusal (op_rows st (Consolidate p)) ≡ 0 → consolidate_at st p i < entry_word z 0
  unfolding consolidate_at
  consolidate-in p i r =
      let h = consolidate-taken st p r in
      let t = page_slot st p in
      let c = copy_store_count t in
      let o = page-slot-owning st p legal h.page-low h.has-slot (slots-good z st.head st.tail st.table (own_frame st) (parts st e).slots).shapes in
      case_on (ltb i c)
      (λ a.
      let m : i < c = ltb-true i c a in
      rw a
      (line-in z legal (copy_to t) (get_or (copy_lines t) (i / 8) 64) (i % 8)
      (row_keeps (λ (x : ℕ). x < frames z) (is_few t) t.original t.spare o.original-low o.spare_low) (copy_line t (i / 8) (omega arith)) (omega arith)))
      (λ a.
      let m : c ≤ i = ltb-false i c a in
      case_on (eqb i c)
      (λ b. rw (a, b) (page-in z legal p h.page-low))
      (λ b.
      let n : i ≡ c → ⊥ = eqb-false i c b in
      case_on (ltb i (c + 5))
      (λ d.
      let k : i < c + 5 = ltb-true i (c + 5) d in
      rw (a, b, d) (record-in z legal st.head (i - (c + 1)) (omega arith)))
      (λ d. rw (a, b, d) (header-in z legal head_word (omega arith)))))

  pub checkpoint-in : (i : ℕ) → checkpoint_at st i < entry_word z 0
  unfolding checkpoint_at_of recorded_slots
  checkpoint-in i =
      let test : ℕ → Bool = λ s. not (eqb (get_or st.table.last s 0) no_position) in
      let n = length (recorded_slots z st.table.last) in
      case_on (ltb i (3 * n))
      (λ a.
      let m : i < 3 * n = ltb-true i (3 * n) a in
      let low : i / 3 < length (recorded_slots z st.table.last) = omega arith in
      let c = chosen test z.slots (i / 3) 0 (omega (arith, low, length-those test z.slots)) in
      rw a (slot-in z legal (checkpoint_slot st i) (i % 3) c.below (omega arith)))
      (λ a. rw a (header-in z legal tail_word (omega arith)))

  -- an event's are those of its writes and its commit
  event-in : (k m i : ℕ) → event_known k m ≡ true → event_at st k m i < entry_word z 0
  unfolding event_at line_done
  event-in k m i known =
      let first : State = first_asked st k m in
      let s : ℕ = write_slot first 0 in
      let x : ℕ = (slot_in st.table s).spare in
      let spare : x < frames z = spare-in z legal (slot_in st.table s) ((valid st e).slots.shapes s (write-slot-in first 0 legal)) in
      let second : OthersLow z legal (write_table first 0) =
      row_keeps (OthersLow z legal) (slotted first 0) st.table (with_slot st.table s (record { page = 0; original = own_frame st 0; spare = x; bitmap = 0 })) others-low
      (others-taken z legal st.table s 0 (own_frame st 0) x others-low spare) in
      case_on (ltb i 8)
      (λ t. rw t (write-in first legal others-low 0 (first_meter k m) i (omega (arith, first-low k m known)) (ltb-true i 8 t)))
      (λ t.
      case_on (moves_credit k && ltb i 16)
      (λ u.
      rw (t, u)
      (write-in (second_asked st k m) legal second 0 (own_meter k m) (i - 8) (omega (arith, (own_range k m known).1))
      (omega (arith, ltb-false i 8 t, ltb-true i 16 (and_right (moves_credit k) (ltb i 16) u)))))
      (λ u.
      rw (t, u)
      (subst (λ (y : Sizes). commit_at (lines_done st k m) 1 (i - line_stores k) < entry_word y 0) (lines-sizes st k m)
      (commit-in (lines_done st k m) (subst Legal (sym (lines-sizes st k m)) legal) 1 (i - line_stores k)))))

-- a wide write's lie in an entry, a wide commit's in the header and in frames
module _ (st : State) (e : state_ok st ≡ true) where
  log-in : (p l o n i : ℕ) → refusal (op_rows st (Log p l o n)) ≡ 0 → i < 9 → log_at st p l i < image_words st.sizes
  log-in p l o n i r m =
      let d = st.wide in
      let x = entry_for d p l in
      let room = (log-taken st p l o n r).room in
      let low : x < st.sizes.entries =
      case_on (has_entry d p l)
      (λ t. omega (arith, ltb-true x d.count t, (valid st e).entries.few))
      (λ t.
      let full : leb st.sizes.entries d.count ≡ false = rw t at room in
      omega (arith, entry-le d.keys d.count (key_of p l), leb-false st.sizes.entries d.count full)) in
      omega arith

  copy-in : (i : ℕ) → copy_at st i < entry_word st.sizes 0
  unfolding copy_at_of
  copy-in i =
      let z = st.sizes in
      let v = valid st e in
      let n = st.wide.count in
      let k = get_or st.wide.keys ((i - 1) / 8) 0 in
      let f = copied_frame (own_frame st) z st.table k in
      case_on (eqb i 0 || ltb (8 * n) i)
      (λ t. rw t (header-in z v.legal count_word (omega arith)))
      (λ t.
      let some : i ≡ 0 → ⊥ = eqb-false i 0 (or_left (eqb i 0) (ltb (8 * n) i) t) in
      let few : i ≤ 8 * n = ltb-false (8 * n) i (or_right (eqb i 0) (ltb (8 * n) i) t) in
      let page : key_page k < z.pages = v.entries.page-low ((i - 1) / 8) (omega arith) in
      rw t (line-in z v.legal f (key_line k) ((i - 1) % 8) (copy-low st e (key_page k) (key_line k) page) (omega arith) (omega arith)))

-- what is before the entries is in the image
in_image : (z : Sizes) (a : ℕ) → a < entry_word z 0 → a < image_words z
in_image z a l = omega arith

module _ (st : State) (e : state_ok st ≡ true) where
  -- store i of an operation that needs more than i
  pub op-in-range : (op : Op) → refusal (op_rows st op) ≡ 0 → (i : ℕ) → i < needs st op → store_at st op i < image_words st.sizes
  unfolding needs
  op-in-range Idle r i l = absurd (omega arith)
  op-in-range (Write w p l o n) r i m =
      in_image st.sizes _ (write-in st (legal st e) (others-low st e) p l i (write-taken st w p l o n r).args.line_low m)
  op-in-range (Commit w) r i l = in_image st.sizes _ (commit-in st (legal st e) w i)
  op-in-range (Consolidate p) r i l = in_image st.sizes _ (consolidate-in st e p i r)
  op-in-range Checkpoint r i l = in_image st.sizes _ (checkpoint-in st e i)
  op-in-range (Event k m a) r i l = in_image st.sizes _ (event-in st e k m i (event-taken st k m a r).known)
  op-in-range (Prepare w) r i l = in_image st.sizes _ (commit-in st (legal st e) w i)
  op-in-range (Confirm w) r i l = in_image st.sizes _ (header-in st.sizes (legal st e) head_word (omega arith))
  op-in-range (Log p l o n) r i m = log-in st e p l o n i r m
  op-in-range Copy r i l = in_image st.sizes _ (copy-in st e i)
  op-in-range Format r i l = format-in st.sizes (legal st e) i (omega arith)

  -- store i of the pending operation: its eight bytes, on a word, lie inside the image
  pub store-in-range : is_idle st.pending.op ≡ false → (i : ℕ) → i < needs st st.pending.op → 8 * store_at st st.pending.op i + 8 ≤ image_length st.sizes
  store-in-range d i l =
      let a : store_at st st.pending.op i < image_words st.sizes = op-in-range st.pending.op (pends st st.pending.op e refl d).taken i l in
      omega arith
