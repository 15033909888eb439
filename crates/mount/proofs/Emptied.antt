-- A checkpoint: once each slot with a live record has that record's words in the slot table, the store of head to tail
-- leaves no live record, and the slots and homes as they were.
use Prim.Native.Nat.{ℕ, ◌+◌, ◌^◌, ◌≤◌, ◌<◌}
use mathlib.Core.Path.{◌≡◌, refl, sym, ap, ap₂, ◌∙◌, subst}
use mathlib.Core.Bool.{true}
use mathlib.Core.List.{List, []}
use native.Mathlib.Omega.{arith}
use lib.Dec.{ltb, eqb}
use lib.ListN.{length}
use borrow.Author.Tests.{ltb-true, ltb-false, eqb-true, eqb-false}
use Rattle.bounded.specs.Tab.{tab}
use Rattle.bounded.proofs.Tests.{case_on}
use Rattle.layout.specs.declared.Sizes.{Sizes}
use Rattle.layout.specs.Layout.{Legal, tail_word, slot_word}
use Rattle.words.specs.Words.{word, store}
use Rattle.journal.specs.declared.Slot.{Slot}
use Rattle.journal.specs.declared.Record.{Record}
use Rattle.replay.specs.declared.Table.{Table}
use Rattle.journal.specs.Slots.{slot_from, word_of_slot}
use Rattle.journal.specs.Records.{live_count, live_record, records_ok}
use Rattle.replay.specs.Table.{no_position, slot_in, last_in, empty_table, table_from, slots_of_arrays, home_of}
use Rattle.replay.specs.Map.{page_frames}
use Rattle.journal.proofs.Ring.{live-none, positions-none}
use Rattle.journal.proofs.SlotWords.{slot-back}
use Rattle.replay.proofs.Tables.{Sixteen, table-ext, sixteen-from, from-slot, from_past, from_last, empty-last}
use Rattle.replay.proofs.Latest.{sixteen-replay, replay-kept}
use Rattle.mount.proofs.View.{View, live, Shows, shown, table-shown}
use Rattle.mount.proofs.Verdict.{record_in, record-at, Taken}
use Rattle.mount.proofs.HeadTail.{none-live, store_tail}
use Rattle.journal.proofs.RightRecords.{right-at, right-all}
use Rattle.mount.proofs.LastRecords.{last-record, table-slot}

-- a table without last positions, and a view without records
abbrev pub unrecorded : Table → Table
unrecorded t = slots_of_arrays t.page t.original t.spare t.bitmap

abbrev pub emptied : View → View
emptied v =
    record { sizes = v.sizes; layout = v.layout; head = v.head; tail = v.head; records = []; table = unrecorded v.table; homes = v.homes; count = v.count; keys = v.keys }

-- the slots with a live record are in the slot table
abbrev pub Copied : (ℕ → ℕ) → View → Type 0
Copied r v =
    (s k : ℕ) → s < v.sizes.slots → (last_in v.table s ≡ no_position → ⊥) → k < 3 → r (slot_word v.sizes s + k) ≡ word_of_slot (slot_in v.table s) k

sixteen-unrecorded : (t : Table) → Sixteen t → Sixteen (unrecorded t)
sixteen-unrecorded t h = record { page = h.page; original = h.original; spare = h.spare; bitmap = h.bitmap; last = refl }

module _ (img : List ℕ) (v : View) (shows : Shows img v) (legal : Legal v.sizes) (copied : Copied (word img) v) where
  original-low : (s : ℕ) → s < v.sizes.slots → (last_in v.table s ≡ no_position → ⊥) → (slot_in v.table s).original < 2 ^ 32
  unfolding live_record
  original-low s l f = subst (λ (u : Slot). u.original < 2 ^ 32) (last-record img v shows legal s l f).now (omega arith)

  slot-copied : (s : ℕ) → s < v.sizes.slots → slot_from (word img) (slot_word v.sizes s) ≡ slot_in v.table s
  slot-copied s l =
      case_on (eqb (last_in v.table s) no_position)
      (λ t. sym (table-slot img v shows legal s l (eqb-true (last_in v.table s) no_position t)))
      (λ t.
      let f : last_in v.table s ≡ no_position → ⊥ = eqb-false (last_in v.table s) no_position t in
      slot-back (word img) (slot_word v.sizes s) (slot_in v.table s) (original-low s l f) (λ k m. copied s k l f m))

  module _ (right : records_ok v.sizes v.tail (live v) (record_in v) ≡ true) where
    -- no record names a slot past S
    slot-low : (i : ℕ) → i < live v → (live_record (word img) v.sizes v.tail i).slot < v.sizes.slots
    slot-low i m =
        subst (λ (e : Record). e.slot < v.sizes.slots) (record-at img v shows i m) (right-at v.sizes v.tail (record_in v) (live v) i m right).slot-low

    past-kept : (s : ℕ) → v.sizes.slots ≤ s → slot_in v.table s ≡ slot_in empty_table s
    past-kept s l =
        let z : Sizes = v.sizes in
        let e : ℕ → Record = live_record (word img) z v.tail in
        ap (λ (u : Table). slot_in u s) (table-shown img v shows)
        ∙ (replay-kept z v.tail e (table_from (word img) z) (sixteen-from (word img) z) s (live v) (λ i m q. omega (arith, slot-low i m, q))).slot
        ∙ from_past (word img) z s l

    table-emptied : table_from (word img) v.sizes ≡ unrecorded v.table
    table-emptied =
        let z : Sizes = v.sizes in
        let full : Sixteen v.table =
        subst Sixteen (sym (table-shown img v shows)) (sixteen-replay z v.tail (live v) (live_record (word img) z v.tail) (table_from (word img) z) (sixteen-from (word img) z)) in
        table-ext (table_from (word img) z) (unrecorded v.table) (sixteen-from (word img) z) (sixteen-unrecorded v.table full)
        (λ s m.
        case_on (ltb s z.slots)
        (λ t.
        let l : s < z.slots = ltb-true s z.slots t in
        from-slot (word img) z s l m ∙ slot-copied s l)
        (λ t.
        let l : z.slots ≤ s = ltb-false s z.slots t in
        from_past (word img) z s l ∙ sym (past-kept s l)))
        (λ s m. from_last (word img) z s ∙ sym (empty-last s))

    homes-kept : tab v.sizes.pages (home_of (page_frames (word img)) v.sizes (unrecorded v.table)) ≡ v.homes
    homes-kept =
        ap (λ (t : Table). tab v.sizes.pages (home_of (page_frames (word img)) v.sizes t)) (table-shown img v shows)
        ∙ sym (ap (λ (u : View). u.homes) (shown img v shows))

    -- after the store to tail
    pub emptied-view : 48 ≤ length img → v.head < 2 ^ 64 → Shows (store img tail_word v.head) (emptied v)
    emptied-view fits low =
        store_tail img v shows v.head low fits
        ∙ none-live (word img) v.sizes v.layout v.head v.count (unrecorded v.table) table-emptied
        ∙ ap₂ (λ (h k : List ℕ). record { sizes = v.sizes; layout = v.layout; head = v.head; tail = v.head; records = []; table = unrecorded v.table; homes = h; count = v.count; keys = k }) homes-kept (sym (ap (λ (u : View). u.keys) (shown img v shows)))

-- mount takes the emptied image too
pub emptied-taken : (n : ℕ) (v : View) → Taken n v → Taken n (emptied v)
emptied-taken n v h =
    record {
      legal = h.legal;
      layout = h.layout;
      fits = h.fits;
      positions = positions-none v.sizes h.legal v.head h.positions.head-low;
      records =
          right-all v.sizes v.head (record_in (emptied v)) (live_count v.sizes v.head v.head)
          (λ i l. absurd (omega (arith, live-none v.sizes v.head)));
      shapes = h.shapes;
      apart = h.apart;
      names = h.names;
      entries = h.entries;
    }
