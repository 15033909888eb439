-- Last positions: where a slot has one, the record there is live and holds the slot; where it has none, the slot is
-- the slot table's. No position is that of two slots.
use Prim.Native.Nat.{ℕ, ◌+◌, ◌*◌, ◌<◌}
use mathlib.Core.Path.{◌≡◌, sym, ap, ◌∙◌, subst}
use mathlib.Core.List.{List}
use native.Mathlib.Omega.{arith}
use Rattle.layout.specs.declared.Sizes.{Sizes}
use Rattle.layout.specs.Layout.{Legal, slot_word, record_word}
use Rattle.words.specs.Words.{word}
use Rattle.journal.specs.declared.Slot.{Slot}
use Rattle.journal.specs.declared.Record.{Record}
use Rattle.replay.specs.declared.Table.{Table}
use Rattle.journal.specs.Slots.{slot_from, word_of_slot}
use Rattle.journal.specs.Records.{position, live_count, live_record}
use Rattle.replay.specs.Table.{no_position, slot_in, last_in, table_from}
use Rattle.journal.proofs.Ring.{Positions, pos-apart, pos-lt, live_of}
use Rattle.journal.proofs.SlotWords.{slot-words}
use Rattle.replay.proofs.Tables.{sixteen-from, from-slot, from_last}
use Rattle.replay.proofs.Latest.{NoRecord, replay-latest, replay-kept, none-recorded, some-recorded}
use Rattle.mount.proofs.View.{View, live, Shows, table-shown}

-- the live record that slot s has from
pub record LastRecord (r : ℕ → ℕ) (v : View) (s : ℕ) : Type 0 where
  pub number : ℕ
  pub is_live : number < live v
  pub at : position v.sizes v.tail number ≡ last_in v.table s
  pub slot : (live_record r v.sizes v.tail number).slot ≡ s
  pub now : (live_record r v.sizes v.tail number).now ≡ slot_in v.table s
  pub words : (k : ℕ) → k < 3 → r (record_word v.sizes (last_in v.table s) + 1 + k) ≡ word_of_slot (slot_in v.table s) k

module _ (img : List ℕ) (v : View) (shows : Shows img v) (legal : Legal v.sizes) where
  live-words : (i k : ℕ) → k < 3 → word img (record_word v.sizes (position v.sizes v.tail i) + 1 + k) ≡ word_of_slot (live_record (word img) v.sizes v.tail i).now k
  unfolding live_record
  live-words i k l = sym (slot-words (word img) (record_word v.sizes (position v.sizes v.tail i) + 1) k l)

  module _ (s : ℕ) (low : s < v.sizes.slots) where
    pub last-record : (last_in v.table s ≡ no_position → ⊥) → LastRecord (word img) v s
    last-record f =
        let z : Sizes = v.sizes in
        let e : ℕ → Record = live_record (word img) z v.tail in
        let t : Table = table_from (word img) z in
        let x = some-recorded z v.tail e t (sixteen-from (word img) z) s (live v) legal (from_last (word img) z s) (λ q. f (ap (λ (u : Table). last_in u s) (table-shown img v shows) ∙ q)) in
        let h = replay-latest z v.tail e t (sixteen-from (word img) z) s (live v) x.0 (omega arith) x.1 in
        let at : position z v.tail x.0 ≡ last_in v.table s = sym (ap (λ (u : Table). last_in u s) (table-shown img v shows) ∙ h.last) in
        let now : (e x.0).now ≡ slot_in v.table s = sym (ap (λ (u : Table). slot_in u s) (table-shown img v shows) ∙ h.slot) in
        record {
          number = x.0;
          is_live = x.1.live;
          at = at;
          slot = x.1.slot;
          now = now;
          words = λ k l. ap (λ (q : ℕ). word img (record_word z q + 1 + k)) (sym at) ∙ live-words x.0 k l ∙ ap (λ (u : Slot). word_of_slot u k) now;
        }

    pub no_record : last_in v.table s ≡ no_position → NoRecord (live v) (live_record (word img) v.sizes v.tail) s
    no_record q =
        none-recorded v.sizes v.tail (live_record (word img) v.sizes v.tail) (table_from (word img) v.sizes) (sixteen-from (word img) v.sizes) s (live v) legal
        (from_last (word img) v.sizes s) (omega arith) (sym (ap (λ (u : Table). last_in u s) (table-shown img v shows)) ∙ q)

    pub table-slot : last_in v.table s ≡ no_position → slot_in v.table s ≡ slot_from (word img) (slot_word v.sizes s)
    table-slot q =
        ap (λ (u : Table). slot_in u s) (table-shown img v shows)
        ∙ (replay-kept v.sizes v.tail (live_record (word img) v.sizes v.tail) (table_from (word img) v.sizes) (sixteen-from (word img) v.sizes) s (live v) (no_record q)).slot
        ∙ from-slot (word img) v.sizes s low (omega arith)

  -- a last position is a live one
  pub last-live : Positions v.sizes v.head v.tail → (s : ℕ) → s < v.sizes.slots → (last_in v.table s ≡ no_position → ⊥)
      → (last_in v.table s < 2 * v.sizes.places) × (live_count v.sizes (last_in v.table s) v.tail < live v)
  last-live p s l f =
      let a = last-record s l f in (
        subst (λ (q : ℕ). q < 2 * v.sizes.places) a.at (pos-lt v.sizes legal v.tail a.number),
        subst (λ (q : ℕ). live_count v.sizes q v.tail < live v) a.at
            (subst (λ (n : ℕ). n < live v) (sym (live_of v.sizes legal v.tail a.number p.tail-low (omega arith))) a.is_live),
      )

  -- two slots with one last position are one
  pub lasts-apart : Positions v.sizes v.head v.tail → (s t : ℕ) → s < v.sizes.slots → t < v.sizes.slots → (last_in v.table s ≡ no_position → ⊥)
      → last_in v.table s ≡ last_in v.table t → s ≡ t
  lasts-apart p s t l m f e =
      let a = last-record s l f in
      let b = last-record t m (λ q. f (e ∙ q)) in
      let w : a.number ≡ b.number =
      pos-apart v.sizes legal v.tail a.number b.number p.tail-low (omega arith) (omega arith) (a.at ∙ e ∙ sym b.at) in
      sym a.slot ∙ ap (λ (i : ℕ). (live_record (word img) v.sizes v.tail i).slot) w ∙ b.slot
