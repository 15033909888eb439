-- Records appended: once the new records' words have landed behind the live ones, the store to head adds them to what
-- mount finds, all at once.
use Prim.Native.Nat.{ℕ, ◌+◌, ◌*◌, ◌≤◌, ◌<◌}
use mathlib.Core.Path.{◌≡◌, sym, ap, ◌∙◌}
use mathlib.Core.Bool.{true}
use mathlib.Core.List.{List, ◌++◌}
use native.Mathlib.Omega.{arith}
use lib.ListN.{length, get_or-append}
use lib.Seq.{get_or-append-add}
use Rattle.bounded.specs.Tab.{tab}
use Rattle.bounded.specs.Count.{Once}
use Rattle.bounded.proofs.Tab.{length-tab, get_or-tab, tab-ext, tab-append}
use Rattle.layout.specs.declared.Sizes.{Sizes}
use Rattle.layout.specs.Layout.{Legal, frames, head_word, record_word}
use Rattle.words.specs.Words.{word, store}
use Rattle.entries.specs.Entries.{keys_from}
use Rattle.journal.specs.declared.Record.{Record}
use Rattle.journal.specs.Records.{position, live_count, record_from, word_of_record, live_record, records_ok}
use Rattle.replay.specs.Table.{table_from, replay, slots_shaped, pages_apart, home_of}
use Rattle.replay.specs.Map.{page_frames}
use Rattle.journal.proofs.Ring.{Positions, pos-lt, pos-after, head_of, live_more, positions-more}
use Rattle.journal.proofs.SlotWords.{record-back, shaped-fits}
use Rattle.replay.proofs.Latest.{replay-ext, replay-more}
use Rattle.mount.proofs.View.{View, live, table_with, view_with, Shows, shown}
use Rattle.mount.proofs.Verdict.{record_in, names_in, records-ext, Taken}
use Rattle.mount.proofs.HeadTail.{store-head}
use Rattle.journal.proofs.RightRecords.{right-at, first-lt, records-more}

-- a view with n records more, which replace their slots; homes of pages that no longer have a slot are read through r
abbrev pub appended : (ℕ → ℕ) → View → ℕ → (ℕ → Record) → View
appended r v n new =
    record {
      sizes = v.sizes;
      layout = v.layout;
      head = position v.sizes v.head n;
      tail = v.tail;
      records = v.records ++ tab n new;
      table = replay v.sizes v.head n new v.table;
      homes = tab v.sizes.pages (home_of (page_frames r) v.sizes (replay v.sizes v.head n new v.table));
      count = v.count;
      keys = v.keys;
    }

-- the new records' words are at the n positions from head on
abbrev pub Landed : (ℕ → ℕ) → Sizes → ℕ → ℕ → (ℕ → Record) → Type 0
Landed r z head n new = (j k : ℕ) → j < n → k < 4 → r (record_word z (position z head j) + k) ≡ word_of_record (new j) k

-- there is room for n right records behind the live ones
pub record Appendable (v : View) (n : ℕ) (new : ℕ → Record) : Type 0 where
  pub legal : Legal v.sizes
  pub positions : Positions v.sizes v.head v.tail
  pub room : live v + n ≤ v.sizes.places
  pub right : records_ok v.sizes v.head n new ≡ true

-- the same words under the head n further on
module _ (r : ℕ → ℕ) (z : Sizes) (layout head tail count n : ℕ) (new : ℕ → Record) (ok : Appendable (view_with r z layout head tail count) n new) where
  new-record : Landed r z head n new → (j : ℕ) → j < n → live_record r z tail (live_count z head tail + j) ≡ new j
  unfolding live_record
  new-record landed j l =
      let f : (new j).first < 2 * z.places = first-lt z head new ok.legal n j l ok.right in
      let o = (shaped-fits z (new j).now ok.legal (right-at z head new n j l ok.right).shape).original in
      ap (λ (q : ℕ). record_from r (record_word z q)) (sym (pos-after z ok.legal head tail ok.positions j))
      ∙ record-back r (record_word z (position z head j)) (new j) (omega (arith, f, ok.legal.places-high)) o (λ k m. landed j k l m)

  append-with : Landed r z head n new → view_with r z layout (position z head n) tail count ≡ appended r (view_with r z layout head tail count) n new
  append-with landed =
      let m : ℕ = live_count z head tail in
      let e : ℕ → Record = live_record r z tail in
      let g : live_count z (position z head n) tail ≡ m + n = live_more z ok.legal head tail ok.positions n ok.room in
      let e₁ : tab (live_count z (position z head n) tail) e ≡ tab m e ++ tab n new =
      ap (λ (k : ℕ). tab k e) g ∙ tab-append m n e ∙ ap (λ (l : List Record). tab m e ++ l) (tab-ext n (λ j. e (m + j)) new (new-record landed)) in
      let e₂ : table_with r z (position z head n) tail ≡ replay z head n new (table_with r z head tail) =
      ap (λ (k : ℕ). replay z tail k e (table_from r z)) g
      ∙ replay-more z tail m n e (table_from r z)
      ∙ ap (λ (q : ℕ). replay z q n (λ j. e (m + j)) (table_with r z head tail)) (head_of z ok.legal head tail ok.positions.head-low ok.positions.tail-low)
      ∙ replay-ext z head n (λ j. e (m + j)) new (table_with r z head tail) (new-record landed) in
      λ i. record { sizes = z; layout = layout; head = position z head n; tail = tail; records = e₁ i; table = e₂ i; homes = tab z.pages (home_of (page_frames r) z (e₂ i)); count = count; keys = keys_from r z count }

module _ (img : List ℕ) (v : View) (shows : Shows img v) (n : ℕ) (new : ℕ → Record) (ok : Appendable v n new) where
  -- after the store to head
  pub append-view : 40 ≤ length img → Landed (word img) v.sizes v.head n new
      → Shows (store img head_word (position v.sizes v.head n)) (appended (word img) v n new)
  append-view fits landed =
      store-head img v shows (position v.sizes v.head n) (omega (arith, pos-lt v.sizes ok.legal v.head n, ok.legal.places-high)) fits
      ∙ append-with (word img) v.sizes v.layout v.head v.tail v.count n new (record { legal = ok.legal; positions = ok.positions; room = ok.room; right = ok.right }) landed
      ∙ ap (λ (u : View). appended (word img) u n new) (sym (shown img v shows))

  pub append-live : live (appended (word img) v n new) ≡ live v + n
  append-live = live_more v.sizes ok.legal v.head v.tail ok.positions n ok.room

  -- the records of the view are right, if they were
  pub append_right : records_ok v.sizes v.tail (live v) (record_in v) ≡ true
      → records_ok v.sizes v.tail (live (appended (word img) v n new)) (record_in (appended (word img) v n new)) ≡ true
  append_right old =
      let z : Sizes = v.sizes in
      let u : View = appended (word img) v n new in
      let m : ℕ = live v in
      let len : length v.records ≡ m =
      ap (λ (w : View). length w.records) (shown img v shows) ∙ length-tab m (live_record (word img) z v.tail) in
      let old-at : (i : ℕ) → i < m → record_in v i ≡ record_in u i =
      λ i l. sym (get_or-append v.records (tab n new) _ i (omega arith)) in
      let new-at : (j : ℕ) → j < n → new j ≡ record_in u (m + j) =
      λ j l. sym (ap (λ (k : ℕ). record_in u (k + j)) (sym len) ∙ get_or-append-add v.records (tab n new) j _ ∙ get_or-tab n new j _ l) in
      ap (λ (k : ℕ). records_ok z v.tail k (record_in u)) append-live
      ∙ records-more z v.tail m n (record_in u)
      (sym (records-ext z v.tail m (record_in v) (record_in u) old-at) ∙ old)
      (ap (λ (q : ℕ). records_ok z q n (λ j. record_in u (m + j))) (head_of z ok.legal v.head v.tail ok.positions.head-low ok.positions.tail-low)
      ∙ sym (records-ext z v.head n new (λ j. record_in u (m + j)) new-at)
      ∙ ok.right)

  -- mount takes the image with the new records, if the slots keep row 7
  pub append-taken : Taken (length img) v → slots_shaped v.sizes (appended (word img) v n new).table ≡ true
      → pages_apart v.sizes (appended (word img) v n new).table.page ≡ true → Once (frames v.sizes) (names_in (appended (word img) v n new))
      → Taken (length img) (appended (word img) v n new)
  append-taken h shapes apart names =
      record {
        legal = ok.legal;
        layout = h.layout;
        fits = h.fits;
        positions = positions-more v.sizes ok.legal v.head v.tail ok.positions n ok.room;
        records = append_right h.records;
        shapes = shapes;
        apart = apart;
        names = names;
        entries = h.entries;
      }
