-- What mount makes of the words, as one value, and the words that it reads for it: images that agree on those words
-- show the same view.
use Prim.Native.Nat.{ℕ, ◌+◌, ◌≤◌, ◌<◌, min}
use mathlib.Core.Path.{◌≡◌, refl, sym, ap, ◌∙◌}
use mathlib.Core.Bool.{false, cond}
use mathlib.Core.List.{List}
use native.Mathlib.Omega.{arith}
use native.Mathlib.Nat.{le_antisymm}
use lib.Dec.{ltb, eqb}
use borrow.Author.Tests.{ltb-true, ltb-false, eqb-true}
use Rattle.bounded.specs.Tab.{tab}
use Rattle.bounded.proofs.Tests.{case_on}
use Rattle.bounded.proofs.Below.{first-le}
use Rattle.bounded.proofs.Tab.{tab-ext, filled-ext}
use Rattle.layout.specs.declared.Sizes.{Sizes}
use Rattle.words.specs.Words.{word}
use Rattle.layout.specs.Layout.{layout_word, head_word, tail_word, count_word, entries_word, page_word, slot_word, record_word, entry_word}
use Rattle.entries.specs.Entries.{no_keys, keys_from}
use Rattle.journal.specs.declared.Record.{Record}
use Rattle.replay.specs.declared.Table.{Table}
use Rattle.journal.specs.Records.{position, live_count, live_record}
use Rattle.replay.specs.Table.{no_position, slot_in, last_in, table_from, replay, slot_of, home_of}
use Rattle.replay.specs.Map.{page_frames}
use Rattle.mount.specs.Mount.{wide_word, sizes_from, count_from}
use Rattle.journal.proofs.SlotWords.{slot-ext, record-ext}
use Rattle.replay.proofs.Tables.{sixteen-from, from-slot, from_past, from_last}
use Rattle.replay.proofs.Latest.{NoRecord, replay-ext, replay-base, replay-kept}

-- the header, the live records in order, the slots after replay, each page's home, and the entries that are counted, by their keys
pub record View : Type 0 where
  pub sizes : Sizes
  pub layout : ℕ
  pub head : ℕ
  pub tail : ℕ
  pub records : List Record
  pub table : Table
  pub homes : List ℕ
  pub count : ℕ
  pub keys : List ℕ

abbrev pub live : View → ℕ
live v = live_count v.sizes v.head v.tail

-- of the words r under a header
abbrev pub table_with : (ℕ → ℕ) → Sizes → ℕ → ℕ → Table
table_with r z head tail = replay z tail (live_count z head tail) (live_record r z tail) (table_from r z)

abbrev pub view_with : (ℕ → ℕ) → Sizes → ℕ → ℕ → ℕ → ℕ → View
view_with r z layout head tail count =
    record { sizes = z; layout = layout; head = head; tail = tail; records = tab (live_count z head tail) (live_record r z tail); table = table_with r z head tail; homes = tab z.pages (home_of (page_frames r) z (table_with r z head tail)); count = count; keys = keys_from r z count }

-- of the words r
abbrev pub view_of : (ℕ → ℕ) → View
view_of r = view_with r (sizes_from r) (r layout_word) (r head_word) (r tail_word) (count_from r)

-- a mount of the image finds view v
abbrev pub Shows : List ℕ → View → Type 0
Shows img v = view_of (word img) ≡ v

-- the view shown is that of the words under its own header
pub shown : (img : List ℕ) (v : View) → Shows img v → v ≡ view_with (word img) v.sizes v.layout v.head v.tail v.count
shown img v shows = sym shows ∙ ap (λ (u : View). view_with (word img) u.sizes u.layout u.head u.tail u.count) shows

pub table-shown : (img : List ℕ) (v : View) → Shows img v → v.table ≡ table_with (word img) v.sizes v.head v.tail
table-shown img v shows = ap (λ (u : View). u.table) (shown img v shows)

-- word a is one that mount reads of a view: the header, its last two words under layout 2 alone, the live records, the slots without a live record,
-- the page-table words of pages without a slot, and the keys of the entries that are counted
pub data Read (v : View) (a : ℕ) : Type 0 where
  header : a < 6 → Read v a
  wide : v.layout ≡ 2 → a < 8 → Read v a
  journal : (i k : ℕ) → i < live v → k < 4 → a ≡ record_word v.sizes (position v.sizes v.tail i) + k → Read v a
  slot : (s k : ℕ) → s < v.sizes.slots → last_in v.table s ≡ no_position → k < 3 → a ≡ slot_word v.sizes s + k → Read v a
  page : (p : ℕ) → p < v.sizes.pages → slot_of v.sizes v.table p ≡ v.sizes.slots → a ≡ page_word p → Read v a
  entry : (e : ℕ) → e < v.count → e < v.sizes.entries → a ≡ entry_word v.sizes e → Read v a

-- words that agree on all of these
abbrev pub Agree : View → (ℕ → ℕ) → (ℕ → ℕ) → Type 0
Agree v r r' = (a : ℕ) → Read v a → r a ≡ r' a

-- a page has a slot, or its slot is none
pub slot-none : (z : Sizes) (t : Table) (p : ℕ) → ltb (slot_of z t p) z.slots ≡ false → slot_of z t p ≡ z.slots
slot-none z t p e =
    le_antisymm (first-le (λ s. eqb (slot_in t s).page p) z.slots) (ltb-false (slot_of z t p) z.slots e)

-- a home by the page's word alone
pub home-ext : (r r' : ℕ → ℕ) (z : Sizes) (t : Table) (p : ℕ) → (slot_of z t p ≡ z.slots → r (page_word p) ≡ r' (page_word p)) → home_of (page_frames r) z t p ≡ home_of (page_frames r') z t p
home-ext r r' z t p h =
    case_on (ltb (slot_of z t p) z.slots)
    (λ e. rw e)
    (λ e. rw e (h (slot-none z t p e)))

-- under one header: the words past the header that mount reads
module _ (r r' : ℕ → ℕ) (z : Sizes) (layout head tail count : ℕ) (g : (a : ℕ) → 8 ≤ a → Read (view_with r z layout head tail count) a → r a ≡ r' a) where
  record_same : (i : ℕ) → i < live_count z head tail → live_record r z tail i ≡ live_record r' z tail i
  unfolding live_record
  record_same i l =
      let a : ℕ = record_word z (position z tail i) in
      record-ext r r' a a (λ k m. g (a + k) (omega arith) (journal i k l m refl))

  unrecorded-same : (s : ℕ) → s < 16 → NoRecord (live_count z head tail) (live_record r z tail) s → slot_in (table_from r z) s ≡ slot_in (table_from r' z) s
  unrecorded-same s m f =
      case_on (ltb s z.slots)
      (λ t.
      let l : s < z.slots = ltb-true s z.slots t in
      let q : last_in (table_with r z head tail) s ≡ no_position =
      (replay-kept z tail (live_record r z tail) (table_from r z) (sixteen-from r z) s (live_count z head tail) f).last ∙ from_last r z s in
      from-slot r z s l m
      ∙ slot-ext r r' (slot_word z s) (slot_word z s) (λ k n. g (slot_word z s + k) (omega arith) (slot s k l q n refl))
      ∙ sym (from-slot r' z s l m))
      (λ t.
      let l : z.slots ≤ s = ltb-false s z.slots t in
      from_past r z s l ∙ sym (from_past r' z s l))

  table_same : table_with r z head tail ≡ table_with r' z head tail
  table_same =
      let n : ℕ = live_count z head tail in
      replay-base z tail n (live_record r z tail) (table_from r z) (table_from r' z) (sixteen-from r z) (sixteen-from r' z) unrecorded-same
      (λ s m. from_last r z s ∙ sym (from_last r' z s))
      ∙ replay-ext z tail n (live_record r z tail) (live_record r' z tail) (table_from r' z) record_same

  keys-same : keys_from r z count ≡ keys_from r' z count
  unfolding keys_from
  keys-same =
      filled-ext (min count z.entries) (λ e. r (entry_word z e)) (λ e. r' (entry_word z e)) no_keys
      (λ e l. g (entry_word z e) (omega arith) (entry e (omega arith) (omega arith) refl))

  pub body-view : view_with r z layout head tail count ≡ view_with r' z layout head tail count
  body-view =
      let e₁ = tab-ext (live_count z head tail) (live_record r z tail) (live_record r' z tail) record_same in
      let e₂ = table_same in
      let e₄ = keys-same in
      let e₃ : tab z.pages (home_of (page_frames r) z (table_with r z head tail)) ≡ tab z.pages (home_of (page_frames r') z (table_with r' z head tail)) =
      tab-ext z.pages (home_of (page_frames r) z (table_with r z head tail)) (home_of (page_frames r') z (table_with r z head tail))
      (λ p l. home-ext r r' z (table_with r z head tail) p (λ q. g (page_word p) (omega arith) (page p l q refl)))
      ∙ ap (λ (t : Table). tab z.pages (home_of (page_frames r') z t)) e₂ in
      λ i. record { sizes = z; layout = layout; head = head; tail = tail; records = e₁ i; table = e₂ i; homes = e₃ i; count = count; keys = e₄ i }

-- under equal headers
pub header-view : (r : ℕ → ℕ) (z z' : Sizes) (l l' h h' t t' n n' : ℕ) → z ≡ z' → l ≡ l' → h ≡ h' → t ≡ t' → n ≡ n'
    → view_with r z l h t n ≡ view_with r z' l' h' t' n'
header-view r z z' l l' h h' t t' n n' p q s u w = λ i. view_with r (p i) (q i) (s i) (u i) (w i)

-- a word that is read under layout 2 alone
pub wide-same : (r r' : ℕ → ℕ) (a : ℕ) → r layout_word ≡ r' layout_word → (r layout_word ≡ 2 → r a ≡ r' a) → wide_word r a ≡ wide_word r' a
wide-same r r' a e h =
    ap (λ (k : ℕ). cond (eqb k 2) (r a) 0) e
    ∙ case_on (eqb (r' layout_word) 2)
    (λ t. rw t (h (e ∙ eqb-true (r' layout_word) 2 t)))
    (λ t. rw t)

pub same_view : (r r' : ℕ → ℕ) → Agree (view_of r) r r' → view_of r ≡ view_of r'
same_view r r' g =
    let e₀ : r 0 ≡ r' 0 = g 0 (header (omega arith)) in
    let e₁ : r 1 ≡ r' 1 = g 1 (header (omega arith)) in
    let e₂ : r 2 ≡ r' 2 = g 2 (header (omega arith)) in
    let e₃ : r layout_word ≡ r' layout_word = g layout_word (header (omega arith)) in
    let e₇ : wide_word r entries_word ≡ wide_word r' entries_word = wide-same r r' entries_word e₃ (λ q. g entries_word (wide q (omega arith))) in
    body-view r r' (sizes_from r) (r layout_word) (r head_word) (r tail_word) (count_from r) (λ a l q. g a q)
    ∙ header-view r' (sizes_from r) (sizes_from r') (r layout_word) (r' layout_word) (r head_word) (r' head_word) (r tail_word) (r' tail_word) (count_from r) (count_from r')
    (λ i. record { pages = e₀ i; slots = e₁ i; places = e₂ i; entries = e₇ i })
    e₃ (g head_word (header (omega arith))) (g tail_word (header (omega arith)))
    (wide-same r r' count_word e₃ (λ q. g count_word (wide q (omega arith))))
