-- Mount judges the view alone: images of one length that show the same view have the same mount, and what a taken
-- mount tells of the view.
use Prim.Native.Nat.{ℕ, ◌-◌, ◌≤◌, ◌<◌}
use mathlib.Core.Path.{◌≡◌, refl, sym, ap, ap₂, ◌∙◌, subst}
use mathlib.Core.Bool.{Bool, true, cond, not, ◌&&◌, ◌||◌}
use mathlib.Core.List.{List, [], ◌∷◌, ◌++◌}
use native.Mathlib.Omega.{arith}
use lib.Dec.{ltb, eqb}
use lib.ListN.{length, get_or, replicate}
use borrow.Author.Tests.{ltb-false, le-ltb, eqb-true, eq-eqb, not-false}
use Rattle.bounded.specs.Rows.{Row, refusal, Numbered}
use Rattle.bounded.specs.Tab.{tab}
use Rattle.bounded.specs.Count.{each_once, Once}
use Rattle.bounded.proofs.Tests.{case_on, and_left, and_right}
use Rattle.bounded.proofs.Below.{all-ext}
use Rattle.bounded.proofs.Rows.{row-none, none-apply}
use Rattle.bounded.proofs.Tab.{get_or-tab}
use Rattle.bounded.proofs.Pigeonhole.{once-true, true-once}
use Rattle.layout.specs.declared.Sizes.{Sizes}
use Rattle.layout.specs.Layout.{Legal, sizes_ok, layout_of, frames, image_length, layout_word, head_word, tail_word}
use Rattle.entries.specs.Entries.{entries_ok}
use Rattle.words.specs.Words.{word}
use Rattle.layout.proofs.LayoutLaws.{legal, legal-ok}
use Rattle.journal.specs.declared.Record.{Record}
use Rattle.journal.specs.Slots.{shaped}
use Rattle.journal.specs.Records.{position, live_count, positions_ok, live_record, record_ok, records_ok}
use Rattle.replay.specs.Table.{slot_in, slots_shaped, pages_apart, home_of, frame_names}
use Rattle.replay.specs.Map.{page_frames, map_from}
use Rattle.mount.specs.Mount.{Mounted, sizes_from, live_from, count_from, turned_back, mount_read, mount_of}
use Rattle.journal.proofs.Ring.{Positions, positions, positions-ok}
use Rattle.replay.specs.declared.Table.{Table}
use Rattle.replay.proofs.Maps.{map_at}
use Rattle.mount.proofs.View.{View, live, view_with, view_of, Shows, shown, table-shown}

-- the i-th live record
abbrev no_record : Record
no_record = record { first = 0; slot = 0; now = record { page = 0; original = 0; spare = 0; bitmap = 0 } }

abbrev pub record_in : View → ℕ → Record
record_in v i = get_or v.records i no_record

-- the names of frames
abbrev pub names_in : View → List ℕ
names_in v = tab v.sizes.slots (λ s. (slot_in v.table s).spare) ++ v.homes

-- the map: the homes, and 0 past them
unfoldable pub map_in : View → List ℕ
map_in v = v.homes ++ replicate (1024 - v.sizes.pages) 0

-- ---- the same rows, of the view

abbrev view_rows : ℕ → View → List Row
view_rows n v =
    (ltb n 64, 1)
    ∷ (not (eqb v.layout 1 || eqb v.layout 2), 2)
    ∷ (not (sizes_ok v.sizes && eqb v.layout (layout_of v.sizes)), 3)
    ∷ (ltb n (image_length v.sizes), 4)
    ∷ (not (positions_ok v.sizes v.head v.tail), 5)
    ∷ (not (records_ok v.sizes v.tail (live v) (record_in v) && entries_ok v.sizes v.keys v.count), 6)
    ∷ (not (slots_shaped v.sizes v.table && (pages_apart v.sizes v.table.page && each_once (frames v.sizes) (names_in v))), 7)
    ∷ []

abbrev pub found_in : View → Mounted
found_in v = record { row = 0; sizes = v.sizes; head = v.head; tail = v.tail; table = v.table; map = map_in v; count = v.count; keys = v.keys }

unfoldable pub verdict : ℕ → View → Mounted
verdict n v = let row = refusal (view_rows n v) in cond (eqb row 0) (found_in v) (turned_back row)

-- whether records are right depends on the records alone
record-ok-ext : (z : Sizes) (tail : ℕ) (e f : ℕ → Record) (i : ℕ) → e i ≡ f i → e (i - 1) ≡ f (i - 1) → record_ok z tail e i ≡ record_ok z tail f i
record-ok-ext z tail e f i p q =
    ap₂
    (λ (x y : Record). ltb x.slot z.slots && (eqb x.first (position z tail i) || (not (eqb i 0) && eqb x.first y.first && ltb y.slot x.slot)) && shaped z x.now)
    p q

pub records-ext : (z : Sizes) (tail n : ℕ) (e f : ℕ → Record) → ((i : ℕ) → i < n → e i ≡ f i) → records_ok z tail n e ≡ records_ok z tail n f
unfolding records_ok
records-ext z tail n e f h =
    all-ext (record_ok z tail e) (record_ok z tail f) n (λ i l. record-ok-ext z tail e f i (h i l) (h (i - 1) (omega arith)))

record_of : (r : ℕ → ℕ) (z : Sizes) (layout head tail count i : ℕ) → i < live_count z head tail → record_in (view_with r z layout head tail count) i ≡ live_record r z tail i
record_of r z layout head tail count i l = get_or-tab (live_count z head tail) (live_record r z tail) i no_record l

pub record-at : (img : List ℕ) (v : View) → Shows img v → (i : ℕ) → i < live v → record_in v i ≡ live_record (word img) v.sizes v.tail i
record-at img v shows i l =
    ap (λ (u : View). record_in u i) (shown img v shows) ∙ record_of (word img) v.sizes v.layout v.head v.tail v.count i l

pub through-view : (n : ℕ) (r : ℕ → ℕ) → mount_read n r ≡ verdict n (view_of r)
unfolding mount_read verdict frame_names map_from map_in
through-view n r =
    let e : records_ok (sizes_from r) (r tail_word) (live_from r) (live_record r (sizes_from r) (r tail_word)) ≡ records_ok (sizes_from r) (r tail_word) (live_from r) (record_in (view_of r)) =
    records-ext (sizes_from r) (r tail_word) (live_from r) (live_record r (sizes_from r) (r tail_word)) (record_in (view_of r)) (λ i l. sym (record_of r (sizes_from r) (r layout_word) (r head_word) (r tail_word) (count_from r) i l)) in
    rw e

pub mount-view : (img : List ℕ) (v : View) → Shows img v → mount_of img ≡ verdict (length img) v
unfolding mount_of
mount-view img v shows = through-view (length img) (word img) ∙ ap (verdict (length img)) shows

pub equal-views : (img img' : List ℕ) (v : View) → length img ≡ length img' → Shows img v → Shows img' v → mount_of img ≡ mount_of img'
equal-views img img' v l a b = mount-view img v a ∙ ap (λ (n : ℕ). verdict n v) l ∙ sym (mount-view img' v b)

-- ---- a taken mount

-- no row applies
pub record Taken (n : ℕ) (v : View) : Type 0 where
  pub legal : Legal v.sizes
  pub layout : v.layout ≡ layout_of v.sizes
  pub fits : image_length v.sizes ≤ n
  pub positions : Positions v.sizes v.head v.tail
  pub records : records_ok v.sizes v.tail (live v) (record_in v) ≡ true
  pub shapes : slots_shaped v.sizes v.table ≡ true
  pub apart : pages_apart v.sizes v.table.page ≡ true
  pub names : Once (frames v.sizes) (names_in v)
  pub entries : entries_ok v.sizes v.keys v.count ≡ true

no_row : (n : ℕ) (v : View) → (verdict n v).row ≡ 0 → refusal (view_rows n v) ≡ 0
unfolding verdict
no_row n v e =
    case_on (eqb (refusal (view_rows n v)) 0)
    (λ t. eqb-true (refusal (view_rows n v)) 0 t)
    (λ t. rw t at e)

numbered : (n : ℕ) (v : View) → Numbered (view_rows n v)
numbered n v = omega arith

pub taken : (n : ℕ) (v : View) → (verdict n v).row ≡ 0 → Taken n v
taken n v e =
    let h = none-apply (view_rows n v) (numbered n v) (no_row n v e) in
    let z : Sizes = v.sizes in
    let names : Bool = each_once (frames z) (names_in v) in
    let row₇ : slots_shaped z v.table && (pages_apart z v.table.page && names) ≡ true = not-false _ h.1.1.1.1.1.1.0 in
    let row₃ : sizes_ok z && eqb v.layout (layout_of z) ≡ true = not-false _ h.1.1.0 in
    let row₆ : records_ok z v.tail (live v) (record_in v) && entries_ok z v.keys v.count ≡ true = not-false _ h.1.1.1.1.1.0 in
    let rest : pages_apart z v.table.page && names ≡ true = and_right (slots_shaped z v.table) (pages_apart z v.table.page && names) row₇ in
    record {
      legal = legal z (and_left (sizes_ok z) (eqb v.layout (layout_of z)) row₃);
      layout = eqb-true v.layout (layout_of z) (and_right (sizes_ok z) (eqb v.layout (layout_of z)) row₃);
      fits = ltb-false n (image_length z) h.1.1.1.0;
      positions = positions z v.head v.tail (not-false (positions_ok z v.head v.tail) h.1.1.1.1.0);
      records = and_left (records_ok z v.tail (live v) (record_in v)) (entries_ok z v.keys v.count) row₆;
      shapes = and_left (slots_shaped z v.table) (pages_apart z v.table.page && names) row₇;
      apart = and_left (pages_apart z v.table.page) names rest;
      names = once-true (frames z) (names_in v) (and_right (pages_apart z v.table.page) names rest);
      entries = and_right (records_ok z v.tail (live v) (record_in v)) (entries_ok z v.keys v.count) row₆;
    }

-- ranges that rows 1 and 4 ask for are one
image-long : (z : Sizes) → 64 ≤ image_length z
image-long z = omega arith

-- layouts are 1 and 2
layout-known : (z : Sizes) (n : ℕ) → n ≡ layout_of z → eqb n 1 || eqb n 2 ≡ true
layout-known z n e =
    case_on (eqb z.entries 0)
    (λ t. rw (e, t))
    (λ t. rw (e, t))

pub taken-found : (n : ℕ) (v : View) → Taken n v → verdict n v ≡ found_in v
unfolding verdict
taken-found n v h =
    let z : Sizes = v.sizes in
    let row₇ : slots_shaped z v.table && (pages_apart z v.table.page && each_once (frames z) (names_in v)) ≡ true =
    rw (h.shapes, h.apart) (true-once (frames z) (names_in v) h.names) in
    let row₃ : sizes_ok z && eqb v.layout (layout_of z) ≡ true = rw (legal-ok z h.legal) (eq-eqb v.layout (layout_of z) h.layout) in
    let row₆ : records_ok z v.tail (live v) (record_in v) && entries_ok z v.keys v.count ≡ true = rw h.records h.entries in
    let e : 0 ≡ refusal (view_rows n v) =
    row-none (view_rows n v) (
      le-ltb n 64 (omega (arith, image-long z, h.fits)),
      (
        ap not (layout-known z v.layout h.layout),
        (
          ap not row₃,
          (
            le-ltb n (image_length z) h.fits,
            (
              ap not (positions-ok z v.head v.tail h.positions),
              (
                ap not row₆,
                (ap not row₇, tt),
              ),
            ),
          ),
        ),
      ),
    ) in
    rw (← e)

-- of an image
pub mount-taken : (img : List ℕ) (v : View) → Shows img v → (mount_of img).row ≡ 0 → Taken (length img) v
mount-taken img v shows e = taken (length img) v (sym (ap (λ (m : Mounted). m.row) (mount-view img v shows)) ∙ e)

pub taken-mount : (img : List ℕ) (v : View) → Shows img v → Taken (length img) v → mount_of img ≡ found_in v
taken-mount img v shows h = mount-view img v shows ∙ taken-found (length img) v h

-- ---- the map

-- that of the homes, by the page table, so that its entries are the homes
pub map-shown : (img : List ℕ) (v : View) → Shows img v → map_in v ≡ map_from v.sizes.pages (home_of (page_frames (word img)) v.sizes v.table)
unfolding map_in map_from
map-shown img v shows = ap map_in (shown img v shows) ∙ ap (λ (t : Table). map_from v.sizes.pages (home_of (page_frames (word img)) v.sizes t)) (sym (table-shown img v shows))

pub entry-shown : (img : List ℕ) (v : View) → Shows img v → (p : ℕ) → p < v.sizes.pages
    → get_or (map_in v) p 0 ≡ home_of (page_frames (word img)) v.sizes v.table p
entry-shown img v shows p l =
    ap (λ (m : List ℕ). get_or m p 0) (map-shown img v shows) ∙ map_at v.sizes.pages (home_of (page_frames (word img)) v.sizes v.table) p l

-- of an image that is taken, as it is put where the state is
pub map-put : (img : List ℕ) → (mount_of img).row ≡ 0
    → (mount_of img).map ≡ map_from (mount_of img).sizes.pages (home_of (page_frames (word img)) (mount_of img).sizes (mount_of img).table)
map-put img e =
    let v = view_of (word img) in
    subst (λ (m : Mounted). m.map ≡ map_from m.sizes.pages (home_of (page_frames (word img)) m.sizes m.table))
    (sym (taken-mount img v refl (mount-taken img v refl e))) (map-shown img v refl)
