-- One law of a read and one of a store, over the part: putting a word of part k changes part k at that place, and no other part.
-- The laws of the named fields are its instances.
use Prim.Native.Nat.{ℕ, zero, suc, ◌+◌, ◌-◌, ◌*◌, ◌<◌, ◌≤◌}
use mathlib.Core.Bool.{Bool, true, false, not, cond, ◌||◌}
use mathlib.Core.List.{List, [], ◌∷◌}
use mathlib.Core.Path.{◌≡◌, refl, sym, ap, ◌∙◌}
use native.Mathlib.Nat.{not-suc-le-zero, le_of_suc-le-suc}
use native.Mathlib.Omega.{arith}
use borrow.Author.Tests.{leb-true, eqb-true}
use lib.Dec.{leb, eqb}
use lib.ListN.{length, get_or, set, take, drop, length-drop, length-set}
use lib.Seq.{take-set-le, drop-set-lt, drop-set-add, get_or-drop, get_or-set_same, length-take-le}
use Rattle.bounded.specs.Below.{all_below, one}
use Rattle.bounded.proofs.Below.{all-at}
use Rattle.bounded.proofs.Tests.{case_on}
use Rattle.journal.specs.declared.Slot.{Slot}
use Rattle.replay.specs.Table.{slot_in, with_slot, with_last}
use Rattle.state.specs.State.{State}
use Rattle.state.specs.Held.{is_open, held_at}
use Rattle.state_words.specs.Decoded.{start, size, part, flags, from_parts, decoded, places_of, with_table, with_writers, with_head, with_tail, with_next, with_wide, with_nothing, with_map, with_bitmap, with_opened, with_held, with_prepared}

pub get_d_take : (n : ℕ) (l : List ℕ) (i : ℕ) → i < n → get_or (take n l) i 0 ≡ get_or l i 0
get_d_take zero l i h = absurd (not-suc-le-zero h)
get_d_take (suc n) [] i h = refl
get_d_take (suc n) (x ∷ l) zero h = refl
get_d_take (suc n) (x ∷ l) (suc i) h = get_d_take n l i (le_of_suc-le-suc h)

take-set-lt : (n : ℕ) (l : List ℕ) (i v : ℕ) → i < n → take n (set l i v) ≡ set (take n l) i v
take-set-lt zero l i v h = absurd (not-suc-le-zero h)
take-set-lt (suc n) [] i v h = refl
take-set-lt (suc n) (x ∷ l) zero v h = refl
take-set-lt (suc n) (x ∷ l) (suc i) v h = ap (λ (r : List ℕ). x ∷ r) (take-set-lt n l i v (le_of_suc-le-suc h))

-- what is read of part k
pub part_at : (c : List ℕ) (k s : ℕ) → s < size k → get_or (part c k) s 0 ≡ get_or c (start k + s) 0
unfolding part
part_at c k s l = get_d_take (size k) (drop (start k) c) s l ∙ get_or-drop (start k) c s 0

-- a store below the places a .. a + n - 1, above them, and among them
below : (a n : ℕ) (c : List ℕ) (i v : ℕ) → i < a → take n (drop a (set c i v)) ≡ take n (drop a c)
below a n c i v l = ap (take n) (drop-set-lt a c i v l)

above : (a n : ℕ) (c : List ℕ) (i v : ℕ) → a + n ≤ i → take n (drop a (set c i v)) ≡ take n (drop a c)
above a n c i v l =
    let e : i ≡ a + (i - a) = omega (arith, l) in
    ap (λ (k : ℕ). take n (drop a (set c k v))) e ∙ ap (take n) (drop-set-add a c (i - a) v) ∙ take-set-le n (drop a c) (i - a) v (omega (arith, l))

here : (a n : ℕ) (c : List ℕ) (s v : ℕ) → s < n → take n (drop a (set c (a + s) v)) ≡ set (take n (drop a c)) s v
here a n c s v l = ap (take n) (drop-set-add a c s v) ∙ take-set-lt n (drop a c) s v l

-- two parts are one, or one ends before the other starts: tested over all pairs
unfoldable apart : ℕ → ℕ → Bool
apart j k = eqb j k || (leb (start j + size j) (start k) || leb (start k + size k) (start j))

last_of : (j k : ℕ) → eqb j k ≡ false → leb (start j + size j) (start k) ≡ false → apart j k ≡ true → leb (start k + size k) (start j) ≡ true
unfolding apart
last_of j k e n t = rw (e, n) at t

all_apart : all_below 19 (λ j. all_below 19 (apart j)) ≡ true
unfolding all_below apart start size
all_apart = refl

-- part j after a store to place s of part k
pub part-put : (c : List ℕ) (k s v : ℕ) → k < 19 → s < size k → (j : ℕ) → j < 19 → part (set c (start k + s) v) j ≡ cond (eqb j k) (set (part c k) s v) (part c j)
unfolding part
part-put c k s v hk hs j hj =
    let t : apart j k ≡ true = all-at (apart j) 19 k hk (all-at (λ i. all_below 19 (apart i)) 19 j hj all_apart) in
    case_on (eqb j k)
    (λ e. let q : j ≡ k = eqb-true j k e in rw e (ap (λ (i : ℕ). take (size i) (drop (start i) (set c (start k + s) v))) q ∙ here (start k) (size k) c s v hs))
    (λ e.
    case_on (leb (start j + size j) (start k))
    (λ l. let h = leb-true (start j + size j) (start k) l in rw e (above (start j) (size j) c (start k + s) v (omega (arith, h))))
    (λ n. let h = leb-true (start k + size k) (start j) (last_of j k e n t) in rw e (below (start j) (size j) c (start k + s) v (omega (arith, h, hs)))))

pub from-ext : (p q : ℕ → List ℕ) → ((j : ℕ) → j < 19 → p j ≡ q j) → from_parts p ≡ from_parts q
from-ext p q h =
    rw (
      h 0 (omega arith),
      h 1 (omega arith),
      h 2 (omega arith),
      h 3 (omega arith),
      h 4 (omega arith),
      h 5 (omega arith),
      h 6 (omega arith),
      h 7 (omega arith),
      h 8 (omega arith),
      h 9 (omega arith),
      h 10 (omega arith),
      h 11 (omega arith),
      h 12 (omega arith),
      h 13 (omega arith),
      h 14 (omega arith),
      h 15 (omega arith),
      h 16 (omega arith),
      h 17 (omega arith),
      h 18 (omega arith),
    )

-- THE LAW: the state after a store to place s of part k
pub put-part : (c : List ℕ) (k s v : ℕ) → k < 19 → s < size k → decoded (set c (start k + s) v) ≡ from_parts (λ j. cond (eqb j k) (set (part c k) s v) (part c j))
unfolding decoded
put-part c k s v hk hs = from-ext (part (set c (start k + s) v)) (λ j. cond (eqb j k) (set (part c k) s v) (part c j)) (part-put c k s v hk hs)

-- ---- its instances

flags-at : (l : List ℕ) (w : ℕ) → get_or (flags l) w false ≡ not (eqb (get_or l w 0) 0)
unfolding flags
flags-at [] w = refl
flags-at (x ∷ l) zero = refl
flags-at (x ∷ l) (suc w) = flags-at l w

flags-set : (l : List ℕ) (w v : ℕ) → flags (set l w v) ≡ set (flags l) w (not (eqb v 0))
unfolding flags
flags-set [] w v = refl
flags-set (x ∷ l) zero v = refl
flags-set (x ∷ l) (suc w) v = ap (λ (r : List Bool). not (eqb x 0) ∷ r) (flags-set l w v)

flag_one : (b : Bool) → not (eqb (one b) 0) ≡ b
unfolding one
flag_one true = refl
flag_one false = refl

-- a part of one word holds what was put
single : (c : List ℕ) (k v : ℕ) → length c ≡ 1280 → start k < 1280 → size k ≡ 1 → get_or (set (part c k) 0 v) 0 0 ≡ v
unfolding part
single c k v n l e =
    let long : size k ≤ length (drop (start k) c) = omega (arith, length-drop (start k) c) in
    get_or-set_same (take (size k) (drop (start k) c)) 0 v 0 (omega (arith, length-take-le (size k) (drop (start k) c) long))

module _ (c : List ℕ) where
  abbrev st : State
  st = decoded c

  pub sizes-read : record { pages = get_or c 0 0; slots = get_or c 1 0; places = get_or c 2 0; entries = get_or c 3 0 } ≡ st.sizes
  unfolding decoded start size
  sizes-read = rw (part_at c 0 0 (omega arith), part_at c 0 1 (omega arith), part_at c 0 2 (omega arith), part_at c 0 3 (omega arith))

  pub places-read : record { head = get_or c 4 0; tail = get_or c 5 0; next = get_or c 6 0; prepared = get_or c 7 0; wide = get_or c 8 0; count = get_or c 9 0 } ≡ places_of st
  unfolding decoded start size
  places-read = rw (part_at c 1 0 (omega arith), part_at c 2 0 (omega arith), part_at c 3 0 (omega arith), part_at c 4 0 (omega arith), part_at c 5 0 (omega arith), part_at c 6 0 (omega arith))

  module _ (s : ℕ) (l : s < 16) where
    pub page-read : get_or c (40 + s) 0 ≡ get_or st.table.page s 0
    unfolding decoded start size
    page-read = sym (part_at c 11 s l)

    pub bitmap-read : get_or c (88 + s) 0 ≡ get_or st.table.bitmap s 0
    unfolding decoded start size
    bitmap-read = sym (part_at c 14 s l)

    pub last-read : get_or c (104 + s) 0 ≡ get_or st.table.last s 0
    unfolding decoded start size
    last-read = sym (part_at c 15 s l)

    pub slot_read : record { page = get_or c (40 + s) 0; original = get_or c (56 + s) 0; spare = get_or c (72 + s) 0; bitmap = get_or c (88 + s) 0 } ≡ slot_in st.table s
    unfolding decoded start size
    slot_read = rw (part_at c 11 s l, part_at c 12 s l, part_at c 13 s l, part_at c 14 s l)

    pub page-put : (v : ℕ) → decoded (set c (40 + s) v) ≡ with_table st (record { page = set st.table.page s v; original = st.table.original; spare = st.table.spare; bitmap = st.table.bitmap; last = st.table.last })
    unfolding decoded start size
    page-put v = put-part c 11 s v (omega arith) l

    pub original-put : (v : ℕ) → decoded (set c (56 + s) v) ≡ with_table st (record { page = st.table.page; original = set st.table.original s v; spare = st.table.spare; bitmap = st.table.bitmap; last = st.table.last })
    unfolding decoded start size
    original-put v = put-part c 12 s v (omega arith) l

    pub spare-put : (v : ℕ) → decoded (set c (72 + s) v) ≡ with_table st (record { page = st.table.page; original = st.table.original; spare = set st.table.spare s v; bitmap = st.table.bitmap; last = st.table.last })
    unfolding decoded start size
    spare-put v = put-part c 13 s v (omega arith) l

    pub bitmap-put : (v : ℕ) → decoded (set c (88 + s) v) ≡ with_table st (with_bitmap st.table s v)
    unfolding decoded start size
    bitmap-put v = put-part c 14 s v (omega arith) l

    pub last-put : (v : ℕ) → decoded (set c (104 + s) v) ≡ with_table st (with_last st.table s v)
    unfolding decoded start size
    last-put v = put-part c 15 s v (omega arith) l

  pub open-read : (w : ℕ) → w < 4 → not (eqb (get_or c (10 + w) 0) 0) ≡ is_open st.writers.opened w
  unfolding decoded start size
  open-read w l = rw (sym (part_at c 7 w l)) (sym (flags-at (part c 7) w))

  pub open-put : (w : ℕ) (b : Bool) → w < 4 → decoded (set c (10 + w) (one b)) ≡ with_writers st (with_opened st.writers (set st.writers.opened w b))
  unfolding decoded start size
  open-put w b l = put-part c 7 w (one b) (omega arith) l ∙ rw (flags-set (part c 7) w (one b), flag_one b)

  module _ (w s i : ℕ) (e : i ≡ 120 + (16 * w + s)) (lw : w < 4) (ls : s < 16) where
    pub held-read : get_or c i 0 ≡ held_at st.writers.held w s
    unfolding decoded start size
    held-read = rw e (sym (part_at c 16 (16 * w + s) (omega (arith, lw, ls))))

    pub held-put : (v : ℕ) → decoded (set c i v) ≡ with_writers st (with_held st.writers (set st.writers.held (16 * w + s) v))
    unfolding decoded start size
    held-put v = rw e (put-part c 16 (16 * w + s) v (omega arith) (omega (arith, lw, ls)))

  pub key-read : (e : ℕ) → e < 64 → get_or c (184 + e) 0 ≡ get_or st.wide.keys e 0
  unfolding decoded start size
  key-read e l = sym (part_at c 17 e l)

  pub key-put : (e v : ℕ) → e < 64 → decoded (set c (184 + e) v) ≡ with_wide st (record { writer = st.wide.writer; count = st.wide.count; keys = set st.wide.keys e v })
  unfolding decoded start size
  key-put e v l = put-part c 17 e v (omega arith) l

  pub entry_read : (p : ℕ) → p < 1024 → get_or c (256 + p) 0 ≡ get_or st.map p 0
  unfolding decoded start size
  entry_read p l = sym (part_at c 18 p l)

  pub entry-put : (p v : ℕ) → p < 1024 → decoded (set c (256 + p) v) ≡ with_map st (set st.map p v)
  unfolding decoded start size
  entry-put p v l = put-part c 18 p v (omega arith) l

  module _ (n : length c ≡ 1280) where
    pub head-put : (v : ℕ) → decoded (set c 4 v) ≡ with_head st v
    unfolding decoded start size
    head-put v = put-part c 1 0 v (omega arith) (omega arith) ∙ rw (single c 1 v n (omega arith) refl)

    pub tail-put : (v : ℕ) → decoded (set c 5 v) ≡ with_tail st v
    unfolding decoded start size
    tail-put v = put-part c 2 0 v (omega arith) (omega arith) ∙ rw (single c 2 v n (omega arith) refl)

    pub next-put : (v : ℕ) → decoded (set c 6 v) ≡ with_next st v
    unfolding decoded start size
    next-put v = put-part c 3 0 v (omega arith) (omega arith) ∙ rw (single c 3 v n (omega arith) refl)

    pub writer-put : (v : ℕ) → decoded (set c 8 v) ≡ with_wide st (record { writer = v; count = st.wide.count; keys = st.wide.keys })
    unfolding decoded start size
    writer-put v = put-part c 5 0 v (omega arith) (omega arith) ∙ rw (single c 5 v n (omega arith) refl)

    pub count-put : (v : ℕ) → decoded (set c 9 v) ≡ with_wide st (record { writer = st.wide.writer; count = v; keys = st.wide.keys })
    unfolding decoded start size
    count-put v = put-part c 6 0 v (omega arith) (omega arith) ∙ rw (single c 6 v n (omega arith) refl)

    pub prepared-put : (v : ℕ) → decoded (set c 7 v) ≡ with_writers st (with_prepared st.writers v)
    unfolding decoded start size
    prepared-put v = put-part c 4 0 v (omega arith) (omega arith) ∙ rw (single c 4 v n (omega arith) refl)

    pub nothing_put : decoded (set c 14 0) ≡ with_nothing st
    unfolding decoded start size part
    nothing_put =
        let long : 8 ≤ length (drop 14 c) = omega (arith, length-drop 14 c) in
        put-part c 8 0 0 (omega arith) (omega arith) ∙ rw (get_or-set_same (take 8 (drop 14 c)) 0 0 0 (omega (arith, length-take-le 8 (drop 14 c) long)))

-- a slot's four words
pub slot-put : (c : List ℕ) (s : ℕ) (v : Slot) → s < 16
    → decoded (set (set (set (set c (40 + s) v.page) (56 + s) v.original) (72 + s) v.spare) (88 + s) v.bitmap) ≡ with_table (decoded c) (with_slot (decoded c).table s v)
slot-put c s v l =
    let c1 = set c (40 + s) v.page in
    let c2 = set c1 (56 + s) v.original in
    let c3 = set c2 (72 + s) v.spare in
    rw (bitmap-put c3 s l v.bitmap, spare-put c2 s l v.spare, original-put c1 s l v.original, page-put c s l v.page)

-- the wide writer and its count
pub wide-put : (c : List ℕ) (n : length c ≡ 1280) (w k : ℕ) → decoded (set (set c 8 w) 9 k) ≡ with_wide (decoded c) (record { writer = w; count = k; keys = (decoded c).wide.keys })
wide-put c n w k = count-put (set c 8 w) (length-set c 8 w ∙ n) k ∙ rw (writer-put c n w)
