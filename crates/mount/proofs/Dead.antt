-- Words that a mount of a view does not read: a store to one changes neither the view nor the mount. The kinds of
-- them: the header's last two words under layout 1, padding and frames, places without a live record, slot words under a live record,
-- page-table words of slotted pages, and of the entries the lines, and the keys of those that are not counted.
use Prim.Native.Nat.{ℕ, zero, suc, ◌+◌, ◌*◌, ◌≤◌, ◌<◌}
use mathlib.Core.Path.{◌≡◌, refl, sym, ap, ◌∙◌, subst}
use mathlib.Core.List.{List}
use native.Mathlib.Omega.{arith}
use lib.ListN.{length}
use Rattle.bounded.specs.Below.{up_to}
use Rattle.layout.specs.Layout.{Legal, frames, place_of, page_word, slot_word, record_word, padding_word, line_word, entry_word}
use Rattle.words.specs.Words.{word, store, Bytes}
use Rattle.words.proofs.WordLaws.{word-store-other, length-store, store_same}
use Rattle.layout.proofs.LayoutLaws.{place-lt}
use Rattle.journal.specs.Records.{position}
use Rattle.replay.specs.Table.{no_position, last_in, slot_of}
use Rattle.journal.proofs.Ring.{Positions, new_apart}
use Rattle.mount.proofs.View.{View, live, view_of, Shows, Read, header, wide, journal, slot, page, entry, same_view}

abbrev pub Dead : View → ℕ → Type 0
Dead v a = Read v a → ⊥

-- ---- a store to a dead word

module _ (img : List ℕ) (v : View) (shows : Shows img v) (a w : ℕ) (fits : 8 * a + 8 ≤ length img) (dead : Dead v a) where
  pub dead-view : Shows (store img a w) v
  dead-view =
      sym (same_view (word img) (word (store img a w)) (λ b q.
      sym (word-store-other img a w b fits (λ e. dead (subst (λ (u : View). Read u a) shows (subst (Read (view_of (word img))) (sym e) q))))))
      ∙ shows

-- stores to dead words, one after the other, each of a value that may be read from the image as it then is
abbrev pub stores : ℕ → (ℕ → ℕ) → (ℕ → List ℕ → ℕ) → List ℕ → List ℕ
stores n a w img = up_to n (λ i l. store l (a i) (w i l)) img

module _ (a : ℕ → ℕ) (w : ℕ → List ℕ → ℕ) (img : List ℕ) where
  pub length-stores : (n : ℕ) → ((i : ℕ) → i < n → 8 * a i + 8 ≤ length img) → length (stores n a w img) ≡ length img
  unfolding up_to
  length-stores zero h = refl
  length-stores (suc n) h =
      let k : length (stores n a w img) ≡ length img = length-stores n (λ i l. h i (omega arith)) in
      length-store (stores n a w img) (a n) (w n (stores n a w img)) (omega (arith, h n (omega arith))) ∙ k

-- the value that a word already has
pub store-old : (img : List ℕ) (a w : ℕ) → Bytes img → 8 * a + 8 ≤ length img → w ≡ word img a → store img a w ≡ img
store-old img a w b h e = ap (store img a) e ∙ store_same img a b h

-- ---- which words are dead

module _ (v : View) where
  pub dead-header : v.layout ≡ 1 → (a : ℕ) → 6 ≤ a → a < 8 → Dead v a
  dead-header o a l m (header h) = omega arith
  dead-header o a l m (wide q h) = omega arith
  dead-header o a l m (journal i k h n e) = omega arith
  dead-header o a l m (slot s k h q n e) = omega arith
  dead-header o a l m (page p h q e) = omega arith
  dead-header o a l m (entry i h n e) = omega arith

  -- from the padding up to the entries
  pub dead-between : Legal v.sizes → (a : ℕ) → padding_word v.sizes ≤ a → a < entry_word v.sizes 0 → Dead v a
  dead-between g a l m (header h) = omega arith
  dead-between g a l m (wide q h) = omega arith
  dead-between g a l m (journal i k h n e) = omega (arith, place-lt v.sizes g (position v.sizes v.tail i))
  dead-between g a l m (slot s k h q n e) = omega arith
  dead-between g a l m (page p h q e) = omega arith
  dead-between g a l m (entry i h n e) = omega arith

  -- as is every word of a frame
  pub dead-line : Legal v.sizes → (f l k : ℕ) → f < frames v.sizes → l < 64 → k < 8 → Dead v (line_word v.sizes f l + k)
  dead-line g f l k a b c = dead-between g (line_word v.sizes f l + k) (omega arith) (omega arith)

  -- a word of an entry: of its line, or its key where it is not counted
  pub dead-entry : Legal v.sizes → (e k : ℕ) → k < 9 → (k ≡ 0 → v.count ≤ e) → Dead v (entry_word v.sizes e + k)
  dead-entry g e k l f (header h) = omega arith
  dead-entry g e k l f (wide q h) = omega arith
  dead-entry g e k l f (journal i j h n q) = omega (arith, place-lt v.sizes g (position v.sizes v.tail i))
  dead-entry g e k l f (slot s j h q n o) = omega arith
  dead-entry g e k l f (page p h q o) = omega arith
  dead-entry g e k l f (entry i h n q) =
      let a : i ≡ e = omega arith in
      let b : k ≡ 0 = omega arith in
      omega (arith, f b)

  -- a place that no live position has
  pub dead-place : Legal v.sizes → (q k : ℕ) → k < 4 → ((i : ℕ) → i < live v → place_of v.sizes (position v.sizes v.tail i) ≡ place_of v.sizes q → ⊥)
      → Dead v (record_word v.sizes q + k)
  dead-place g q k l f (header h) = omega arith
  dead-place g q k l f (wide o h) = omega arith
  dead-place g q k l f (journal i m h n e) = f i h (omega arith)
  dead-place g q k l f (slot s m h o n e) = omega arith
  dead-place g q k l f (page p h o e) = omega arith
  dead-place g q k l f (entry i h n e) = omega (arith, place-lt v.sizes g q)

  -- as has the position j after head, while there is room
  pub dead-new : Legal v.sizes → Positions v.sizes v.head v.tail → (j k : ℕ) → live v + j < v.sizes.places → k < 4
      → Dead v (record_word v.sizes (position v.sizes v.head j) + k)
  dead-new g p j k h l =
      dead-place g (position v.sizes v.head j) k l (λ i m e. new_apart v.sizes g v.head v.tail p i j m h e)

  -- a slot with a live record
  pub dead-slot : (s k : ℕ) → s < v.sizes.slots → k < 3 → (last_in v.table s ≡ no_position → ⊥) → Dead v (slot_word v.sizes s + k)
  dead-slot s k h l f (header m) = omega arith
  dead-slot s k h l f (wide o m) = omega arith
  dead-slot s k h l f (journal i n m o e) = omega arith
  dead-slot s k h l f (slot u n m q o e) =
      let w : u ≡ s = omega arith in
      f (ap (last_in v.table) (sym w) ∙ q)
  dead-slot s k h l f (page p m q e) = omega arith
  dead-slot s k h l f (entry i m n e) = omega arith

  -- a page with a slot
  pub dead-page : (p : ℕ) → p < v.sizes.pages → slot_of v.sizes v.table p < v.sizes.slots → Dead v (page_word p)
  dead-page p h f (header m) = omega arith
  dead-page p h f (wide o m) = omega arith
  dead-page p h f (journal i n m o e) = omega arith
  dead-page p h f (slot u n m q o e) = omega arith
  dead-page p h f (page g m q e) =
      let w : g ≡ p = omega arith in
      let x : slot_of v.sizes v.table p ≡ v.sizes.slots = subst (λ (y : ℕ). slot_of v.sizes v.table y ≡ v.sizes.slots) w q in
      omega arith
  dead-page p h f (entry i m n e) = omega arith
