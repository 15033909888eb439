-- A store to head, to tail or to the count of entries: the view is that of the same words under the new header. From a position to itself no
-- record is live.
use Prim.Native.Nat.{ℕ, ◌+◌, ◌*◌, ◌^◌, ◌≤◌, ◌<◌}
use mathlib.Core.Path.{◌≡◌, ap, ◌∙◌}
use mathlib.Core.List.{List, []}
use native.Mathlib.Omega.{arith}
use lib.ListN.{length}
use borrow.Author.Tests.{eq-eqb}
use Rattle.bounded.specs.Below.{up_to}
use Rattle.bounded.specs.Tab.{tab}
use Rattle.layout.specs.declared.Sizes.{Sizes}
use Rattle.layout.specs.Layout.{layout_word, head_word, tail_word, count_word, entries_word}
use Rattle.words.specs.Words.{word, store}
use Rattle.words.proofs.WordLaws.{word-store, word-store-other}
use Rattle.replay.specs.declared.Table.{Table}
use Rattle.journal.specs.Records.{live_count, live_record}
use Rattle.replay.specs.Table.{table_from, replay, home_of}
use Rattle.replay.specs.Map.{page_frames}
use Rattle.entries.specs.Entries.{keys_from}
use Rattle.mount.specs.Mount.{wide_word, sizes_from, count_from}
use Rattle.journal.proofs.Ring.{live-none}
use Rattle.mount.proofs.View.{View, table_with, view_with, Shows, body-view, header-view, wide-same}

-- no record is live from a position to itself
pub none-live : (r : ℕ → ℕ) (z : Sizes) (layout q count : ℕ) (t : Table) → table_from r z ≡ t
    → view_with r z layout q q count ≡ record { sizes = z; layout = layout; head = q; tail = q; records = []; table = t; homes = tab z.pages (home_of (page_frames r) z t); count = count; keys = keys_from r z count }
unfolding replay up_to tab
none-live r z layout q count t e =
    let n : live_count z q q ≡ 0 = live-none z q in
    let e₁ : tab (live_count z q q) (live_record r z q) ≡ [] = ap (λ (k : ℕ). tab k (live_record r z q)) n in
    let e₂ : table_with r z q q ≡ t = ap (λ (k : ℕ). replay z q k (live_record r z q) (table_from r z)) n ∙ e in
    λ i. record { sizes = z; layout = layout; head = q; tail = q; records = e₁ i; table = e₂ i; homes = tab z.pages (home_of (page_frames r) z (e₂ i)); count = count; keys = keys_from r z count }

module _ (img : List ℕ) (v : View) (shows : Shows img v) (x : ℕ) (low : x < 2 ^ 64) where
  -- a store to word 4, 5 or 6 leaves the sizes, the layout and all that stands past the header
  store-header : (a head tail count : ℕ) → 3 < a → a < 7 → 8 * a + 8 ≤ length img → word (store img a x) head_word ≡ head → word (store img a x) tail_word ≡ tail
      → count_from (word (store img a x)) ≡ count → Shows (store img a x) (view_with (word img) v.sizes v.layout head tail count)
  store-header a head tail count l m h p q c =
      let r : ℕ → ℕ = word (store img a x) in
      let kept : (b : ℕ) → (a ≡ b → ⊥) → r b ≡ word img b = λ b n. word-store-other img a x b h n in
      let e₀ : r 0 ≡ word img 0 = kept 0 (λ e. omega arith) in
      let e₁ : r 1 ≡ word img 1 = kept 1 (λ e. omega arith) in
      let e₂ : r 2 ≡ word img 2 = kept 2 (λ e. omega arith) in
      let same : r layout_word ≡ word img layout_word = kept layout_word (λ e. omega arith) in
      let e₃ : r layout_word ≡ v.layout = same ∙ ap (λ (u : View). u.layout) shows in
      let e₇ : wide_word r entries_word ≡ wide_word (word img) entries_word = wide-same r (word img) entries_word same (λ q. kept entries_word (λ e. omega arith)) in
      let sizes : sizes_from r ≡ sizes_from (word img) = λ i. record { pages = e₀ i; slots = e₁ i; places = e₂ i; entries = e₇ i } in
      header-view r (sizes_from r) v.sizes (r layout_word) v.layout (r head_word) head (r tail_word) tail (count_from r) count
      (sizes ∙ ap (λ (u : View). u.sizes) shows) e₃ p q c
      ∙ body-view r (word img) v.sizes v.layout head tail count (λ b n o. kept b (λ e. omega arith))

  -- a store to head or tail leaves the count
  count_kept : (a : ℕ) → 3 < a → a < 6 → 8 * a + 8 ≤ length img → count_from (word (store img a x)) ≡ v.count
  count_kept a l m h =
      let kept : (b : ℕ) → (a ≡ b → ⊥) → word (store img a x) b ≡ word img b = λ b n. word-store-other img a x b h n in
      wide-same (word (store img a x)) (word img) count_word (kept layout_word (λ e. omega arith)) (λ q. kept count_word (λ e. omega arith))
      ∙ ap (λ (u : View). u.count) shows

  pub store-head : 40 ≤ length img → Shows (store img head_word x) (view_with (word img) v.sizes v.layout x v.tail v.count)
  store-head h =
      store-header head_word x v.tail v.count (omega arith) (omega arith) h (word-store img head_word x h low)
      (word-store-other img head_word x tail_word h (λ e. omega arith) ∙ ap (λ (u : View). u.tail) shows)
      (count_kept head_word (omega arith) (omega arith) h)

  pub store_tail : 48 ≤ length img → Shows (store img tail_word x) (view_with (word img) v.sizes v.layout v.head x v.count)
  store_tail h =
      store-header tail_word v.head x v.count (omega arith) (omega arith) h
      (word-store-other img tail_word x head_word h (λ e. omega arith) ∙ ap (λ (u : View). u.head) shows)
      (word-store img tail_word x h low)
      (count_kept tail_word (omega arith) (omega arith) h)

  -- to the count, under layout 2
  pub store-count : 56 ≤ length img → v.layout ≡ 2 → Shows (store img count_word x) (view_with (word img) v.sizes v.layout v.head v.tail x)
  store-count h two =
      let kept : (b : ℕ) → (count_word ≡ b → ⊥) → word (store img count_word x) b ≡ word img b = λ b n. word-store-other img count_word x b h n in
      let e : word (store img count_word x) layout_word ≡ 2 = kept layout_word (λ q. omega arith) ∙ ap (λ (u : View). u.layout) shows ∙ two in
      store-header count_word v.head v.tail x (omega arith) (omega arith) h
      (kept head_word (λ q. omega arith) ∙ ap (λ (u : View). u.head) shows)
      (kept tail_word (λ q. omega arith) ∙ ap (λ (u : View). u.tail) shows)
      (rw (eq-eqb (word (store img count_word x) layout_word) 2 e) (word-store img count_word x h low))
