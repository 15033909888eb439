-- A store of the count of entries, or among the frames and the entries, changes neither the slots that a mount finds nor a page-table word.
use Prim.Native.Nat.{ℕ, ◌+◌, ◌*◌, ◌<◌, ◌≤◌}
use mathlib.Core.List.{List}
use mathlib.Core.Logic.{◌⊎◌, ⊎_elim}
use mathlib.Core.Path.{◌≡◌, sym, ap, ◌∙◌, subst}
use native.Mathlib.Omega.{arith}
use lib.ListN.{length}
use Rattle.layout.specs.declared.Sizes.{Sizes}
use Rattle.layout.specs.Layout.{Legal, layout_word, head_word, tail_word, count_word, entries_word, frame_word, image_length}
use Rattle.layout.proofs.LayoutLaws.{place-lt}
use Rattle.words.specs.Words.{word, store}
use Rattle.words.proofs.WordLaws.{word-store-other}
use Rattle.journal.specs.Records.{position}
use Rattle.mount.specs.Mount.{sizes_from}
use Rattle.mount.proofs.View.{View, Read, header, wide, journal, slot, page, entry, table_with, view_with, body-view, wide-same}
use Rattle.leftovers.proofs.Alike.{slots_of, Stays}

module _ (img : List ℕ) (a x : ℕ) (z : Sizes) (sizes : sizes_from (word img) ≡ z) (legal : Legal z) (fits : image_length z ≤ length img) (inside : 8 * a + 8 ≤ image_length z)
    (beyond : (a ≡ count_word) ⊎ (frame_word z ≤ a)) where
  abbrev after : List ℕ
  after = store img a x

  kept : (c : ℕ) → (c ≡ count_word → ⊥) → c < frame_word z → word after c ≡ word img c
  kept c n l = word-store-other img a x c (omega (arith, fits, inside)) (λ e. ⊎_elim (λ q. n (sym e ∙ q)) (λ q. omega arith) beyond)

  -- the header, its count aside
  sizes-kept : sizes_from (word after) ≡ z
  sizes-kept =
      let e₀ = kept 0 (λ e. omega arith) (omega arith) in
      let e₁ = kept 1 (λ e. omega arith) (omega arith) in
      let e₂ = kept 2 (λ e. omega arith) (omega arith) in
      let e₃ = kept layout_word (λ e. omega arith) (omega arith) in
      let e₇ = wide-same (word after) (word img) entries_word e₃ (λ q. kept entries_word (λ e. omega arith) (omega arith)) in
      (λ i. record { pages = e₀ i; slots = e₁ i; places = e₂ i; entries = e₇ i }) ∙ sizes

  -- the words past the header that tell the slots lie before the frames
  past-kept : (head tail : ℕ) (c : ℕ) → 8 ≤ c → Read (view_with (word img) z 1 head tail 0) c → word img c ≡ word after c
  past-kept head tail c l (header h) = absurd (omega arith)
  past-kept head tail c l (wide q h) = absurd (omega arith)
  past-kept head tail c l (journal i k h m e) = sym (kept c (λ q. omega arith) (omega (arith, place-lt z legal (position z tail i))))
  past-kept head tail c l (slot s k h q m e) = sym (kept c (λ o. omega arith) (omega arith))
  past-kept head tail c l (page p h q e) = sym (kept c (λ o. omega arith) (omega arith))
  past-kept head tail c l (entry e h m q) = absurd (omega arith)

  table_kept : (head tail : ℕ) → table_with (word img) z head tail ≡ table_with (word after) z head tail
  table_kept head tail = ap (λ (v : View). v.table) (body-view (word img) (word after) z 1 head tail 0 (past-kept head tail))

  slots_kept : slots_of after ≡ slots_of img
  slots_kept =
      let h = kept head_word (λ e. omega arith) (omega arith) in
      let t = kept tail_word (λ e. omega arith) (omega arith) in
      (λ i. table_with (word after) (sizes-kept i) (h i) (t i)) ∙ sym (table_kept (word img head_word) (word img tail_word)) ∙ ap (λ (y : Sizes). table_with (word img) y (word img head_word) (word img tail_word)) (sym sizes)

  pub beyond-stays : Stays img after
  beyond-stays =
      record { table = slots_kept }
