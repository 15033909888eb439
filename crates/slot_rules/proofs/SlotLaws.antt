-- One pass over the slots, and spares and own frames that name each frame once, are row 8's rules for slots and map.
use Prim.Native.Nat.{ℕ, zero, suc, ◌+◌, ◌<◌}
use mathlib.Core.Bool.{Bool, true, false, not, ◌&&◌, ◌||◌, and-true, and-false, or-false}
use mathlib.Core.Path.{◌≡◌, refl, sym, ap, ap₂, ◌∙◌}
use native.Mathlib.Omega.{arith}
use borrow.Author.Tests.{le-ltb, eq-eqb, ne_eqb}
use lib.Dec.{ltb, eqb}
use lib.ListN.{get_or}
use Rattle.bounded.specs.Below.{all_below}
use Rattle.bounded.specs.Count.{each_once}
use Rattle.layout.specs.declared.Sizes.{Sizes}
use Rattle.layout.specs.Layout.{Legal, frames}
use Rattle.journal.specs.declared.Slot.{Slot}
use Rattle.journal.specs.Slots.{no_page, no_frame, is_owning, shaped}
use Rattle.replay.specs.declared.Table.{Table}
use Rattle.replay.specs.Table.{slot_in, slots_shaped, page_apart, pages_apart, frame_names, table_ok}
use Rattle.replay.specs.Map.{original_kept, originals_kept, names_kept}
use Rattle.replay.proofs.Maps.{names-kept}
use Rattle.slot_rules.specs.Slots.{slot_fine, slots_fine}

-- two tests of each number below n
four : (a b c d : Bool) → (a && b) && (c && d) ≡ (a && c) && (b && d)
four true true c d = refl
four true false c d = sym (and-false c)
four false b c d = refl

all-and : (f g : ℕ → Bool) (n : ℕ) → all_below n (λ i. f i && g i) ≡ all_below n f && all_below n g
unfolding all_below
all-and f g zero = refl
all-and f g (suc n) = ap (λ (b : Bool). b && (f n && g n)) (all-and f g n) ∙ four (all_below n f) (all_below n g) (f n) (g n)

-- the pass over all slots
pub fine-all : (h : ℕ → ℕ) (z : Sizes) (t : Table) → all_below z.slots (slot_fine h z t) ≡ slots_shaped z t && (pages_apart z t.page && originals_kept h z t)
fine-all h z t =
    all-and (λ s. shaped z (slot_in t s)) (λ s. page_apart t.page s && original_kept h t s) z.slots
    ∙ ap (λ (b : Bool). slots_shaped z t && b) (all-and (page_apart t.page) (original_kept h t) z.slots)

turned : (a b k n m : Bool) → (k ≡ true → n ≡ m) → (a && (b && k)) && n ≡ (a && (b && m)) && k
turned true true true n m e = e refl ∙ sym (and-true m)
turned true true false n m e = sym (and-false m)
turned true false k n m e = refl
turned false b k n m e = refl

-- both tests together
pub slots-fine : (h : ℕ → ℕ) (z : Sizes) (t : Table) → Legal z → slots_fine h z t ≡ table_ok h z t && originals_kept h z t
slots-fine h z t legal =
    let n = each_once (frames z) (names_kept h z t) in
    ap (λ (b : Bool). b && n) (fine-all h z t)
    ∙ turned (slots_shaped z t) (pages_apart z t.page) (originals_kept h z t) n (each_once (frames z) (frame_names h z t))
    (λ kept. ap (each_once (frames z)) (names-kept h z t legal kept))

-- a free slot's shape
abbrev pub free_shape : Sizes → Slot → Bool
free_shape z t = eqb t.original no_frame && eqb t.bitmap 0 && ltb t.spare (z.pages + z.slots)

shape_free : (z : Sizes) (t : Slot) → Legal z → t.page ≡ no_page → shaped z t ≡ free_shape z t
shape_free z t h e = rw (le-ltb t.page z.pages (omega (arith, h, e)), eq-eqb t.page no_page e)

shape-owning : (z : Sizes) (t : Slot) → (t.page ≡ no_page → ⊥) → shaped z t ≡ is_owning z t
shape-owning z t n = rw (ne_eqb t.page no_page n) (or-false (is_owning z t))

and_both : (a b c d : Bool) → a ≡ b → c ≡ d → a && c ≡ b && d
and_both a b c d e h = ap₂ (λ (x y : Bool). x && y) e h

-- a slot where it is known whether it is free
module _ (h : ℕ → ℕ) (z : Sizes) (t : Table) (s : ℕ) where
  pub free-is : Legal z → get_or t.page s 0 ≡ no_page → slot_fine h z t s ≡ free_shape z (slot_in t s)
  free-is legal e =
      let n : eqb (get_or t.page s 0) no_page ≡ true = eq-eqb (get_or t.page s 0) no_page e in
      let page : page_apart t.page s ≡ true = ap (λ (b : Bool). b || all_below s (λ k. not (eqb (get_or t.page s 0) (get_or t.page k 0)))) n in
      let kept : original_kept h t s ≡ true = ap (λ (b : Bool). b || eqb (h (get_or t.page s 0)) (get_or t.original s 0)) n in
      and_both (shaped z (slot_in t s)) (free_shape z (slot_in t s)) _ true (shape_free z (slot_in t s) legal e) (and_both (page_apart t.page s) true _ true page kept)
      ∙ and-true (free_shape z (slot_in t s))

  pub owning-is : (get_or t.page s 0 ≡ no_page → ⊥)
      → slot_fine h z t s
      ≡ is_owning z (slot_in t s) && (all_below s (λ k. not (eqb (get_or t.page s 0) (get_or t.page k 0))) && eqb (h (get_or t.page s 0)) (get_or t.original s 0))
  owning-is e =
      let n : eqb (get_or t.page s 0) no_page ≡ false = ne_eqb (get_or t.page s 0) no_page e in
      let pages : Bool = all_below s (λ k. not (eqb (get_or t.page s 0) (get_or t.page k 0))) in
      let same : Bool = eqb (h (get_or t.page s 0)) (get_or t.original s 0) in
      and_both (shaped z (slot_in t s)) (is_owning z (slot_in t s)) _ _ (shape-owning z (slot_in t s) e)
      (and_both (page_apart t.page s) pages _ same (ap (λ (b : Bool). b || pages) n) (ap (λ (b : Bool). b || same) n))
