-- The slot of a page: it has that page, and it is the only one that has.
use Prim.Native.Nat.{ℕ, ◌<◌, ◌≤◌}
use mathlib.Core.Bool.{Bool, true, not, ◌||◌}
use mathlib.Core.Path.{◌≡◌, sym, ap, ◌∙◌}
use native.Mathlib.Omega.{arith}
use native.Mathlib.Nat.{le_antisymm}
use lib.Dec.{ltb, eqb}
use lib.ListN.{get_or}
use borrow.Author.Tests.{eqb-true, eqb-false, eq-eqb, ne_eqb, ltb-true, ltb-false, not-true}
use Rattle.bounded.specs.Below.{all_below}
use Rattle.bounded.proofs.Below.{first-le, first_holds, first-before, all-at}
use Rattle.bounded.proofs.Tests.{case_on, contradicts}
use Rattle.layout.specs.declared.Sizes.{Sizes}
use Rattle.layout.specs.Layout.{Legal}
use Rattle.replay.specs.declared.Table.{Table}
use Rattle.journal.specs.Slots.{no_page}
use Rattle.replay.specs.Table.{slot_in, pages_apart, page_apart, slot_of}

module _ (z : Sizes) (t : Table) where
  abbrev has : ℕ → ℕ → Bool
  has p s = eqb (slot_in t s).page p

  pub slot-le : (p : ℕ) → slot_of z t p ≤ z.slots
  slot-le p = first-le (has p) z.slots

  -- the slot of page p has page p
  pub slot-page : (p : ℕ) → slot_of z t p < z.slots → (slot_in t (slot_of z t p)).page ≡ p
  slot-page p l = eqb-true (slot_in t (slot_of z t p)).page p (first_holds (has p) z.slots l)

  -- a page that a slot has is slotted
  pub slot-first : (p s : ℕ) → s < z.slots → (slot_in t s).page ≡ p → slot_of z t p ≤ s
  slot-first p s l e =
      case_on (ltb s (slot_of z t p))
      (λ b. contradicts (eq-eqb (slot_in t s).page p e) (first-before (has p) z.slots s (ltb-true s (slot_of z t p) b)))
      (λ b. ltb-false s (slot_of z t p) b)

  pub slotted-of : (p s : ℕ) → s < z.slots → (slot_in t s).page ≡ p → slot_of z t p < z.slots
  slotted-of p s l e = omega (arith, slot-first p s l e)

  -- no slot has the page of an unslotted one
  pub unslotted-of : (p : ℕ) → ((s : ℕ) → s < z.slots → (slot_in t s).page ≡ p → ⊥) → slot_of z t p ≡ z.slots
  unslotted-of p h =
      case_on (ltb (slot_of z t p) z.slots)
      (λ b. let l : slot_of z t p < z.slots = ltb-true (slot_of z t p) z.slots b in absurd (h (slot_of z t p) l (slot-page p l)))
      (λ b. le_antisymm (slot-le p) (ltb-false (slot_of z t p) z.slots b))

  -- two slots have one page only if it is none
  pub apart-at : pages_apart z t.page ≡ true → (s k : ℕ) → s < z.slots → k < s → ((slot_in t s).page ≡ no_page → ⊥) → (slot_in t s).page ≡ (slot_in t k).page → ⊥
  apart-at apart s k l m n e =
      let a : page_apart t.page s ≡ true = all-at (page_apart t.page) z.slots s l apart in
      let b : all_below s (λ j. not (eqb (get_or t.page s 0) (get_or t.page j 0))) ≡ true =
      ap (λ (x : Bool). x || all_below s (λ j. not (eqb (get_or t.page s 0) (get_or t.page j 0)))) (sym (ne_eqb (get_or t.page s 0) no_page n)) ∙ a in
      eqb-false (get_or t.page s 0) (get_or t.page k 0) (not-true (eqb (get_or t.page s 0) (get_or t.page k 0)) (all-at (λ j. not (eqb (get_or t.page s 0) (get_or t.page j 0))) s k m b)) e

  -- the slot that has page p is the slot of page p
  pub slot_is : Legal z → pages_apart z t.page ≡ true → (p s : ℕ) → p < z.pages → s < z.slots → (slot_in t s).page ≡ p → slot_of z t p ≡ s
  slot_is g apart p s h l e =
      let a : slot_of z t p ≤ s = slot-first p s l e in
      case_on (ltb (slot_of z t p) s)
      (λ b.
      let m : slot_of z t p < s = ltb-true (slot_of z t p) s b in
      absurd (apart-at apart s (slot_of z t p) l m (λ n. omega (arith, g.pages-high)) (e ∙ sym (slot-page p (omega arith)))))
      (λ b. le_antisymm a (ltb-false (slot_of z t p) s b))
