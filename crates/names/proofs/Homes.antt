-- The homes of pages: the originals put over the pages' own frames, slot by slot, are each page's home, since no page is
-- in two slots.
use mathlib.Core.Path.{◌≡◌, refl, sym, ap, ap₂, ◌∙◌, subst}
use mathlib.Core.Bool.{Bool, true, not}
use mathlib.Core.List.{List, ◌++◌}
use Prim.Native.Nat.{ℕ, zero, suc, ◌+◌, ◌≤◌, ◌<◌}
use native.Mathlib.Nat.{not-suc-le-zero}
use native.Mathlib.Omega.{arith}
use lib.Dec.{ltb, eqb}
use lib.ListN.{length, get_or, set, length-set, length-append}
use lib.Seq.{ext_get_or, get_or-set_same, get_or-set_other}
use borrow.Author.Tests.{ltb-true, ltb-false, lt-ltb, eqb-true, eqb-false, eq-eqb, ne_eqb, not-true}
use Rattle.bounded.specs.Below.{up_to, all_below, first_below}
use Rattle.bounded.specs.Count.{each_once}
use Rattle.bounded.specs.Tab.{tab, filled}
use Rattle.bounded.proofs.Tests.{case_on, contradicts}
use Rattle.bounded.proofs.Below.{split_below, all-at, first_holds, first-before, up-keeps}
use Rattle.bounded.proofs.Tab.{length-tab, get_or-tab, length-filled, get_or-filled}
use Rattle.layout.specs.declared.Sizes.{Sizes}
use Rattle.layout.specs.Layout.{Legal, frames}
use Rattle.replay.specs.declared.Table.{Table}
use Rattle.journal.specs.Slots.{no_page}
use Rattle.replay.specs.Table.{page_apart, pages_apart, slot_in, home_of, frame_names}
use Rattle.names.specs.Homes.{original_put, originals_put}

-- the first of two tests fails, so the whole is the second
-- every place of a list is set
pub filled-whole : (n : ℕ) (f : ℕ → ℕ) (l : List ℕ) → length l ≡ n → filled n f l ≡ tab n f
filled-whole n f l e =
    ext_get_or 0 (filled n f l) (tab n f) (length-filled n f l ∙ e ∙ sym (length-tab n f))
    (λ i h.
    let k : i < n = omega (arith, length-filled n f l) in
    get_or-filled n f l i 0 k (omega arith) ∙ sym (get_or-tab n f i 0 k))

-- no page is in two slots
apart : (z : Sizes) (page : List ℕ) → z.pages ≤ 1024 → pages_apart z page ≡ true → (k j : ℕ) → k < j → j < z.slots → get_or page j 0 < z.pages → get_or page j 0 ≡ get_or page k 0 → ⊥
apart z page h t k j a b c e =
    let u : page_apart page j ≡ true = all-at (page_apart page) z.slots j b t in
    let w : all_below j (λ i. not (eqb (get_or page j 0) (get_or page i 0))) ≡ true = rw (ne_eqb (get_or page j 0) no_page (λ q. omega arith)) at u in
    eqb-false (get_or page j 0) (get_or page k 0) (not-true (eqb (get_or page j 0) (get_or page k 0)) (all-at (λ i. not (eqb (get_or page j 0) (get_or page i 0))) j k a w)) e

module _ (z : Sizes) (page original : List ℕ) where
  pub length-put-original : (s : ℕ) (m : List ℕ) → length (original_put z page original s m) ≡ length m
  length-put-original s m =
      case_on (ltb (get_or page s 0) z.pages) (λ t. rw t (length-set m (get_or page s 0) (get_or original s 0))) (λ t. rw t refl)

  pub length-originals : (n : ℕ) (m : List ℕ) → length (originals_put z page original n m) ≡ length m
  length-originals n m =
      up-keeps (λ (l : List ℕ). length l ≡ length m) (original_put z page original) n m (λ i y l e. length-put-original i y ∙ e) refl

  -- a slot of another page
  put_other : (s p : ℕ) (m : List ℕ) → (get_or page s 0 ≡ p → ⊥) → get_or (original_put z page original s m) p 0 ≡ get_or m p 0
  put_other s p m ne =
      case_on (ltb (get_or page s 0) z.pages)
      (λ t. rw t (get_or-set_other m (get_or page s 0) p (get_or original s 0) 0 (λ e. ne (sym e))))
      (λ t. rw t refl)

  -- slot k is the last of page p
  puts-in : (n k p : ℕ) (m : List ℕ) → length m ≡ z.pages → k < n → p < z.pages → get_or page k 0 ≡ p
      → ((j : ℕ) → k < j → j < n → get_or page j 0 ≡ p → ⊥) → get_or (originals_put z page original n m) p 0 ≡ get_or original k 0
  unfolding up_to
  puts-in zero k p m e l h q u = absurd (not-suc-le-zero l)
  puts-in (suc n) k p m e l h q u =
      let o = originals_put z page original n m in
      split_below l
      (λ w.
      let r : get_or page n 0 ≡ p = subst (λ (i : ℕ). get_or page i 0 ≡ p) w q in
      rw (lt-ltb (get_or page n 0) z.pages (omega arith))
      (ap (λ (i : ℕ). get_or (set o (get_or page n 0) (get_or original n 0)) i 0) (sym r)
      ∙ get_or-set_same o (get_or page n 0) (get_or original n 0) 0 (omega (arith, length-originals n m))
      ∙ ap (λ (i : ℕ). get_or original i 0) (sym w)))
      (λ lt.
      put_other n p o (u n lt (omega arith)) ∙ puts-in n k p m e lt h q (λ j a b. u j a (omega arith)))

  -- no slot has page p
  puts-out : (n p : ℕ) (m : List ℕ) → ((j : ℕ) → j < n → get_or page j 0 ≡ p → ⊥) → get_or (originals_put z page original n m) p 0 ≡ get_or m p 0
  unfolding up_to
  puts-out zero p m u = refl
  puts-out (suc n) p m u =
      put_other n p (originals_put z page original n m) (u n (omega arith)) ∙ puts-out n p m (λ j l. u j (omega arith))

-- a page's home
home_at : (own : ℕ → ℕ) (z : Sizes) (t : Table) → Legal z → pages_apart z t.page ≡ true → (p : ℕ) → p < z.pages
    → get_or (originals_put z t.page t.original z.slots (tab z.pages own)) p 0 ≡ home_of own z t p
home_at own z t legal u p h =
    let f : ℕ → Bool = λ s. eqb (get_or t.page s 0) p in
    let frames : List ℕ = tab z.pages own in
    let k = first_below z.slots f in
    case_on (ltb k z.slots)
    (λ w.
    let l : k < z.slots = ltb-true k z.slots w in
    let q : get_or t.page k 0 ≡ p = eqb-true (get_or t.page k 0) p (first_holds f z.slots l) in
    rw w
    (puts-in z t.page t.original z.slots k p frames (length-tab z.pages own) l h q
    (λ j a b e. apart z t.page (omega arith) u k j a b (omega arith) (e ∙ sym q))))
    (λ w.
    let l : z.slots ≤ k = ltb-false k z.slots w in
    rw w
    (puts-out z t.page t.original z.slots p frames
    (λ j a e. contradicts (eq-eqb (get_or t.page j 0) p e) (first-before f z.slots j (omega arith)))
    ∙ get_or-tab z.pages own p 0 h))

pub homes : (own : ℕ → ℕ) (z : Sizes) (t : Table) → Legal z → pages_apart z t.page ≡ true
    → originals_put z t.page t.original z.slots (tab z.pages own) ≡ tab z.pages (home_of own z t)
homes own z t legal u =
    let frames : List ℕ = tab z.pages own in
    let e : length (originals_put z t.page t.original z.slots frames) ≡ z.pages =
    length-originals z t.page t.original z.slots frames ∙ length-tab z.pages own in
    ext_get_or 0 (originals_put z t.page t.original z.slots frames) (tab z.pages (home_of own z t)) (e ∙ sym (length-tab z.pages (home_of own z t)))
    (λ p l. home_at own z t legal u p (omega arith) ∙ sym (get_or-tab z.pages (home_of own z t) p 0 (omega arith)))

-- ---- the names

-- spares and homes, as many as there are frames
pub both-once : (own : ℕ → ℕ) (z : Sizes) (t : Table) (a b : List ℕ) → a ≡ tab z.slots (λ s. (slot_in t s).spare) → b ≡ tab z.pages (home_of own z t)
    → each_once (length a + length b) (a ++ b) ≡ each_once (frames z) (frame_names own z t)
unfolding frame_names
both-once own z t a b e f =
    let n : length a + length b ≡ frames z =
    omega (arith, ap length e, ap length f, length-tab z.slots (λ s. (slot_in t s).spare), length-tab z.pages (home_of own z t)) in
    ap₂ (λ (k : ℕ) (l : List ℕ). each_once k l) n (ap₂ (λ (x y : List ℕ). x ++ y) e f)

pub length-names : (own : ℕ → ℕ) (z : Sizes) (t : Table) → length (frame_names own z t) ≡ frames z
unfolding frame_names
length-names own z t =
    omega (arith, length-append (tab z.slots (λ s. (slot_in t s).spare)) (tab z.pages (home_of own z t)), length-tab z.slots (λ s. (slot_in t s).spare), length-tab z.pages (home_of own z t))
