-- The map: its length and its entries; a page's home by its own frame, which is the home where row 8 holds.
use Prim.Native.Nat.{ℕ, ◌-◌, ◌<◌, ◌≤◌}
use mathlib.Core.Bool.{true, false}
use mathlib.Core.List.{List, ◌++◌}
use mathlib.Core.Path.{◌≡◌, sym, ap, ◌∙◌}
use native.Mathlib.Omega.{arith}
use lib.Dec.{ltb, eqb}
use lib.ListN.{length, get_or, replicate, length-append, length-replicate, get_or-append}
use borrow.Author.Tests.{ltb-true, eqb-true, ne_eqb}
use Rattle.bounded.specs.Tab.{tab}
use Rattle.bounded.proofs.Below.{all-at, first_holds}
use Rattle.bounded.proofs.Tab.{length-tab, get_or-tab, tab-ext}
use Rattle.bounded.proofs.Tests.{case_on}
use Rattle.layout.specs.declared.Sizes.{Sizes}
use Rattle.layout.specs.Layout.{Legal}
use Rattle.journal.specs.Slots.{no_page}
use Rattle.replay.specs.declared.Table.{Table}
use Rattle.replay.specs.Table.{slot_in, slot_of, home_of, frame_names}
use Rattle.replay.specs.Map.{map_from, original_kept, originals_kept, names_kept}

pub length-map : (n : ℕ) (f : ℕ → ℕ) → n ≤ 1024 → length (map_from n f) ≡ 1024
unfolding map_from
length-map n f l = length-append (tab n f) (replicate (1024 - n) 0) ∙ omega (arith, length-tab n f, length-replicate {A = ℕ} (1024 - n) 0)

pub map_at : (n : ℕ) (f : ℕ → ℕ) (p : ℕ) → p < n → get_or (map_from n f) p 0 ≡ f p
unfolding map_from
map_at n f p l = get_or-append (tab n f) (replicate (1024 - n) 0) 0 p (omega (arith, length-tab n f)) ∙ get_or-tab n f p 0 l

pub map-ext : (n : ℕ) (f g : ℕ → ℕ) → ((p : ℕ) → p < n → f p ≡ g p) → map_from n f ≡ map_from n g
unfolding map_from
map-ext n f g h = ap (λ (l : List ℕ). l ++ replicate (1024 - n) 0) (tab-ext n f g h)

-- homes and names by two own frames that agree
pub home_same : (h k : ℕ → ℕ) (z : Sizes) (t : Table) (p : ℕ) → h p ≡ k p → home_of h z t p ≡ home_of k z t p
home_same h k z t p e = rw e

pub names_same : (h k : ℕ → ℕ) (z : Sizes) (t : Table) → ((p : ℕ) → p < z.pages → home_of h z t p ≡ home_of k z t p) → frame_names h z t ≡ frame_names k z t
unfolding frame_names
names_same h k z t e = ap (λ (l : List ℕ). tab z.slots (λ s. (slot_in t s).spare) ++ l) (tab-ext z.pages (home_of h z t) (home_of k z t) e)

-- a slotted page's own frame is its original, so that each page's own frame is its home
pub home-own : (h : ℕ → ℕ) (z : Sizes) (t : Table) → Legal z → originals_kept h z t ≡ true → (p : ℕ) → p < z.pages → home_of h z t p ≡ h p
home-own h z t legal kept p low =
    let s = slot_of z t p in
    case_on (ltb s z.slots)
    (λ e.
    let l : s < z.slots = ltb-true s z.slots e in
    let q : (slot_in t s).page ≡ p = eqb-true (slot_in t s).page p (first_holds (λ k. eqb (slot_in t k).page p) z.slots l) in
    let u : original_kept h t s ≡ true = all-at (original_kept h t) z.slots s l kept in
    let n : eqb (slot_in t s).page no_page ≡ false = ne_eqb (slot_in t s).page no_page (λ i. omega (arith, q, i, low, legal)) in
    let w : eqb (h (slot_in t s).page) (slot_in t s).original ≡ true = rw n at u in
    rw e (sym (eqb-true (h (slot_in t s).page) (slot_in t s).original w) ∙ ap h q))
    (λ e. rw e)

-- so they are the same names
pub names-kept : (h : ℕ → ℕ) (z : Sizes) (t : Table) → Legal z → originals_kept h z t ≡ true → names_kept h z t ≡ frame_names h z t
unfolding names_kept frame_names
names-kept h z t legal kept =
    ap (λ (l : List ℕ). tab z.slots (λ s. (slot_in t s).spare) ++ l) (tab-ext z.pages h (home_of h z t) (λ p l. sym (home-own h z t legal kept p l)))
