-- Tables of 16 slots: a slot or a last position replaced, two tables alike, and slots laid one after the other.
use Prim.Native.Nat.{ℕ, zero, suc, ◌≤◌, ◌<◌}
use mathlib.Core.Path.{◌≡◌, refl, sym, ap, ◌∙◌, subst}
use native.Mathlib.Omega.{arith}
use native.Mathlib.Nat.{not-suc-le-zero}
use lib.ListN.{length, get_or, replicate, length-set}
use lib.Seq.{get_or-set_same, get_or-set_other, ext_get_or}
use Rattle.bounded.specs.Below.{up_to}
use Rattle.bounded.proofs.Below.{split_below, up-ext}
use Rattle.layout.specs.declared.Sizes.{Sizes}
use Rattle.layout.specs.Layout.{slot_word}
use Rattle.journal.specs.declared.Slot.{Slot}
use Rattle.replay.specs.declared.Table.{Table}
use Rattle.journal.specs.Slots.{slot_from}
use Rattle.replay.specs.Table.{no_position, slot_in, with_slot, last_in, with_last, empty_table, table_from}

-- each list of the table has 16 entries
pub record Sixteen (t : Table) : Type 0 where
  pub page : length t.page ≡ 16
  pub original : length t.original ≡ 16
  pub spare : length t.spare ≡ 16
  pub bitmap : length t.bitmap ≡ 16
  pub last : length t.last ≡ 16

pub sixteen-empty : Sixteen empty_table
sixteen-empty = record { page = refl; original = refl; spare = refl; bitmap = refl; last = refl }

pub sixteen-slot : (t : Table) (s : ℕ) (v : Slot) → Sixteen t → Sixteen (with_slot t s v)
sixteen-slot t s v h =
    record { page = length-set t.page s v.page ∙ h.page; original = length-set t.original s v.original ∙ h.original; spare = length-set t.spare s v.spare ∙ h.spare; bitmap = length-set t.bitmap s v.bitmap ∙ h.bitmap; last = h.last }

pub sixteen-last : (t : Table) (s q : ℕ) → Sixteen t → Sixteen (with_last t s q)
sixteen-last t s q h =
    record { page = h.page; original = h.original; spare = h.spare; bitmap = h.bitmap; last = length-set t.last s q ∙ h.last }

-- ---- one slot replaced

pub slot_same : (t : Table) (s : ℕ) (v : Slot) → Sixteen t → s < 16 → slot_in (with_slot t s v) s ≡ v
slot_same t s v h l =
    let e₀ = get_or-set_same t.page s v.page 0 (omega arith) in
    let e₁ = get_or-set_same t.original s v.original 0 (omega arith) in
    let e₂ = get_or-set_same t.spare s v.spare 0 (omega arith) in
    let e₃ = get_or-set_same t.bitmap s v.bitmap 0 (omega arith) in
    λ i. record { page = e₀ i; original = e₁ i; spare = e₂ i; bitmap = e₃ i }

pub slot-other : (t : Table) (s : ℕ) (v : Slot) (u : ℕ) → (u ≡ s → ⊥) → slot_in (with_slot t s v) u ≡ slot_in t u
slot-other t s v u n =
    let e₀ = get_or-set_other t.page s u v.page 0 n in
    let e₁ = get_or-set_other t.original s u v.original 0 n in
    let e₂ = get_or-set_other t.spare s u v.spare 0 n in
    let e₃ = get_or-set_other t.bitmap s u v.bitmap 0 n in
    λ i. record { page = e₀ i; original = e₁ i; spare = e₂ i; bitmap = e₃ i }

pub last-same : (t : Table) (s q : ℕ) → Sixteen t → s < 16 → last_in (with_last t s q) s ≡ q
last-same t s q h l = get_or-set_same t.last s q no_position (omega arith)

pub last-other : (t : Table) (s q u : ℕ) → (u ≡ s → ⊥) → last_in (with_last t s q) u ≡ last_in t u
last-other t s q u n = get_or-set_other t.last s u q no_position n

-- tables with the same slots and the same last positions
pub table-ext : (t u : Table) → Sixteen t → Sixteen u → ((s : ℕ) → s < 16 → slot_in t s ≡ slot_in u s) → ((s : ℕ) → s < 16 → last_in t s ≡ last_in u s) → t ≡ u
table-ext t u p q a b =
    let e₀ = ext_get_or 0 t.page u.page (p.page ∙ sym q.page) (λ s l. ap (λ (v : Slot). v.page) (a s (omega arith))) in
    let e₁ = ext_get_or 0 t.original u.original (p.original ∙ sym q.original) (λ s l. ap (λ (v : Slot). v.original) (a s (omega arith))) in
    let e₂ = ext_get_or 0 t.spare u.spare (p.spare ∙ sym q.spare) (λ s l. ap (λ (v : Slot). v.spare) (a s (omega arith))) in
    let e₃ = ext_get_or 0 t.bitmap u.bitmap (p.bitmap ∙ sym q.bitmap) (λ s l. ap (λ (v : Slot). v.bitmap) (a s (omega arith))) in
    let e₄ = ext_get_or no_position t.last u.last (p.last ∙ sym q.last) (λ s l. b s (omega arith)) in
    λ i. record { page = e₀ i; original = e₁ i; spare = e₂ i; bitmap = e₃ i; last = e₄ i }

-- ---- the first n slots laid over a table

abbrev pub laid : ℕ → (ℕ → Slot) → Table → Table
laid n f t = up_to n (λ s u. with_slot u s (f s)) t

pub sixteen-laid : (n : ℕ) (f : ℕ → Slot) (t : Table) → Sixteen t → Sixteen (laid n f t)
unfolding up_to
sixteen-laid zero f t h = h
sixteen-laid (suc n) f t h = sixteen-slot (laid n f t) n (f n) (sixteen-laid n f t h)

pub laid-slot : (n : ℕ) (f : ℕ → Slot) (t : Table) (s : ℕ) → Sixteen t → s < n → s < 16 → slot_in (laid n f t) s ≡ f s
unfolding up_to
laid-slot zero f t s h l m = absurd (not-suc-le-zero l)
laid-slot (suc n) f t s h l m =
    split_below l
    (λ q. subst (λ (k : ℕ). slot_in (with_slot (laid n f t) k (f k)) s ≡ f s) q (slot_same (laid n f t) s (f s) (sixteen-laid n f t h) m))
    (λ lt. slot-other (laid n f t) n (f n) s (λ e. omega arith) ∙ laid-slot n f t s h lt m)

pub laid-past : (n : ℕ) (f : ℕ → Slot) (t : Table) (s : ℕ) → n ≤ s → slot_in (laid n f t) s ≡ slot_in t s
unfolding up_to
laid-past zero f t s h = refl
laid-past (suc n) f t s h = slot-other (laid n f t) n (f n) s (λ e. omega arith) ∙ laid-past n f t s (omega arith)

pub laid-last : (n : ℕ) (f : ℕ → Slot) (t : Table) (s : ℕ) → last_in (laid n f t) s ≡ last_in t s
unfolding up_to
laid-last zero f t s = refl
laid-last (suc n) f t s = laid-last n f t s

pub laid-ext : (n : ℕ) (f g : ℕ → Slot) (t : Table) → ((s : ℕ) → s < n → f s ≡ g s) → laid n f t ≡ laid n g t
laid-ext n f g t h = up-ext (λ s u. with_slot u s (f s)) (λ s u. with_slot u s (g s)) n t (λ s u l. ap (with_slot u s) (h s l))

-- ---- the slot table

-- a list of one value alone, read with that value in default
pub one_value : (n s v : ℕ) → get_or (replicate n v) s v ≡ v
one_value zero s v = refl
one_value (suc n) zero v = refl
one_value (suc n) (suc s) v = one_value n s v

pub empty-last : (s : ℕ) → last_in empty_table s ≡ no_position
empty-last s = one_value 16 s no_position

module _ (r : ℕ → ℕ) (z : Sizes) where
  pub sixteen-from : Sixteen (table_from r z)
  unfolding table_from
  sixteen-from = sixteen-laid z.slots (λ s. slot_from r (slot_word z s)) empty_table sixteen-empty

  pub from-slot : (s : ℕ) → s < z.slots → s < 16 → slot_in (table_from r z) s ≡ slot_from r (slot_word z s)
  unfolding table_from
  from-slot s l m = laid-slot z.slots (λ s. slot_from r (slot_word z s)) empty_table s sixteen-empty l m

  pub from_past : (s : ℕ) → z.slots ≤ s → slot_in (table_from r z) s ≡ slot_in empty_table s
  unfolding table_from
  from_past s l = laid-past z.slots (λ s. slot_from r (slot_word z s)) empty_table s l

  pub from_last : (s : ℕ) → last_in (table_from r z) s ≡ no_position
  unfolding table_from
  from_last s = laid-last z.slots (λ s. slot_from r (slot_word z s)) empty_table s ∙ empty-last s
