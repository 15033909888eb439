-- The words of slots and records: what is written is read back, for numbers that fit their halves of a word, and a
-- slot with a shape has such numbers.
use Prim.Native.Nat.{ℕ, zero, suc, ◌+◌, ◌-◌, ◌*◌, ◌/◌, ◌%◌, ◌^◌, ◌<◌}
use mathlib.Core.Path.{◌≡◌, refl, sym, ap, ◌∙◌}
use mathlib.Core.Bool.{Bool, true, false, ◌||◌, not, cond, or-true}
use mathlib.Core.List.{[], ◌∷◌}
use mathlib.Core.Logic.{◌⊎◌, ⊎_elim, inl, inr}
use native.Mathlib.Omega.{arith}
use lib.Dec.{ltb, eqb}
use borrow.Author.Tests.{eqb-true, eqb-false, eq-eqb, ne_eqb, ltb-true, lt-ltb, not-true}
use Rattle.bounded.proofs.Tests.{row_keeps, every_held, held-every}
use Rattle.layout.specs.declared.Sizes.{Sizes}
use Rattle.layout.specs.Layout.{Legal, frames}
use Rattle.journal.specs.declared.Slot.{Slot}
use Rattle.journal.specs.declared.Record.{Record}
use Rattle.journal.specs.Slots.{no_page, no_frame, slot_from, word_of_slot, free_slot, is_owning, is_free, shaped}
use Rattle.journal.specs.Records.{record_from, word_of_record}

-- ---- a slot's three words

-- written, then read
pub slot-back : (r : ℕ → ℕ) (a : ℕ) (t : Slot) → t.original < 2 ^ 32 → ((k : ℕ) → k < 3 → r (a + k) ≡ word_of_slot t k) → slot_from r a ≡ t
slot-back r a t h w =
    let e : a + 0 ≡ a = omega arith in
    let w₀ : r a ≡ t.page = ap r (sym e) ∙ w 0 (omega arith) in
    let w₁ : r (a + 1) ≡ t.original + 2 ^ 32 * t.spare = w 1 (omega arith) in
    let w₂ : r (a + 2) ≡ t.bitmap = w 2 (omega arith) in
    let o : r (a + 1) % 2 ^ 32 ≡ t.original = omega arith in
    let s : r (a + 1) / 2 ^ 32 ≡ t.spare = omega arith in
    λ i. record { page = w₀ i; original = o i; spare = s i; bitmap = w₂ i }

-- one of k words, one by one
three : (P : ℕ → Type 0) → P 0 → P 1 → P 2 → (k : ℕ) → k < 3 → P k
three P p q s zero h = p
three P p q s (suc zero) h = q
three P p q s (suc (suc zero)) h = s
three P p q s (suc (suc (suc k))) h = absurd (omega arith)

-- read, then written
pub slot-words : (r : ℕ → ℕ) (a k : ℕ) → k < 3 → word_of_slot (slot_from r a) k ≡ r (a + k)
slot-words r a =
    three (λ (k : ℕ). word_of_slot (slot_from r a) k ≡ r (a + k))
    (ap r (omega arith))
    (omega arith)
    refl

pub slot-ext : (r r' : ℕ → ℕ) (a a' : ℕ) → ((k : ℕ) → k < 3 → r (a + k) ≡ r' (a' + k)) → slot_from r a ≡ slot_from r' a'
slot-ext r r' a a' h =
    slot-back r a (slot_from r' a') (omega arith) (λ k l. h k l ∙ sym (slot-words r' a' k l))

-- ---- a record's four words

four : (P : ℕ → Type 0) → P 0 → ((k : ℕ) → k < 3 → P (suc k)) → (k : ℕ) → k < 4 → P k
four P p q zero h = p
four P p q (suc k) h = q k (omega arith)

-- past its first word, the slot's
pub record-rest : (e : Record) (k : ℕ) → word_of_record e (suc k) ≡ word_of_slot e.now k
record-rest e k =
    let q : suc k - 1 ≡ k = omega arith in
    rw (ne_eqb (suc k) 0 (λ z. omega arith), q)

pub record-back : (r : ℕ → ℕ) (a : ℕ) (e : Record) → e.first < 2 ^ 32 → e.now.original < 2 ^ 32
    → ((k : ℕ) → k < 4 → r (a + k) ≡ word_of_record e k) → record_from r a ≡ e
record-back r a e f o w =
    let z : a + 0 ≡ a = omega arith in
    let w₀ : r a ≡ e.first + 2 ^ 32 * e.slot = ap r (sym z) ∙ w 0 (omega arith) in
    let f₀ : r a % 2 ^ 32 ≡ e.first = omega arith in
    let s₀ : r a / 2 ^ 32 ≡ e.slot = omega arith in
    let n : slot_from r (a + 1) ≡ e.now =
    slot-back r (a + 1) e.now o (λ k l. ap r (omega arith) ∙ w (suc k) (omega arith) ∙ record-rest e k) in
    λ i. record { first = f₀ i; slot = s₀ i; now = n i }

pub record-words : (r : ℕ → ℕ) (a k : ℕ) → k < 4 → word_of_record (record_from r a) k ≡ r (a + k)
record-words r a =
    four (λ (k : ℕ). word_of_record (record_from r a) k ≡ r (a + k))
    (let e : a + 0 ≡ a = omega arith in rw e (omega arith))
    (λ k l. record-rest (record_from r a) k ∙ slot-words r (a + 1) k l ∙ ap r (omega arith))

pub record-ext : (r r' : ℕ → ℕ) (a a' : ℕ) → ((k : ℕ) → k < 4 → r (a + k) ≡ r' (a' + k)) → record_from r a ≡ record_from r' a'
record-ext r r' a a' h =
    record-back r a (record_from r' a') (omega arith) (omega arith) (λ k l. h k l ∙ sym (record-words r' a' k l))

-- ---- shapes

-- a slot that owns a page, and one that is free
pub record Owning (z : Sizes) (t : Slot) : Type 0 where
  pub page-low : t.page < z.pages
  pub original-low : t.original < frames z
  pub spare_low : t.spare < frames z
  pub apart : t.original ≡ t.spare → ⊥

pub record Free (z : Sizes) (t : Slot) : Type 0 where
  pub page-none : t.page ≡ no_page
  pub original-none : t.original ≡ no_frame
  pub bitmap-none : t.bitmap ≡ 0
  pub spare_low : t.spare < frames z

pub owning : (z : Sizes) (t : Slot) → is_owning z t ≡ true → Owning z t
owning z t e =
    let h = every_held (ltb t.page z.pages ∷ ltb t.original (frames z) ∷ ltb t.spare (frames z) ∷ not (eqb t.original t.spare) ∷ []) e in
    record { page-low = ltb-true t.page z.pages h.0; original-low = ltb-true t.original (frames z) h.1.0; spare_low = ltb-true t.spare (frames z) h.1.1.0; apart = eqb-false t.original t.spare (not-true (eqb t.original t.spare) h.1.1.1.0) }

pub owning-ok : (z : Sizes) (t : Slot) → Owning z t → is_owning z t ≡ true
owning-ok z t o =
    held-every (ltb t.page z.pages ∷ ltb t.original (frames z) ∷ ltb t.spare (frames z) ∷ not (eqb t.original t.spare) ∷ [])
    (lt-ltb t.page z.pages o.page-low, (lt-ltb t.original (frames z) o.original-low, (lt-ltb t.spare (frames z) o.spare_low, (ap not (ne_eqb t.original t.spare o.apart), tt))))

pub free : (z : Sizes) (t : Slot) → is_free z t ≡ true → Free z t
free z t e =
    let h = every_held (eqb t.page no_page ∷ eqb t.original no_frame ∷ eqb t.bitmap 0 ∷ ltb t.spare (frames z) ∷ []) e in
    record { page-none = eqb-true t.page no_page h.0; original-none = eqb-true t.original no_frame h.1.0; bitmap-none = eqb-true t.bitmap 0 h.1.1.0; spare_low = ltb-true t.spare (frames z) h.1.1.1.0 }

pub free-ok : (z : Sizes) (t : Slot) → Free z t → is_free z t ≡ true
free-ok z t f =
    held-every (eqb t.page no_page ∷ eqb t.original no_frame ∷ eqb t.bitmap 0 ∷ ltb t.spare (frames z) ∷ [])
    (eq-eqb t.page no_page f.page-none, (eq-eqb t.original no_frame f.original-none, (eq-eqb t.bitmap 0 f.bitmap-none, (lt-ltb t.spare (frames z) f.spare_low, tt))))

pub or_cases : (a b : Bool) → a || b ≡ true → (a ≡ true) ⊎ (b ≡ true)
or_cases true b e = inl refl
or_cases false b e = inr e

pub shape : (z : Sizes) (t : Slot) → shaped z t ≡ true → Owning z t ⊎ Free z t
shape z t e = ⊎_elim (λ o. inl (owning z t o)) (λ f. inr (free z t f)) (or_cases (is_owning z t) (is_free z t) e)

pub owning-shaped : (z : Sizes) (t : Slot) → Owning z t → shaped z t ≡ true
owning-shaped z t o = ap (λ (b : Bool). b || is_free z t) (owning-ok z t o)

pub free-shaped : (z : Sizes) (t : Slot) → Free z t → shaped z t ≡ true
free-shaped z t f = ap (λ (b : Bool). is_owning z t || b) (free-ok z t f) ∙ or-true (is_owning z t)

-- a free slot is the free one with its spare
pub free-is : (z : Sizes) (t : Slot) → Free z t → t ≡ free_slot t.spare
free-is z t f =
    let p = f.page-none in
    let o = f.original-none in
    let b = f.bitmap-none in
    λ i. record { page = p i; original = o i; spare = t.spare; bitmap = b i }

-- a shaped slot's numbers fit
pub record Fits (t : Slot) : Type 0 where
  pub page : t.page < 2 ^ 64
  pub original : t.original < 2 ^ 32
  pub spare : t.spare < 2 ^ 32

pub shaped-fits : (z : Sizes) (t : Slot) → Legal z → shaped z t ≡ true → Fits t
shaped-fits z t l e =
    ⊎_elim
    (λ (o : Owning z t). record { page = omega arith; original = omega arith; spare = omega arith })
    (λ (f : Free z t). record { page = omega arith; original = omega arith; spare = omega arith })
    (shape z t e)

-- so its words are words
pub slot-word-lt : (t : Slot) (k : ℕ) → Fits t → t.bitmap < 2 ^ 64 → word_of_slot t k < 2 ^ 64
slot-word-lt t k f b =
    row_keeps (λ (x : ℕ). x < 2 ^ 64) (eqb k 0) t.page (cond (eqb k 1) (t.original + 2 ^ 32 * t.spare) t.bitmap) f.page
    (row_keeps (λ (x : ℕ). x < 2 ^ 64) (eqb k 1) (t.original + 2 ^ 32 * t.spare) t.bitmap (omega arith) b)

pub record-word-lt : (e : Record) (k : ℕ) → e.first < 2 ^ 32 → e.slot < 2 ^ 32 → Fits e.now → e.now.bitmap < 2 ^ 64 → word_of_record e k < 2 ^ 64
record-word-lt e k p s f b =
    row_keeps (λ (x : ℕ). x < 2 ^ 64) (eqb k 0) (e.first + 2 ^ 32 * e.slot) (word_of_slot e.now (k - 1)) (omega arith)
    (slot-word-lt e.now (k - 1) f b)

-- a record's parts fit its words
abbrev pub RecordFits : Record → Type 0
RecordFits e = (e.first < 2 ^ 32) × (e.slot < 2 ^ 32) × (e.now.original < 2 ^ 32) × (e.now.spare < 2 ^ 32)
