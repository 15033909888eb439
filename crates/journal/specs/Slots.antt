-- Slots: the three words of one, and its two shapes (document 01, "The image" and row 6).
use Rattle.std.specs.Prelude.{ℕ, ◌+◌, ◌-◌, ◌*◌, ◌/◌, ◌%◌, ◌^◌, Bool, ◌&&◌, ◌||◌, not, cond, ltb, eqb}
use Rattle.layout.specs.declared.Sizes.{Sizes}
use Rattle.layout.specs.Layout.{frames}
use Rattle.journal.specs.declared.Slot.{Slot}

-- what a free slot has for its page and its original
abbrev pub no_page : ℕ
no_page = 2 ^ 64 - 1

abbrev pub no_frame : ℕ
no_frame = 2 ^ 32 - 1

-- the slot in the three words from word a on, read through r: page; original + 2 ^ 32 × spare; bitmap
abbrev pub slot_from : (ℕ → ℕ) → ℕ → Slot
slot_from r a = record { page = r a; original = r (a + 1) % 2 ^ 32; spare = r (a + 1) / 2 ^ 32; bitmap = r (a + 2) }

-- the k-th of a slot's three words
abbrev pub word_of_slot : Slot → ℕ → ℕ
word_of_slot t k = cond (eqb k 0) t.page (cond (eqb k 1) (t.original + 2 ^ 32 * t.spare) t.bitmap)

-- the free slot with spare f
abbrev pub free_slot : ℕ → Slot
free_slot f = record { page = no_page; original = no_frame; spare = f; bitmap = 0 }

-- owning: page < P, frames < F and different
abbrev pub is_owning : Sizes → Slot → Bool
is_owning z t = ltb t.page z.pages && ltb t.original (frames z) && ltb t.spare (frames z) && not (eqb t.original t.spare)

-- free: as above, spare < F
abbrev pub is_free : Sizes → Slot → Bool
is_free z t = eqb t.page no_page && eqb t.original no_frame && eqb t.bitmap 0 && ltb t.spare (frames z)

abbrev pub shaped : Sizes → Slot → Bool
shaped z t = is_owning z t || is_free z t
