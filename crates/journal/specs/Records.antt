-- The journal: positions, live records, and what makes a live record right (document 01, "The image" and rows 5 and 6).
use Rattle.std.specs.Prelude.{ℕ, ◌+◌, ◌-◌, ◌*◌, ◌/◌, ◌%◌, ◌^◌, Bool, ◌&&◌, ◌||◌, not, cond, ltb, leb, eqb}
use Rattle.bounded.specs.Below.{all_below}
use Rattle.layout.specs.declared.Sizes.{Sizes}
use Rattle.layout.specs.Layout.{record_word}
use Rattle.journal.specs.declared.Record.{Record}
use Rattle.journal.specs.Slots.{slot_from, word_of_slot, shaped}

-- positions lie in 0 to 2J − 1: the one i after `from`, and how many are live
abbrev pub position : Sizes → ℕ → ℕ → ℕ
position z from i = (from + i) % (2 * z.places)

abbrev pub live_count : Sizes → ℕ → ℕ → ℕ
live_count z head tail = (head + 2 * z.places - tail) % (2 * z.places)

-- row 5: head and tail below 2J, at most J live
abbrev pub positions_ok : Sizes → ℕ → ℕ → Bool
positions_ok z head tail = ltb head (2 * z.places) && ltb tail (2 * z.places) && leb (live_count z head tail) z.places

-- the record in the four words from word a on, read through r: first + 2 ^ 32 × slot, then the slot's words
abbrev pub record_from : (ℕ → ℕ) → ℕ → Record
record_from r a = record { first = r a % 2 ^ 32; slot = r a / 2 ^ 32; now = slot_from r (a + 1) }

-- the k-th of a record's four words
abbrev pub word_of_record : Record → ℕ → ℕ
word_of_record e k = cond (eqb k 0) (e.first + 2 ^ 32 * e.slot) (word_of_slot e.now (k - 1))

-- the i-th live record
unfoldable pub live_record : (ℕ → ℕ) → Sizes → ℕ → ℕ → Record
live_record r z tail i = record_from r (record_word z (position z tail i))

-- "first" of the i-th live record e, at position own, with the record before it: its own position, or its
-- predecessor's with a higher slot
abbrev pub first_right : ℕ → ℕ → Record → Record → Bool
first_right own i before e =
    eqb e.first own || (not (eqb i 0) && eqb e.first before.first && ltb before.slot e.slot)

-- row 6, of one record: slot < S, a right "first" and a shape
abbrev pub record_right : Sizes → ℕ → ℕ → Record → Record → Bool
record_right z own i before e = ltb e.slot z.slots && first_right own i before e && shaped z e.now

-- of record i of the records e, and of n live records
abbrev pub first_ok : Sizes → ℕ → (ℕ → Record) → ℕ → Bool
first_ok z tail e i = first_right (position z tail i) i (e (i - 1)) (e i)

abbrev pub record_ok : Sizes → ℕ → (ℕ → Record) → ℕ → Bool
record_ok z tail e i = record_right z (position z tail i) i (e (i - 1)) (e i)

unfoldable pub records_ok : Sizes → ℕ → ℕ → (ℕ → Record) → Bool
records_ok z tail n e = all_below n (record_ok z tail e)
