-- The slots as mount makes them: the slot table, then the live records in order, each replacing its slot and becoming
-- its last record.
use Rattle.std.specs.Prelude.{ℕ, ◌-◌, ◌^◌, Bool, ◌&&◌, ◌||◌, not, cond, List, ◌++◌, ltb, eqb, get_or, set, replicate}
use Rattle.bounded.specs.Below.{up_to, all_below, first_below}
use Rattle.bounded.specs.Tab.{tab}
use Rattle.bounded.specs.Count.{each_once}
use Rattle.layout.specs.declared.Sizes.{Sizes}
use Rattle.layout.specs.Layout.{frames, slot_word}
use Rattle.journal.specs.declared.Slot.{Slot}
use Rattle.journal.specs.declared.Record.{Record}
use Rattle.replay.specs.declared.Table.{Table}
use Rattle.journal.specs.Slots.{no_page, slot_from, shaped}
use Rattle.journal.specs.Records.{position}

-- no last record
abbrev pub no_position : ℕ
no_position = 2 ^ 64 - 1

-- slot s of a table, and a table with slot s replaced
abbrev pub slot_in : Table → ℕ → Slot
slot_in t s = record { page = get_or t.page s 0; original = get_or t.original s 0; spare = get_or t.spare s 0; bitmap = get_or t.bitmap s 0 }

abbrev pub with_slot : Table → ℕ → Slot → Table
with_slot t s v =
    record {
      page = set t.page s v.page;
      original = set t.original s v.original;
      spare = set t.spare s v.spare;
      bitmap = set t.bitmap s v.bitmap;
      last = t.last;
    }

-- the position of slot s's last live record, and a table with it replaced
abbrev pub last_in : Table → ℕ → ℕ
last_in t s = get_or t.last s no_position

abbrev pub with_last : Table → ℕ → ℕ → Table
with_last t s q =
    record { page = t.page; original = t.original; spare = t.spare; bitmap = t.bitmap; last = set t.last s q }

-- places past S are 0, and have no last record
abbrev pub empty_table : Table
empty_table =
    record { page = replicate 16 0; original = replicate 16 0; spare = replicate 16 0; bitmap = replicate 16 0; last = replicate 16 no_position }

-- the slot table, read through r
unfoldable pub table_from : (ℕ → ℕ) → Sizes → Table
table_from r z = up_to z.slots (λ s t. with_slot t s (slot_from r (slot_word z s))) empty_table

-- record e, at position q, replaces its slot
abbrev pub replaced : Table → Record → ℕ → Table
replaced t e q = with_last (with_slot t e.slot e.now) e.slot q

-- n records e, from position tail on, in order
unfoldable pub replay : Sizes → ℕ → ℕ → (ℕ → Record) → Table → Table
replay z tail n e t = up_to n (λ i u. replaced u (e i) (position z tail i)) t

-- the table of four arrays: where the last records do not matter
abbrev pub slots_of_arrays : List ℕ → List ℕ → List ℕ → List ℕ → Table
slots_of_arrays page original spare bitmap =
    record { page = page; original = original; spare = spare; bitmap = bitmap; last = replicate 16 no_position }

-- ---- row 7

-- each slot has a shape
abbrev pub slots_shaped : Sizes → Table → Bool
slots_shaped z t = all_below z.slots (λ s. shaped z (slot_in t s))

-- no page in two slots: the page of slot s, where it has one, is that of no slot below s
abbrev pub page_apart : List ℕ → ℕ → Bool
page_apart page s = eqb (get_or page s 0) no_page || all_below s (λ k. not (eqb (get_or page s 0) (get_or page k 0)))

abbrev pub pages_apart : Sizes → List ℕ → Bool
pages_apart z page = all_below z.slots (page_apart page)

-- the slot of page p: S where it has none
abbrev pub slot_of : Sizes → Table → ℕ → ℕ
slot_of z t p = first_below z.slots (λ s. eqb (slot_in t s).page p)

-- page p's home: its slot's original, or its own frame, which is h p, if it has no slot
abbrev pub home_of : (ℕ → ℕ) → Sizes → Table → ℕ → ℕ
home_of h z t p = cond (ltb (slot_of z t p) z.slots) (slot_in t (slot_of z t p)).original (h p)

-- the names of frames: the spares, then the homes
unfoldable pub frame_names : (ℕ → ℕ) → Sizes → Table → List ℕ
frame_names h z t = tab z.slots (λ s. (slot_in t s).spare) ++ tab z.pages (home_of h z t)

-- spares and homes name each frame once
abbrev pub table_ok : (ℕ → ℕ) → Sizes → Table → Bool
table_ok h z t = slots_shaped z t && (pages_apart z t.page && each_once (frames z) (frame_names h z t))
