-- The fresh image (document 01, "Fresh"), and format on any sizes and any bytes lent (rows 3 and 4).
use Rattle.std.specs.Prelude.{ℕ, ◌+◌, ◌-◌, ◌*◌, ◌/◌, ◌%◌, ◌||◌, not, cond, List, [], ◌∷◌, ◌++◌, ltb, leb, eqb, length, get_or, replicate}
use Rattle.bounded.specs.Below.{up_to}
use Rattle.bounded.specs.Tab.{tab}
use Rattle.bounded.specs.Rows.{Row, refusal}
use Rattle.layout.specs.declared.Sizes.{Sizes}
use Rattle.layout.specs.Layout.{sizes_ok, layout_of, layout_word, slot_word, image_words, image_length}
use Rattle.words.specs.Words.{over, flat, store}
use Rattle.replay.specs.declared.Table.{Table}
use Rattle.journal.specs.Slots.{free_slot, word_of_slot}
use Rattle.replay.specs.Table.{with_slot, empty_table}
use Rattle.replay.specs.Map.{map_from}

-- head and tail 0, no entry counted
abbrev pub fresh_header : Sizes → List ℕ
fresh_header z = z.pages ∷ z.slots ∷ z.places ∷ layout_of z ∷ 0 ∷ 0 ∷ 0 ∷ z.entries ∷ []

-- page i in frame i
abbrev pub fresh_pages : Sizes → List ℕ
fresh_pages z = tab z.pages (λ p. p)

-- slot s free with spare P + s
abbrev pub fresh_slot : Sizes → ℕ → ℕ
fresh_slot z i = word_of_slot (free_slot (z.pages + i / 3)) (i % 3)

-- all else zero
unfoldable pub fresh_words : Sizes → List ℕ
fresh_words z =
    fresh_header z ++ (fresh_pages z ++ (tab (3 * z.slots) (fresh_slot z) ++ replicate (image_words z - slot_word z z.slots) 0))

abbrev pub fresh_word : Sizes → ℕ → ℕ
fresh_word z a = get_or (fresh_words z) a 0

-- ---- format, store by store (document 02, L6): the layout word 0 first, every other word rising, the layout word last

-- the word that store i goes to, and its value. From store 8 on a store's number is its word's
unfoldable pub format_at : Sizes → ℕ → ℕ
format_at z i = cond (eqb i 0 || eqb i (image_words z)) layout_word (cond (leb i 3) (i - 1) i)

unfoldable pub format_value : Sizes → ℕ → ℕ
format_value z i = cond (eqb i 0) 0 (fresh_word z (format_at z i))

-- the lent bytes with the first n stores made
unfoldable pub format_stores : Sizes → ℕ → List ℕ → List ℕ
format_stores z n buffer = up_to n (λ i m. store m (format_at z i) (format_value z i)) buffer

-- ---- the whole of it

-- the lent bytes with a fresh image at their start; bytes past it are kept
unfoldable pub formatted : Sizes → List ℕ → List ℕ
formatted z buffer = over buffer 0 (flat (fresh_words z))

-- the slots of a fresh image
unfoldable pub fresh_table : Sizes → Table
fresh_table z = up_to z.slots (λ s t. with_slot t s (free_slot (z.pages + s))) empty_table

-- and its map: page i in frame i
abbrev pub fresh_map : Sizes → List ℕ
fresh_map z = map_from z.pages (λ p. p)

abbrev pub format_rows : Sizes → ℕ → List Row
format_rows z n = (not (sizes_ok z), 3) ∷ (ltb n (image_length z), 4) ∷ []

-- the row that turns format back, and what it leaves in the bytes lent
abbrev pub format_row : Sizes → List ℕ → ℕ
format_row z buffer = refusal (format_rows z (length buffer))

abbrev pub format_bytes : Sizes → List ℕ → List ℕ
format_bytes z buffer = cond (eqb (format_row z buffer) 0) (formatted z buffer) buffer
