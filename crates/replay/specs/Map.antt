-- The frames of the pages: in an image the page table, in a state its map (document 02, L5).
use Rattle.std.specs.Prelude.{ℕ, ◌-◌, Bool, ◌||◌, List, ◌++◌, eqb, replicate}
use Rattle.bounded.specs.Below.{all_below}
use Rattle.bounded.specs.Tab.{tab}
use Rattle.layout.specs.declared.Sizes.{Sizes}
use Rattle.layout.specs.Layout.{page_word}
use Rattle.replay.specs.declared.Table.{Table}
use Rattle.journal.specs.Slots.{no_page}
use Rattle.replay.specs.Table.{slot_in}

-- page p's own frame by the page table, words being read through r
abbrev pub page_frames : (ℕ → ℕ) → ℕ → ℕ
page_frames r p = r (page_word p)

-- the map of n pages with the frames f 0, f 1, ..; entries past them are 0
unfoldable pub map_from : ℕ → (ℕ → ℕ) → List ℕ
map_from n f = tab n f ++ replicate (1024 - n) 0

-- row 8: a slotted page's own frame, which is h p, is its slot's original
abbrev pub original_kept : (ℕ → ℕ) → Table → ℕ → Bool
original_kept h t s = eqb (slot_in t s).page no_page || eqb (h (slot_in t s).page) (slot_in t s).original

abbrev pub originals_kept : (ℕ → ℕ) → Sizes → Table → Bool
originals_kept h z t = all_below z.slots (original_kept h t)

-- the spares, then the pages' own frames, which then are the homes
unfoldable pub names_kept : (ℕ → ℕ) → Sizes → Table → List ℕ
names_kept h z t = tab z.slots (λ s. (slot_in t s).spare) ++ tab z.pages h
