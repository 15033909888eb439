-- Document 01, "The image": the sizes and where each word lies. Places are numbered in words of 8 bytes from the
-- image's start, so that every address is aligned.
use Rattle.std.specs.Prelude.{ℕ, ◌+◌, ◌*◌, ◌/◌, ◌%◌, ◌≤◌, Bool, ◌&&◌, cond, leb, eqb}
use Rattle.layout.specs.declared.Sizes.{Sizes}

-- P pages 1 to 1,024; S slots 1 to 16; J journal places, S to 256; L entries, 0 to 64 (document 02, L14)
abbrev pub sizes_ok : Sizes → Bool
sizes_ok z =
    leb 1 z.pages && leb z.pages 1024 && leb 1 z.slots && leb z.slots 16 && leb z.slots z.places && leb z.places 256 && leb z.entries 64

-- the same as facts
pub record Legal (z : Sizes) : Type 0 where
  pub pages-low : 1 ≤ z.pages
  pub pages-high : z.pages ≤ 1024
  pub slots-low : 1 ≤ z.slots
  pub slots-high : z.slots ≤ 16
  pub places-low : z.slots ≤ z.places
  pub places-high : z.places ≤ 256
  pub entries-high : z.entries ≤ 64

-- F = P + S
abbrev pub frames : Sizes → ℕ
frames z = z.pages + z.slots

-- layout 1 has no entries, layout 2 has them
abbrev pub layout_of : Sizes → ℕ
layout_of z = cond (eqb z.entries 0) 1 2

-- the header's words: P, S, J, layout, head, tail; then, of layout 2, how many entries are committed and not yet copied, and L. Layout 1 has two that
-- are not read
abbrev pub pages_word : ℕ
pages_word = 0

abbrev pub slots_word : ℕ
slots_word = 1

abbrev pub places_word : ℕ
places_word = 2

abbrev pub layout_word : ℕ
layout_word = 3

abbrev pub head_word : ℕ
head_word = 4

abbrev pub tail_word : ℕ
tail_word = 5

abbrev pub count_word : ℕ
count_word = 6

abbrev pub entries_word : ℕ
entries_word = 7

-- the page table's word of page p
abbrev pub page_word : ℕ → ℕ
page_word p = 8 + p

-- the first of the three words of slot s
abbrev pub slot_word : Sizes → ℕ → ℕ
slot_word z s = 8 + z.pages + 3 * s

-- the place of a position, and the first of its four words
abbrev pub place_of : Sizes → ℕ → ℕ
place_of z q = q % z.places

abbrev pub record_word : Sizes → ℕ → ℕ
record_word z q = 8 + z.pages + 3 * z.slots + 4 * place_of z q

-- where the padding starts, and the first frame: a multiple of 8 words
abbrev pub padding_word : Sizes → ℕ
padding_word z = 8 + z.pages + 3 * z.slots + 4 * z.places

abbrev pub frame_word : Sizes → ℕ
frame_word z = (padding_word z + 7) / 8 * 8

-- the first of the eight words of line l of frame f
abbrev pub line_word : Sizes → ℕ → ℕ → ℕ
line_word z f l = frame_word z + 512 * f + 8 * l

-- the first of the nine words of entry e, which follow the frames: page × 64 + line, then the line
abbrev pub entry_word : Sizes → ℕ → ℕ
entry_word z e = frame_word z + 512 * frames z + 9 * e

-- the image's length, in words and in bytes
abbrev pub image_words : Sizes → ℕ
image_words z = entry_word z z.entries

abbrev pub image_length : Sizes → ℕ
image_length z = 8 * image_words z
