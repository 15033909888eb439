-- Lines of 64 bytes: a line's bytes, and a line with data laid over it.
use Rattle.std.specs.Prelude.{ℕ, ◌*◌, Bool, not, List, eqb, take, get_or}
use Rattle.bounded.specs.Below.{some_below}
use Rattle.layout.specs.declared.Sizes.{Sizes}
use Rattle.layout.specs.Layout.{line_word}
use Rattle.words.specs.Words.{part, over, words_at}

-- the 64 bytes of line l of frame f
abbrev pub line_bytes : List ℕ → Sizes → ℕ → ℕ → List ℕ
line_bytes img z f l = part img (8 * line_word z f l) 64

-- a line with the data's first n bytes laid over it from an offset on
abbrev pub merged : List ℕ → ℕ → ℕ → List ℕ → List ℕ
merged line offset n bytes = over line offset (take n bytes)

-- whether two lists differ at a place below n
abbrev pub differ : ℕ → List ℕ → List ℕ → Bool
differ n xs ys = some_below n (λ i. not (eqb (get_or xs i 0) (get_or ys i 0)))

-- whether the data change any byte of the line
unfoldable pub merge_changes : List ℕ → ℕ → ℕ → List ℕ → Bool
merge_changes line offset n bytes = differ 64 (merged line offset n bytes) line

-- the eight words of a line
abbrev pub line_words : List ℕ → List ℕ
line_words line = words_at line 0 8
