-- Lines cut out of input that comes in pieces of any size.
use Rattle.std.specs.Prelude.{ℕ, ◌+◌, ◌-◌, min, List, length, take, drop}
use Rattle.cutting.specs.Finding.{index_of}
use Rattle.words.specs.Words.{part}

-- the place of the first newline from `from` on, or the input's length where there is none
unfoldable pub line_end : List ℕ → ℕ → ℕ
line_end input from = min from (length input) + index_of 10 (drop from input)

-- the input's bytes from `from` up to `to`, as many as a line has room for after its first `have` bytes
unfoldable pub fitting : List ℕ → ℕ → List ℕ → ℕ → ℕ → List ℕ
fitting line have input from to = take (length line - have) (part input from (to - from))
