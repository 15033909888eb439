-- The listing of request L9: for every sequence of n calls, rising, a line for each cut of its last call.
use Rattle.std.specs.Prelude.{ℕ, ◌+◌, ◌^◌, cond, List, [], ◌∷◌, ◌++◌, eqb, length}
use Prim.Native.Char.{code}
use Rattle.decimals.specs.Decimal.{decimal_of}
use Rattle.number_text.specs.Text.{each}
use Rattle.sequences.specs.Sequences.{sequence}
use Rattle.sequence_runs.specs.Runs.{Ran, start, ran, first_byte}

-- a number in decimals and the mark after it
abbrev pub marked : ℕ → ℕ → List ℕ
marked x mark = decimal_of x ++ (mark ∷ [])

-- decimals parted by commas, and a newline after the last
unfoldable pub parted : List ℕ → List ℕ
parted [] = []
parted (x ∷ xs) = marked x (cond (eqb (length xs) 0) (code "\n") (code ",")) ++ parted xs

-- a line's numbers: calls, answers, cut and the first bytes of both lines after a mount
abbrev pub numbers_of : List ℕ → ℕ → Ran → List ℕ
numbers_of calls k r = calls ++ (r.answers ++ (k ∷ first_byte r.world 0 ∷ first_byte r.world 1 ∷ []))

-- the line of a sequence whose last call is cut after k stores
unfoldable pub line_of : List ℕ → ℕ → List ℕ
line_of calls k = parted (numbers_of calls k (ran k calls start))

-- the stores that its last call needs
abbrev pub needed_by : List ℕ → ℕ
needed_by calls = (ran 0 calls start).needed

-- the lines of a sequence: a cut after 0 stores, 1, .. all that the last call needs
unfoldable pub lines_of : List ℕ → List ℕ
lines_of calls = each (needed_by calls + 1) (line_of calls)

-- the whole
unfoldable pub listing : ℕ → List ℕ
listing n = each (12 ^ n) (λ i. lines_of (sequence n i))
