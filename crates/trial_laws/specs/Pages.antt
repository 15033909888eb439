-- What rounds leave in the pages: where none is abandoned it depends on the rounds alone, so settings given the same rounds end with equal bytes in
-- the pages that both have (request L11).
use Rattle.std.specs.Prelude.{ℕ, ◌+◌, ◌%◌, ◌<◌, ◌≤◌, Bool, true, false, cond, ◌&&◌, ◌||◌, List, [], ◌∷◌, ◌≡◌, eqb, length, take, replicate}
use Rattle.bounded.specs.Tab.{tab}
use Rattle.words.specs.Words.{Bytes}
use Rattle.refinement.specs.Stores.{World}
use Rattle.refinement.specs.Run.{recall, exec}
use Rattle.trial_lines.specs.Lines.{Work, first, numbers_of, sizes_of, act}

-- the 64 bytes of line l of page p, as a recall shows them: it mounts
unfoldable pub line_shown : World → ℕ → ℕ → List ℕ
line_shown v p l = (exec (recall p l (replicate 64 0)) v).target

-- lines taken one after the other
unfoldable pub after : List (List ℕ) → Work → Work
after [] w = w
after (line ∷ lines) w = after lines (act w line)

-- the pages that a line lists
abbrev pub pages_of : List ℕ → List ℕ
pages_of line = take (numbers_of line).count (numbers_of line).numbers

unfoldable pub is_listed : List ℕ → ℕ → Bool
is_listed [] p = false
is_listed (q ∷ qs) p = eqb p q || is_listed qs p

-- bytes by page, line and offset, in which byte 0 of line 0 of each page listed becomes b
abbrev pub marked : List ℕ → ℕ → (ℕ → ℕ → ℕ → ℕ) → ℕ → ℕ → ℕ → ℕ
marked ps b f p l i = cond (is_listed ps p && eqb l 0 && eqb i 0) b (f p l i)

-- rounds numbered from n on
unfoldable pub left_by : ℕ → List (List ℕ) → (ℕ → ℕ → ℕ → ℕ) → ℕ → ℕ → ℕ → ℕ
left_by n [] f = f
left_by n (line ∷ lines) f = left_by (n + 1) lines (marked (pages_of line) (n % 256) f)

-- pages are at first zero
abbrev pub zeros : ℕ → ℕ → ℕ → ℕ
zeros p l i = 0

-- a setting that is taken in a buffer of bytes, and at most 1,000 rounds of which none is abandoned
pub record Given (buffer setting : List ℕ) (rounds : List (List ℕ)) : Type 0 where
  pub bytes : Bytes buffer
  pub taken : (act (first buffer) setting).set ≡ true
  pub few : length rounds ≤ 1000
  pub done : (after rounds (act (first buffer) setting)).tried.abandoned ≡ 0

-- the world at their end, and whether the setting has page p
abbrev pub end_of : List ℕ → List ℕ → List (List ℕ) → World
end_of buffer setting rounds = (after rounds (act (first buffer) setting)).tried.world

abbrev pub Has : List ℕ → ℕ → Type 0
Has setting p = p < (sizes_of (numbers_of setting)).pages

-- what is shown is what the rounds write
abbrev pub ShownByRounds : Type 0
ShownByRounds =
    (buffer setting : List ℕ) (rounds : List (List ℕ)) → Given buffer setting rounds
    → (p l : ℕ) → Has setting p → l < 64 → line_shown (end_of buffer setting rounds) p l ≡ tab 64 (left_by 1 rounds zeros p l)

-- whatever the settings
abbrev pub EqualBytes : Type 0
EqualBytes =
    (buffer buffer' setting setting' : List ℕ) (rounds : List (List ℕ)) → Given buffer setting rounds → Given buffer' setting' rounds
    → (p l : ℕ) → Has setting p → Has setting' p → l < 64
    → line_shown (end_of buffer setting rounds) p l ≡ line_shown (end_of buffer' setting' rounds) p l
