-- An input of program try_sizes (request L11), as bytes: its lines, of which the first is the setting and the next 1,000 at most are rounds.
use Rattle.std.specs.Prelude.{ℕ, ◌<◌, true, cond, List, [], ◌∷◌, ◌++◌, ◌≡◌, eqb, length, get_or, take, drop}
use Rattle.words.specs.Words.{Bytes}
use Rattle.cutting.specs.Feeding.{fed, ended}
use Rattle.trial_lines.specs.Lines.{Work, first, act}
use Rattle.trial_laws.specs.Pages.{line_shown, Has}

-- what an input comes to, with this buffer at first (try_sizes, `Responds`)
abbrev pub worked : List ℕ → List ℕ → Work
worked buffer input = ended act (fed act (record { done = first buffer; begun = [] }) input)

-- its lines: a newline ends each but the last, which is one where it has a byte; `begun` is what has come of the next one
unfoldable pub lines_from : List ℕ → List ℕ → List (List ℕ)
lines_from begun [] = cond (eqb (length begun) 0) [] (begun ∷ [])
lines_from begun (b ∷ bytes) = cond (eqb b 10) (begun ∷ lines_from [] bytes) (lines_from (begun ++ (b ∷ [])) bytes)

abbrev pub setting_of : List ℕ → List ℕ
setting_of input = get_or (lines_from [] input) 0 []

abbrev pub rounds_of : List ℕ → List (List ℕ)
rounds_of input = take 1000 (drop 1 (lines_from [] input))

-- an input whose setting is taken, in a buffer of bytes, and of whose rounds none is abandoned
pub record GivenInput (buffer input : List ℕ) : Type 0 where
  pub bytes : Bytes buffer
  pub taken : (worked buffer input).set ≡ true
  pub done : (worked buffer input).tried.abandoned ≡ 0

-- two such inputs with equal rounds, whatever their settings: equal bytes in the pages that both have
abbrev pub EqualInputs : Type 0
EqualInputs =
    (buffer buffer' input input' : List ℕ) → GivenInput buffer input → GivenInput buffer' input' → rounds_of input ≡ rounds_of input'
    → (p l : ℕ) → Has (setting_of input) p → Has (setting_of input') p → l < 64
    → line_shown (worked buffer input).tried.world p l ≡ line_shown (worked buffer' input').tried.world p l
