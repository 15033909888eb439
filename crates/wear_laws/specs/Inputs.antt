-- An input of program wear_by_frame (document 02, L12), as bytes: what it comes to, and the inputs of powerhit that are in it.
use Rattle.std.specs.Prelude.{ℕ, ◌+◌, cond, List, [], ◌∷◌, ◌++◌, eqb, get_or}
use Rattle.cutting.specs.Feeding.{Fed, fed, ended}
use Rattle.wear_lines.specs.Lines.{Work, first, parts, act}

-- before the first byte
abbrev pub unfed : {W : Type 0} → W → Fed W
unfed w = record { done = w; begun = [] }

-- what an input comes to, with a buffer of so many bytes
abbrev pub worked : ℕ → List ℕ → Work
worked size input = ended act (fed act (unfed (first size)) input)

-- number k of the 22
abbrev pub number : ℕ → List ℕ → ℕ → ℕ
number size input k = get_or (worked size input).worn k 0

-- the inputs that lines `=` part, each with its newlines: of the one that has begun `whole` are the lines, and `begun` is what has come of the next line
unfoldable pub inputs_from : List ℕ → List ℕ → List ℕ → List (List ℕ)
inputs_from whole begun [] = cond (parts begun) whole (whole ++ begun) ∷ []
inputs_from whole begun (b ∷ bytes) =
    cond (eqb b 10)
    (cond (parts begun) (whole ∷ inputs_from [] [] bytes) (inputs_from (whole ++ (begun ++ (10 ∷ []))) [] bytes))
    (inputs_from whole (begun ++ (b ∷ [])) bytes)

abbrev pub inputs_of : List ℕ → List (List ℕ)
inputs_of input = inputs_from [] [] input

-- how many lines there are
abbrev pub lines_of : List ℕ → ℕ
lines_of input = ended (λ (n : ℕ) line. n + 1) (fed (λ (n : ℕ) line. n + 1) (unfed 0) input)
