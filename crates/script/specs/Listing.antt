-- Document 01's listing of program powerhit, on an image of just the length that its sizes need.
use Rattle.std.specs.Prelude.{ℕ, suc, List, [], ◌∷◌}
use Prim.Native.Char.{code}
use Prim.Native.String.{String, [] as none, ◌∷◌ as ◌then◌}
use Rattle.executing.specs.Called.{Machine}
use Rattle.printing.specs.Output.{output_line}
use Rattle.script.specs.Performed.{line_turn}

-- the bytes of a text of ASCII characters
unfoldable pub text : String → List ℕ
text none = []
text (c then s) = code c ∷ text s

-- what lines print, from number n on
unfoldable pub printed : ℕ → Machine → List ℕ → List (List ℕ) → List (List ℕ)
printed n m img [] = []
printed n m img (line ∷ lines) =
    let t = line_turn m img line in
    output_line n t.output ∷ printed (suc n) t.machine t.image lines

abbrev pub input : List (List ℕ)
input =
    text "F,2,1,2" ∷ text "B,0" ∷ text "W,0,0,0,0,1,165" ∷ text "K,4" ∷ text "C,0" ∷ text "R,0,0,0,0"
    ∷ text "B,0" ∷ text "W,0,0,0,0,1,165" ∷ text "C,0" ∷ text "X" ∷ text "R,0,0,0,0" ∷ []

abbrev pub output : List (List ℕ)
output =
    text "1,F,0,1561,-\n" ∷ text "2,B,0,0,-\n" ∷ text "3,W,0,8,-\n" ∷ text "4,K,0,0,-\n" ∷ text "5,C,0,4,-\n" ∷ text "6,R,0,0,0\n"
    ∷ text "7,B,0,0,-\n" ∷ text "8,W,0,8,-\n" ∷ text "9,C,0,5,-\n" ∷ text "10,X,0,0,-\n" ∷ text "11,R,0,0,165\n" ∷ []
