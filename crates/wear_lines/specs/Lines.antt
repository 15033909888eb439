-- The lines of program wear_by_frame (document 02, L12): inputs of powerhit, parted by lines `=`; and the 22 numbers that are printed.
use Rattle.std.specs.Prelude.{ℕ, ◌+◌, ◌%◌, ◌^◌, Bool, cond, ◌&&◌, List, [], ◌∷◌, ◌++◌, eqb, length, get_or, replicate}
use Prim.Native.Char.{code}
use Rattle.bounded.specs.Tab.{tab}
use Rattle.text.specs.declared.Line.{Line}
use Rattle.text.specs.Fields.{parsed}
use Rattle.decimals.specs.Decimal.{decimal_of}
use Rattle.number_text.specs.Text.{each}
use Rattle.executing.specs.Called.{Machine}
use Rattle.script.specs.Turns.{turn_of}
use Rattle.script.specs.Performed.{started}
use Rattle.wear.specs.Wear.{line_wear}

-- what the lines so far came to: powerhit's machine and its buffer, and the 22 numbers over all inputs
pub record Work : Type 0 where
  pub machine : Machine
  pub image : List ℕ
  pub worn : List ℕ

-- an input starts before any F, with a buffer of zeros and no K
unfoldable pub opening : ℕ → List ℕ → Work
opening size worn = record { machine = started; image = replicate size 0; worn = worn }

-- before the first line
abbrev pub first : ℕ → Work
first size = opening size (replicate 22 0)

-- a line of powerhit, with its numbers read
unfoldable pub turned : Line → Work → Work
turned line w =
    let t = turn_of w.machine w.image line in
    record {
      machine = t.machine;
      image = t.image;
      worn = tab 22 (λ k. get_or w.worn k 0 + line_wear w.machine w.image line k);
    }

-- a line that parts inputs is exactly `=`
abbrev pub parts : List ℕ → Bool
parts line = eqb (length line) 1 && eqb (get_or line 0 0) (code "=")

-- one line more; a number has 1 to 9 digits, as in powerhit
unfoldable pub act : Work → List ℕ → Work
act w line = cond (parts line) (opening (length w.image) w.worn) (turned (parsed 9 line) w)

-- ---- what is printed: the 22 numbers, one a line. A number is printed as a machine word

abbrev pub ended : ℕ → List ℕ
ended v = decimal_of v ++ (code "\n" ∷ [])

abbrev pub number_line : ℕ → List ℕ
number_line v = ended (v % 2 ^ 64)

unfoldable pub response : Work → List ℕ
response w = each 22 (λ k. number_line (get_or w.worn k 0))
