-- The line that a line prints: its number, the call, the answer, the stores made, the byte read or a dash.
use Rattle.std.specs.Prelude.{ℕ, List, [], ◌∷◌, ◌++◌}
use Prim.Native.Char.{Char, code}
use Rattle.decimals.specs.Decimal.{decimal_of}
use Rattle.printing.specs.declared.Output.{Output}
use Rattle.printing.specs.declared.Output.TheVariants.{Answered, Shown, Unknown}

-- fields, each after a comma, and a newline
abbrev pub commas : List (List ℕ) → List ℕ
commas [] = code "\n" ∷ []
commas (f ∷ fs) = code "," ∷ f ++ commas fs

-- a field of one byte
abbrev pub sign : Char → List ℕ
sign c = code c ∷ []

-- call, answer, stores, byte
abbrev pub fields_of : Output → List (List ℕ)
fields_of (Answered letter number stores) = (letter ∷ []) ∷ decimal_of number ∷ decimal_of stores ∷ sign "-" ∷ []
fields_of (Shown byte) = sign "R" ∷ decimal_of 0 ∷ decimal_of 0 ∷ decimal_of byte ∷ []
fields_of Unknown = sign "?" ∷ sign "?" ∷ decimal_of 0 ∷ sign "-" ∷ []

unfoldable pub output_line : ℕ → Output → List ℕ
output_line n output = decimal_of n ++ commas (fields_of output)
