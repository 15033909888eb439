-- What a line prints: its number, its call, the answer, a count and a last field, parted by commas, and a newline.
use Rattle.std.specs.Prelude.{ℕ, List, [], ◌∷◌, ◌++◌, Option, Some, None}
use Prim.Native.Char.{code}
use Rattle.bounded.specs.Below.{one}
use Rattle.state.specs.State.{State}
use Rattle.decimals.specs.Decimal.{decimal_of}
use Rattle.workbench.specs.declared.Said.TheVariants.{Answered, Store, Hash, Numbers}
use Rattle.workbench.specs.declared.Said.{Said}
use Rattle.workbench.specs.Turns.{Turn}
use Rattle.number_text.specs.Text.{field}
use Rattle.printing.specs.Output.{output_line}
use Rattle.printing.specs.declared.Output.TheVariants as output
use Rattle.state_text.specs.Numbers.{state_field}

-- a line before its last field, with answer 0
abbrev pub shown_start : ℕ → ℕ → ℕ → List ℕ
shown_start n letter count = decimal_of n ++ (code "," ∷ letter ∷ (field 0 ++ field count))

abbrev pub shown_line : ℕ → ℕ → ℕ → List ℕ → List ℕ
shown_line n letter count last = shown_start n letter count ++ (last ++ (code "\n" ∷ []))

-- an answer, and a line of another form, are printed as powerhit's are; of a store its word is the count, and the last field 1 where it decides
abbrev pub said_line : ℕ → ℕ → Option Said → State → List ℕ
said_line n letter None st = output_line n output.Unknown
said_line n letter (Some (Answered number count)) st = output_line n (output.Answered letter number count)
said_line n letter (Some (Store at decides)) st = shown_line n letter at (field (one decides))
said_line n letter (Some (Hash h)) st = shown_line n letter 0 (field h)
said_line n letter (Some Numbers) st = shown_line n letter 0 (state_field st)

unfoldable pub printed_of : ℕ → ℕ → Turn → List ℕ
printed_of n letter t = said_line n letter t.said t.st
