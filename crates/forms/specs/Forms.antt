-- The forms of a line (document 01, "Program powerhit"): a letter, and how many numbers follow it.
use Rattle.std.specs.Prelude.{ℕ, Bool, not, cond, ◌&&◌, List, [], ◌∷◌, eqb}
use Prim.Native.Char.{Char, code}
use Rattle.text.specs.declared.Line.{Line}
use Rattle.calling.specs.WriteLine.{num, has_data}
use Rattle.forms.specs.declared.Ask.TheVariants.{Begin, Commit, Abort, Write, Consolidate, Checkpoint, Mount}
use Rattle.forms.specs.declared.Form.{Form}
use Rattle.forms.specs.declared.Form.TheVariants.{Formats, Asks, Reads, Cuts, Other}

abbrev pub as_line : ℕ → ℕ → List ℕ → Line
as_line letter count numbers = record { letter = letter; count = count; numbers = numbers }

-- the first number of a line
abbrev pub first : Line → ℕ
first line = num line.numbers 0

abbrev pub is : Line → Char → Bool
is line letter = eqb line.letter (code letter)

abbrev pub has : Line → Char → ℕ → Bool
has line letter count = is line letter && eqb line.count count

-- the first form of a list that applies
abbrev pub first_form : List (Bool × Form) → Form
first_form [] = Other
first_form (f ∷ fs) = cond f.0 f.1 (first_form fs)

-- F sizes; before a taken F nothing else; B, C, A writer; W writer, page, line, offset, length, bytes; R writer, page, line, offset;
-- D page; P; X; K k
abbrev pub forms : Bool → Line → List (Bool × Form)
forms formatted line =
    (has line "F" 3, Formats)
    ∷ (not formatted, Other)
    ∷ (has line "B" 1, Asks Begin)
    ∷ (has line "C" 1, Asks Commit)
    ∷ (has line "A" 1, Asks Abort)
    ∷ (is line "W" && has_data line.count line.numbers, Asks Write)
    ∷ (has line "R" 4, Reads)
    ∷ (has line "D" 1, Asks Consolidate)
    ∷ (has line "P" 0, Asks Checkpoint)
    ∷ (has line "X" 0, Asks Mount)
    ∷ (has line "K" 1, Cuts)
    ∷ []

unfoldable pub form_of : Bool → Line → Form
form_of formatted line = first_form (forms formatted line)
