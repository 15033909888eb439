-- What a line of each form does to the machine and the buffer, and what it prints.
use Rattle.std.specs.Prelude.{ℕ, not, cond, List, [], ◌∷◌, eqb, ltb, get_or, replicate, Some}
use Prim.Native.Char.{code}
use Rattle.bounded.specs.Rows.{refusal}
use Rattle.layout.specs.declared.Sizes.{Sizes}
use Rattle.state.specs.State.{State}
use Rattle.refinement.specs.Calls.{world_of}
use Rattle.refinement.specs.Mount.{format_of}
use Rattle.refinement.specs.Run.{read, result, exec}
use Rattle.text.specs.declared.Line.{Line}
use Rattle.call_mount.specs.Replacing.{replacing}
use Rattle.calling.specs.WriteLine.{num}
use Rattle.forms.specs.declared.Form.{Form}
use Rattle.forms.specs.declared.Form.TheVariants.{Formats, Asks, Reads, Cuts, Other}
use Rattle.forms.specs.Forms.{first, form_of}
use Rattle.printing.specs.declared.Output.{Output}
use Rattle.printing.specs.declared.Output.TheVariants.{Answered, Shown, Unknown}
use Rattle.executing.specs.Called.{call_of, Machine, Turn, turn, ready, finished}

abbrev pub sizes_in : List ℕ → Sizes
sizes_in numbers = record { pages = num numbers 0; slots = num numbers 1; places = num numbers 2; entries = 0 }

-- F: a format is asked for, and makes its stores as every call does; a refused one leaves the machine as it is
unfoldable pub formats : Machine → List ℕ → Sizes → Turn
formats m img z =
    let o = replacing m.st (format_of z img) in
    cond (eqb o.number 0) (finished (code "F") m.cut (result o img)) (turn m (Answered (code "F") o.number 0) img)

-- R: the byte at an offset of the line read; an offset above 63 is 11
unfoldable pub shown : State → List ℕ → ℕ → ℕ → ℕ → ℕ → Output
shown st img w p l offset =
    let d = exec (read w p l (replicate 64 0)) (world_of st img) in
    let number = refusal ((not (eqb d.number 0), d.number) ∷ (ltb 63 offset, 11) ∷ []) in
    cond (eqb number 0) (Shown (get_or d.target offset 0)) (Answered (code "R") number 0)

abbrev pub shown_by : State → List ℕ → List ℕ → Output
shown_by st img numbers = let n = num numbers in shown st img (n 0) (n 1) (n 2) (n 3)

-- K: it takes the place of one that waits
abbrev pub cuts : Machine → List ℕ → ℕ → Turn
cuts m img k = turn (ready m.st (Some k)) (Answered (code "K") 0 0) img

-- each form's turn
abbrev pub turn_by : Form → Machine → List ℕ → Line → Turn
turn_by Formats m img line = formats m img (sizes_in line.numbers)
turn_by (Asks a) m img line = finished line.letter m.cut (exec (call_of a line.count line.numbers) (world_of m.st img))
turn_by Reads m img line = turn m (shown_by m.st img line.numbers) img
turn_by Cuts m img line = cuts m img (first line)
turn_by Other m img line = turn m Unknown img

unfoldable pub turn_of : Machine → List ℕ → Line → Turn
turn_of m img line = turn_by (form_of m.formatted line) m img line
