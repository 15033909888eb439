-- A line's turn, by its form.
use Prim.Native.Nat.{ℕ}
use mathlib.Core.List.{List}
use mathlib.Core.Path.{◌≡◌, sym, ap, ◌∙◌}
use Rattle.layout.specs.declared.Sizes.{Sizes}
use Rattle.text.specs.declared.Line.{Line}
use Rattle.refinement.specs.Calls.{world_of}
use Rattle.refinement.specs.Run.{Result, exec}
use Rattle.forms.specs.declared.Ask.{Ask}
use Rattle.forms.specs.declared.Form.{Form}
use Rattle.forms.specs.declared.Form.TheVariants.{Formats, Asks, Reads}
use Rattle.printing.specs.declared.Output.{Output}
use Rattle.forms.specs.Forms.{form_of}
use Rattle.executing.specs.Called.{call_of, Machine, Turn, turn, finished}
use Rattle.script.specs.Turns.{sizes_in, formats, shown_by, turn_by, turn_of}

-- g is the form that the code found
module _ (m : Machine) (img : List ℕ) (line : Line) (g : Form) (e : g ≡ form_of m.formatted line) where
  pub by_form : (f : Form) (t : Turn) → g ≡ f → t ≡ turn_by f m img line → t ≡ turn_of m img line
  unfolding turn_of
  by_form f t h q = q ∙ ap (λ (x : Form). turn_by x m img line) (sym h ∙ e)

  pub by-format : (z : Sizes) (t : Turn) → g ≡ Formats → z ≡ sizes_in line.numbers → t ≡ formats m img z → t ≡ turn_of m img line
  by-format z t h q r = by_form Formats t h (r ∙ ap (formats m img) q)

  pub by_call : (a : Ask) (d : Result) (t : Turn) → g ≡ Asks a → d ≡ exec (call_of a line.count line.numbers) (world_of m.st img)
      → t ≡ finished line.letter m.cut d → t ≡ turn_of m img line
  by_call a d t h q r = by_form (Asks a) t h (r ∙ ap (finished line.letter m.cut) q)

  pub by_read : (output : Output) → g ≡ Reads → output ≡ shown_by m.st img line.numbers → turn m output img ≡ turn_of m img line
  by_read output h q = by_form Reads (turn m output img) h (ap (λ (o : Output). turn m o img) q)
