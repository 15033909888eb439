-- A form that only one test of the table gives.
use mathlib.Core.Bool.{Bool, true, false, ◌&&◌}
use mathlib.Core.List.{List, [], ◌∷◌}
use mathlib.Core.Path.{◌≡◌, refl, sym, ap, ◌∙◌}
use Rattle.bounded.proofs.Tests.{case_on, contradicts, and_right}
use Rattle.text.specs.declared.Line.{Line}
use Rattle.calling.specs.WriteLine.{has_data}
use Rattle.forms.specs.declared.Ask.{Ask}
use Rattle.forms.specs.declared.Ask.TheVariants.{Begin, Commit, Abort, Write, Consolidate, Checkpoint, Mount}
use Rattle.forms.specs.declared.Form.{Form}
use Rattle.forms.specs.declared.Form.TheVariants.{Formats, Asks, Reads, Cuts, Other}
use Rattle.forms.specs.Forms.{is, first_form, forms, form_of}

abbrev pub Table : Type 0
Table = List (Bool × Form)

-- whether a form is a write
abbrev pub writes : Form → Bool
writes Formats = false
writes (Asks Begin) = false
writes (Asks Commit) = false
writes (Asks Abort) = false
writes (Asks Write) = true
writes (Asks Consolidate) = false
writes (Asks Checkpoint) = false
writes (Asks Mount) = false
writes Reads = false
writes Cuts = false
writes Other = false

-- q is the test of each form that is a write
abbrev pub Tells : Bool → Bool → Bool → Type 0
Tells true t q = t ≡ q
Tells false t q = Unit {0}

abbrev pub AllTell : Table → Bool → Type 0
AllTell [] q = Unit {0}
AllTell (f ∷ fs) q = Tells (writes f.1) f.0 q × AllTell fs q

tells : (w t q : Bool) → Tells w t q → w ≡ true → t ≡ true → q ≡ true
tells true t q h e y = sym h ∙ y
tells false t q h e y = contradicts e refl

first-tells : (fs : Table) (q : Bool) → AllTell fs q → writes (first_form fs) ≡ true → q ≡ true
first-tells [] q h e = contradicts e refl
first-tells (f ∷ fs) q h e =
    case_on f.0
    (λ y. tells (writes f.1) f.0 q h.0 (rw y at e) y)
    (λ n. first-tells fs q h.1 (rw n at e))

-- g is the form that the code found: a line that asks for a write gives its data
pub write-data : (formatted : Bool) (line : Line) (g : Form) (a : Ask) → g ≡ form_of formatted line → g ≡ Asks a → a ≡ Write
    → has_data line.count line.numbers ≡ true
unfolding form_of
write-data formatted line g a e h w =
    let w-line = is line "W" in
    let has = has_data line.count line.numbers in
    let f : writes (first_form (forms formatted line)) ≡ true = ap writes (sym e ∙ h ∙ ap Asks w) in
    let tells = first-tells (forms formatted line) (w-line && has) (tt, (tt, (tt, (tt, (tt, (refl, (tt, (tt, (tt, (tt, (tt, tt))))))))))) f in
    and_right w-line has tells
