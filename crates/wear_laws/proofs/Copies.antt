-- Line copies, of any line of powerhit's script and of an input.
use Prim.Native.Nat.{ℕ, ◌-◌, ◌≤◌}
use Prim.Native.Char.{code}
use mathlib.Core.Bool.{Bool, true, false, cond}
use mathlib.Core.List.{List, []}
use mathlib.Core.Path.{◌≡◌, refl, sym, ap, subst}
use native.Mathlib.Omega.{arith}
use lib.Dec.{eqb}
use borrow.Author.Tests.{eqb-true, eqb-false}
use Rattle.bounded.proofs.Tests.{case_on, contradicts, row_keeps}
use Rattle.layout.specs.Layout.{Legal}
use Rattle.state.specs.State.{State}
use Rattle.state.specs.declared.Op.TheVariants.{Write}
use Rattle.operations.specs.Operations.{needs}
use Rattle.refinement.specs.Stores.{World, left}
use Rattle.refinement.specs.Calls.{world_of, commit_of, consolidate_of, checkpoint_of, write_of}
use Rattle.refinement.specs.Mount.{format_of}
use Rattle.refinement.specs.Run.{Result, result, exec}
use Rattle.refinement.proofs.FormatAsked.{formatting, format-left}
use Rattle.call_mount.specs.Replacing.{replacing}
use Rattle.calling.specs.WriteLine.{num, data_of}
use Rattle.text.specs.declared.Line.{Line}
use Rattle.text.specs.Fields.{parsed}
use Rattle.forms.specs.declared.Ask.{Ask}
use Rattle.forms.specs.declared.Ask.TheVariants.{Begin, Commit as Commits, Abort, Write as Writes}
use Rattle.forms.specs.declared.Ask.TheVariants.{Consolidate as Consolidates, Checkpoint as Checkpoints, Mount}
use Rattle.forms.specs.declared.Form.{Form}
use Rattle.forms.specs.declared.Form.TheVariants.{Formats, Asks, Reads, Cuts, Other}
use Rattle.forms.specs.Forms.{has, form_of}
use Rattle.printing.specs.declared.Output.TheVariants.{Answered}
use Rattle.std.specs.Prelude.{Option}
use Rattle.executing.specs.Called.{call_of, Machine, Turn, turn, finished}
use Rattle.script.specs.Turns.{sizes_in, formats, turn_by, turn_of}
use Rattle.wear.specs.Performs.{Narrow, NarrowMachine}
use Rattle.wear.specs.Wear.{word_of, pending_by, stores_in}
use Rattle.wear.proofs.Pending.{Pends}
use Rattle.wear.proofs.Asked.{no-stores-begin, no-stores-abort, no-stores-mount, commit-pends, write-pends, consolidate-pends, checkpoint-pends}
use Rattle.wear.proofs.Performed.{none-shown}
use Rattle.wear.proofs.Narrow.{turn-narrow}
use Rattle.wear.proofs.Made.{made-ran, format-legal, format-asks}
use Rattle.wear_lines.specs.Lines.{Work, opening, first, turned, parts, act}
use Rattle.wear_laws.specs.Inputs.{worked, number}
use Rattle.wear_laws.specs.Copies.{made_in, made, sizes_at, word_at, CopiesWhole}
use Rattle.wear_laws.proofs.Beside.{alone}
use Rattle.wear_laws.proofs.Runs.{Runs, whole}
use Rattle.wear_laws.proofs.Operations.{none_made, write-runs, commit-runs, checkpoint-runs, consolidate-runs, format-runs}

-- the stores made of what is pending in a world
abbrev RunsIn : World → ℕ → Type 0
RunsIn v n = Runs v.st.sizes (word_of v) n

-- ---- a call

-- a write has no more than eight left
eight : (v : World) (n w p l o c : ℕ) → Pends v n (Write w p l o c) → left v.st ≤ 8
unfolding needs
eight v n w p l o c h = let e : needs v.st v.st.pending.op ≡ 8 = ap (needs v.st) h.asks in omega (arith, e)

module _ (st : State) (img : List ℕ) (narrow : Narrow st) where
  abbrev called : Ask → ℕ → List ℕ → Result
  called a count numbers = exec (call_of a count numbers) (world_of st img)

  asked-runs : (a : Ask) (count : ℕ) (numbers : List ℕ) (n : ℕ) → (let d = called a count numbers in
      (d.stores ≡ 0 → ⊥) → Legal d.world.st.sizes → n ≤ left d.world.st → RunsIn d.world n)
  unfolding exec
  asked-runs Begin count numbers n some legal few = absurd (some (no-stores-begin st (num numbers 0)))
  asked-runs Abort count numbers n some legal few = absurd (some (no-stores-abort st (num numbers 0)))
  asked-runs Mount count numbers n some legal few = absurd (some (no-stores-mount img))
  asked-runs Commits count numbers n some legal few =
      let w = num numbers 0 in
      let o = commit_of st img w in
      commit-runs (world_of o.state img) o.stores legal w n (commit-pends st img narrow w some)
  asked-runs Writes count numbers n some legal few =
      let k = num numbers in
      let o = write_of st img (k 0) (k 1) (k 2) (k 3) (k 4) (data_of count numbers) in
      let v = world_of o.state img in
      let h = write-pends st img narrow (k 0) (k 1) (k 2) (k 3) (k 4) (data_of count numbers) some in
      write-runs v o.stores legal (k 0) (k 1) (k 2) (k 3) (k 4) n h (omega (arith, few, eight v o.stores (k 0) (k 1) (k 2) (k 3) (k 4) h))
  asked-runs Consolidates count numbers n some legal few =
      let p = num numbers 0 in
      let o = consolidate_of st img p in
      let h = consolidate-pends st img p some in
      consolidate-runs (world_of o.state img) o.stores legal p n h.0 h.1
  asked-runs Checkpoints count numbers n some legal few =
      let o = checkpoint_of st img in
      checkpoint-runs (world_of o.state img) o.stores legal n (checkpoint-pends st img some)

-- ---- a line

-- any number of the stores that a call asked for
abbrev AskedRuns : Result → Type 0
AskedRuns d = (n : ℕ) → (d.stores ≡ 0 → ⊥) → Legal d.world.st.sizes → n ≤ left d.world.st → RunsIn d.world n

-- what holds of a row that applies, and of the rest
taken : {A : Type 0} (P : A → Type 0) (b : Bool) (x y : A) → (b ≡ true → P x) → P y → P (cond b x y)
taken P true x y p q = p refl
taken P false x y p q = q

finished-runs : (letter : ℕ) (cut : Option ℕ) (d : Result) → AskedRuns d
    → RunsIn d.world (stores_in (finished letter cut d).output)
finished-runs letter cut d f =
    let n = stores_in (finished letter cut d).output in
    case_on (eqb n 0)
    (λ t. none_made d.world.st.sizes (word_of d.world) n (eqb-true n 0 t))
    (λ t. let h = made-ran letter cut d (eqb-false n 0 t) in f n h.0 h.1.legal h.1.few)

module _ (m : Machine) (img : List ℕ) (line : Line) where
  -- the stores that a line of a form makes
  abbrev Made : Form → Type 0
  Made f = RunsIn (pending_by f m img line) (stores_in (turn_by f m img line).output)

  format-made : Made Formats
  unfolding formats
  format-made =
      let z = sizes_in line.numbers in
      let o = replacing m.st (format_of z img) in
      let v = world_of o.state img in
      taken (λ (t : Turn). RunsIn v (stores_in t.output)) (eqb o.number 0) (finished (code "F") m.cut (result o img))
      (turn m (Answered (code "F") o.number 0) img)
      (λ t.
      let row = eqb-true o.number 0 t in
      let ok = format-legal m.st z img row in
      let same = format-asks m.st z img row in
      let runs : AskedRuns (result o img) =
      λ n some legal few.
      let low : n ≤ left (formatting z) = subst (λ (u : World). n ≤ left u.st) same few in
      subst (λ (u : World). RunsIn u n) (sym same) (format-runs z ok refl img n (omega (arith, format-left z ok, low))) in
      finished-runs (code "F") m.cut (result o img) runs)
      (none_made v.st.sizes (word_of v) 0 refl)

  form-made : Narrow m.st → (f : Form) → Made f
  form-made h Formats = format-made
  form-made h (Asks a) =
      let d = exec (call_of a line.count line.numbers) (world_of m.st img) in
      finished-runs line.letter m.cut d (asked-runs m.st img h a line.count line.numbers)
  form-made h Reads = none_made m.st.sizes _ _ (none-shown m.st img line.numbers)
  form-made h Cuts = none_made m.st.sizes _ 0 refl
  form-made h Other = none_made m.st.sizes _ 0 refl

  -- before a taken format only a format is obeyed
  unformatted : Made (form_of false line)
  unfolding form_of
  unformatted = row_keeps Made (has line "F" 3) Formats Other format-made (none_made m.st.sizes _ 0 refl)

  pub line-runs : NarrowMachine m → RunsIn (made_in m img line) (made m img line)
  unfolding turn_of
  line-runs h =
      case_on m.formatted
      (λ t. form-made (h t) (form_of m.formatted line))
      (λ t. subst (λ (x : Bool). Made (form_of x line)) (sym t) unformatted)

-- ---- an input

-- no machine that an input comes to has a wide writer
abbrev pub Kept : Work → Type 0
Kept w = NarrowMachine w.machine

unlike : {X : Type 0} → false ≡ true → X
unlike e = contradicts e refl

turned-kept : (w : Work) (line : List ℕ) → Kept w → Kept (turned (parsed 9 line) w)
unfolding turned
turned-kept w line h = turn-narrow w.machine w.image (parsed 9 line) h

pub act-kept : (w : Work) (line : List ℕ) → Kept w → Kept (act w line)
unfolding act opening
act-kept w line h = row_keeps Kept (parts line) _ (turned (parsed 9 line) w) (λ e. unlike e) (turned-kept w line h)

pub first-kept : (size : ℕ) → Kept (first size)
unfolding opening
first-kept size e = unlike e

kept : (size : ℕ) (input : List ℕ) → Kept (worked size input)
kept size input = alone act Kept act-kept input [] (first size) (first-kept size)

pub copies_whole : CopiesWhole
copies_whole size before line f i l e =
    let w = worked size before in
    let m = w.machine in
    let img = w.image in
    let q = parsed 9 line in
    whole (sizes_at m img q) (word_at m img q) (made m img q) (line-runs m img q (kept size before)) f i l e
