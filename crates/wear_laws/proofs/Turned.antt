-- What a line's turn tells and leaves: a letter that is no comma, at most 535,161 stores, and a buffer as long as before.
use Prim.Native.Nat.{ℕ, ◌≤◌, min}
use Prim.Native.Char.{code}
use mathlib.Core.Bool.{Bool, true, false, cond, not, ◌&&◌}
use mathlib.Core.List.{List, [], ◌∷◌}
use mathlib.Core.Path.{◌≡◌, refl, sym, ◌∙◌, subst}
use native.Mathlib.Omega.{arith}
use lib.Dec.{ltb, eqb}
use lib.ListN.{length, get_or, drop, replicate}
use borrow.Author.Tests.{eqb-true}
use Rattle.bounded.specs.Rows.{refusal}
use Rattle.bounded.proofs.Tests.{row_keeps, and_left}
use Rattle.layout.specs.declared.Sizes.{Sizes}
use Rattle.state.specs.State.{State}
use Rattle.validity.specs.Validity.{state_ok}
use Rattle.refinement.specs.Stores.{World, left}
use Rattle.refinement.specs.Calls.{world_of, step_row, step_rows, run_of}
use Rattle.refinement.specs.Mount.{format_of}
use Rattle.refinement.specs.Run.{Call, run, read, Result, result, exec}
use Rattle.refinement.proofs.PastUntouched.{past-untouched}
use Rattle.placing.proofs.Needed.{answered-low, taken-valid, needs-low}
use Rattle.call_mount.specs.Replacing.{replacing}
use Rattle.calling.specs.WriteLine.{num, has_data}
use Rattle.text.specs.declared.Line.{Line}
use Rattle.forms.specs.declared.Form.{Form}
use Rattle.forms.specs.declared.Form.TheVariants.{Formats, Asks, Reads, Cuts, Other}
use Rattle.forms.specs.Forms.{is, has, form_of}
use Rattle.printing.specs.declared.Output.{Output}
use Rattle.printing.specs.declared.Output.TheVariants.{Answered, Shown, Unknown}
use Rattle.std.specs.Prelude.{Option}
use Rattle.executing.specs.Called.{call_of, Machine, Turn, budget, finished}
use Rattle.script.specs.Turns.{sizes_in, formats, shown, turn_by, turn_of}

-- ---- the letter

-- neither a comma nor a newline
abbrev pub plain_byte : ℕ → Bool
plain_byte b = not (eqb b 10) && not (eqb b 44)

-- the letter of a line that asks for a call
abbrev Lettered : ℕ → Form → Type 0
Lettered l Formats = Unit {0}
Lettered l (Asks a) = plain_byte l ≡ true
Lettered l Reads = Unit {0}
Lettered l Cuts = Unit {0}
Lettered l Other = Unit {0}

row-lettered : (l : ℕ) (b : Bool) (f g : Form) → (b ≡ true → Lettered l f) → Lettered l g → Lettered l (cond b f g)
row-lettered l true f g h k = h refl
row-lettered l false f g h k = k

module _ (line : Line) where
  abbrev l : ℕ
  l = line.letter

  byte : (c : ℕ) → plain_byte c ≡ true → eqb l c ≡ true → plain_byte l ≡ true
  byte c p e = subst (λ (x : ℕ). plain_byte x ≡ true) (sym (eqb-true l c e)) p

  of : (c n : ℕ) → plain_byte c ≡ true → eqb l c && eqb line.count n ≡ true → plain_byte l ≡ true
  of c n p e = byte c p (and_left (eqb l c) (eqb line.count n) e)

  lettered : (formatted : Bool) → Lettered l (form_of formatted line)
  unfolding form_of
  lettered formatted =
      row-lettered l (has line "F" 3) Formats _ (λ e. tt)
      (row-lettered l (not formatted) Other _ (λ e. tt)
      (row-lettered l (has line "B" 1) _ _ (of (code "B") 1 refl)
      (row-lettered l (has line "C" 1) _ _ (of (code "C") 1 refl)
      (row-lettered l (has line "A" 1) _ _ (of (code "A") 1 refl)
      (row-lettered l (is line "W" && has_data line.count line.numbers) _ _
      (λ e. byte (code "W") refl (and_left (is line "W") (has_data line.count line.numbers) e))
      (row-lettered l (has line "R" 4) Reads _ (λ e. tt)
      (row-lettered l (has line "D" 1) _ _ (of (code "D") 1 refl)
      (row-lettered l (has line "P" 0) _ _ (of (code "P") 0 refl)
      (row-lettered l (has line "X" 0) _ _ (of (code "X") 0 refl) (row-lettered l (has line "K" 1) Cuts Other (λ e. tt) tt))))))))))

-- ---- the stores

run-low : (k : ℕ) (v : World) → (exec (run k) v).stores ≤ 535161
unfolding exec run_of
run-low k v =
    answered-low (step_row v.st v.image) (min k (left v.st)) 535161
    (λ e.
    let ok = taken-valid (state_ok v.st) (drop 1 (step_rows v.st v.image)) e in
    omega (arith, needs-low v.st ok v.st.pending.op))

-- what can be read back from the line printed
abbrev pub Readable : Output → Type 0
Readable (Answered letter number stores) = (plain_byte letter ≡ true) × (stores ≤ 535161)
Readable (Shown byte) = Unit {0}
Readable Unknown = Unit {0}

finished-readable : (letter : ℕ) (cut : Option ℕ) (d : Result) → plain_byte letter ≡ true → Readable (finished letter cut d).output
unfolding finished
finished-readable letter cut d p =
    row_keeps (λ (t : Turn). Readable t.output) (eqb d.stores 0) _ _ (p, omega arith) (p, run-low (budget cut d.stores) d.world)

formats-readable : (m : Machine) (img : List ℕ) (z : Sizes) → Readable (formats m img z).output
unfolding formats
formats-readable m img z =
    let o = replacing m.st (format_of z img) in
    row_keeps (λ (t : Turn). Readable t.output) (eqb o.number 0) _ _ (finished-readable (code "F") m.cut (result o img) refl) (refl, omega arith)

shown-readable : (st : State) (img : List ℕ) (w p l offset : ℕ) → Readable (shown st img w p l offset)
unfolding shown
shown-readable st img w p l offset =
    let d = exec (read w p l (replicate 64 0)) (world_of st img) in
    let number = refusal ((not (eqb d.number 0), d.number) ∷ (ltb 63 offset, 11) ∷ []) in
    row_keeps Readable (eqb number 0) (Shown (get_or d.target offset 0)) (Answered (code "R") number 0) tt (refl, omega arith)

module _ (m : Machine) (img : List ℕ) (line : Line) where
  by-readable : (f : Form) → Lettered line.letter f → Readable (turn_by f m img line).output
  by-readable Formats p = formats-readable m img (sizes_in line.numbers)
  by-readable (Asks a) p = finished-readable line.letter m.cut (exec (call_of a line.count line.numbers) (world_of m.st img)) p
  by-readable Reads p = let n = num line.numbers in shown-readable m.st img (n 0) (n 1) (n 2) (n 3)
  by-readable Cuts p = (refl, omega arith)
  by-readable Other p = tt

  pub turn-readable : Readable (turn_of m img line).output
  unfolding turn_of
  turn-readable = by-readable (form_of m.formatted line) (lettered line m.formatted)

-- ---- the buffer

exec-long : (c : Call) (v : World) → length (exec c v).world.image ≡ length v.image
exec-long c v = (past-untouched.call c v).as_long

finished-long : (letter : ℕ) (cut : Option ℕ) (d : Result) → length (finished letter cut d).image ≡ length d.world.image
unfolding finished
finished-long letter cut d =
    row_keeps (λ (t : Turn). length t.image ≡ length d.world.image) (eqb d.stores 0) _ _ refl (exec-long (run (budget cut d.stores)) d.world)

formats-long : (m : Machine) (img : List ℕ) (z : Sizes) → length (formats m img z).image ≡ length img
unfolding formats
formats-long m img z =
    let o = replacing m.st (format_of z img) in
    row_keeps (λ (t : Turn). length t.image ≡ length img) (eqb o.number 0) _ _ (finished-long (code "F") m.cut (result o img)) refl

module _ (m : Machine) (img : List ℕ) (line : Line) where
  by-long : (f : Form) → length (turn_by f m img line).image ≡ length img
  by-long Formats = formats-long m img (sizes_in line.numbers)
  by-long (Asks a) =
      let c = call_of a line.count line.numbers in
      let v = world_of m.st img in
      finished-long line.letter m.cut (exec c v) ∙ exec-long c v
  by-long Reads = refl
  by-long Cuts = refl
  by-long Other = refl

  pub turn-long : length (turn_of m img line).image ≡ length img
  unfolding turn_of
  turn-long = by-long (form_of m.formatted line)
