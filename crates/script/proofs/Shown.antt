-- What F and R come to.
use Prim.Native.Nat.{ℕ, ◌<◌, ◌≤◌}
use mathlib.Core.Bool.{true, false}
use mathlib.Core.List.{List}
use mathlib.Core.Path.{◌≡◌, sym, ap, ◌∙◌}
use lib.Dec.{eqb}
use lib.ListN.{get_or, replicate}
use borrow.Author.Tests.{ne_eqb, lt-ltb, le-ltb}
use Rattle.bounded.proofs.Tests.{row-yes}
use Rattle.layout.specs.declared.Sizes.{Sizes}
use Rattle.state.specs.State.{State}
use Rattle.answers.specs.Answers.{Answer}
use Rattle.answers.specs.Answers.{number_of}
use Rattle.refinement.specs.Calls.{read_row, read_bytes}
use Rattle.refinement.specs.Mount.{format_of}
use Rattle.refinement.specs.Run.{Result, result, exec}
use Rattle.state_words.specs.Decoded.{decoded}
use Rattle.op_stores.specs.declared.Until.TheVariants.{Asked}
use Rattle.call_mount.specs.Replacing.{replacing, FormatStarted}
use Rattle.printing.specs.declared.Output.TheVariants.{Answered, Shown}
use Rattle.executing.specs.declared.Mode.{Mode}
use Rattle.executing.specs.declared.Turned.{Turned}
use Rattle.executing.specs.Called.{Turn, turn, machine_at, result_at, turn_at, finished}
use Rattle.executing.proofs.Finished.{ask-told}
use Rattle.script.specs.Turns.{formats, shown}

-- a format asked for, of which an answer, words and bytes came
module _ (m : Mode) (words img : List ℕ) (z : Sizes) (a : Answer) (words' img' : List ℕ) (number : ℕ)
    (e : FormatStarted a (decoded words') img' z (decoded words) img Asked) (h : number ≡ number_of a) where
  told : result_at a words' img' ≡ result (replacing (decoded words) (format_of z img)) img
  told = ask-told a words' img' (replacing (decoded words) (format_of z img)) img e

  number-called : number ≡ (format_of z img).number
  number-called = h ∙ ap (λ (d : Result). d.number) told

  pub format-refused : (r : Turned) → (number ≡ 0 → ⊥) → r ≡ record { mode = m; output = Answered 70 number 0 }
      → turn_at r words' img' ≡ formats (machine_at m words) img z
  unfolding formats
  format-refused r n q =
      let t : eqb (format_of z img).number 0 ≡ false = ne_eqb (format_of z img).number 0 (λ x. n (number-called ∙ x)) in
      let s : decoded words' ≡ decoded words = ap (λ (d : Result). d.world.st) told ∙ rw t in
      let b : img' ≡ img = ap (λ (d : Result). d.world.image) told in
      rw (q, s, b, t, ← number-called)

  -- a taken one makes its stores
  pub format-taken : (t : Turn) → number ≡ 0 → t ≡ finished 70 m.cut (result_at a words' img') → t ≡ formats (machine_at m words) img z
  unfolding formats
  format-taken t n q =
      let y : eqb (format_of z img).number 0 ≡ true = ap (λ (x : ℕ). eqb x 0) (sym number-called ∙ n) in
      q ∙ ap (finished 70 m.cut) told ∙ row-yes (eqb (format_of z img).number 0)
      (finished 70 m.cut (result (replacing (decoded words) (format_of z img)) img)) (turn (machine_at m words) (Answered 70 (format_of z img).number 0) img) y

-- a read, of which an answer and a target came
module _ (st : State) (img : List ℕ) (w p l offset : ℕ) (a : Answer) (number : ℕ)
    (h : number ≡ number_of a) (e : number_of a ≡ read_row st img w p l (replicate 64 0)) where
  pub shown-refused : (number ≡ 0 → ⊥) → Answered 82 number 0 ≡ shown st img w p l offset
  unfolding shown exec
  shown-refused n =
      let q : read_row st img w p l (replicate 64 0) ≡ number = sym (h ∙ e) in
      rw (q, ne_eqb number 0 n, ne_eqb number 0 n)

  pub shown-past : number ≡ 0 → 63 < offset → Answered 82 11 0 ≡ shown st img w p l offset
  unfolding shown exec
  shown-past n f = rw (sym (h ∙ e) ∙ n, lt-ltb 63 offset f)

  pub shown-byte : (target : List ℕ) → target ≡ read_bytes st img w p l (replicate 64 0) → number ≡ 0 → offset ≤ 63
      → Shown (get_or target offset 0) ≡ shown st img w p l offset
  unfolding shown exec
  shown-byte target t n f = rw (sym (h ∙ e) ∙ n, le-ltb 63 offset f, ← t)
