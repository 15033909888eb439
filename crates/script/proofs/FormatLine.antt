-- An F without a K: all the format's stores are made, and the store is fresh.
use Prim.Native.Nat.{ℕ, ◌+◌, ◌≤◌, min}
use mathlib.Core.Bool.{true, false, not}
use mathlib.Core.List.{List, []}
use mathlib.Core.Path.{◌≡◌, refl, sym, ap, ◌∙◌}
use native.Mathlib.Omega.{arith}
use lib.Dec.{eqb}
use lib.ListN.{length}
use borrow.Author.Tests.{eq-eqb, ne_eqb, le-ltb}
use Rattle.bounded.proofs.Rows.{row-none}
use Rattle.bounded.proofs.Tests.{row-yes}
use Rattle.layout.specs.declared.Sizes.{Sizes}
use Rattle.layout.specs.Layout.{sizes_ok, image_words, image_length}
use Rattle.layout.proofs.LayoutLaws.{legal}
use Rattle.fresh.specs.Fresh.{formatted, format_stores}
use Rattle.fresh.proofs.FreshStores.{stores-all}
use Rattle.operations.specs.Operations.{needs}
use Rattle.refinement.specs.Stores.{left, state_after}
use Rattle.refinement.specs.Calls.{world_of, step_row, step_rows, run_of, run_bytes}
use Rattle.refinement.specs.Mount.{fresh_state, format_of}
use Rattle.refinement.specs.Run.{Result, result, exec}
use Rattle.refinement.proofs.FormatAsked.{formatting, format-valid, format-left, format-taken, ran-image, ran-state}
use Rattle.call_mount.specs.Replacing.{replacing}
use Rattle.printing.specs.declared.Output.TheVariants.{Answered}
use Rattle.std.specs.Prelude.{Option, None}
use Rattle.executing.specs.Called.{Machine, turn, ready, finished}
use Rattle.script.specs.Turns.{formats}

module _ (z : Sizes) (ok : sizes_ok z ≡ true) (buffer : List ℕ) (fits : image_length z ≤ length buffer) where
  abbrev all : ℕ
  all = image_words z + 1

  abbrev pub asks : Result
  asks = record { number = 0; stores = all; world = world_of (formatting z) buffer; target = [] }

  asked : (m : Machine) → result (replacing m.st (format_of z buffer)) buffer ≡ asks
  unfolding format_of
  asked m = rw (← format-taken z ok buffer fits)

  whole : min all all ≡ all
  whole = omega arith

  runs : 0 ≡ step_row (formatting z) buffer
  runs = row-none (step_rows (formatting z) buffer) (ap not (format-valid z ok), (le-ltb (length buffer) (image_length z) fits, (refl, tt)))

  image : run_bytes (formatting z) buffer all ≡ formatted z buffer
  image = ran-image z ok buffer fits all ∙ ap (λ (n : ℕ). format_stores z n buffer) whole ∙ stores-all z (legal z ok) buffer fits

  fresh-last : state_after (formatting z) all ≡ fresh_state z
  unfolding needs
  fresh-last = rw (eq-eqb (0 + (image_words z + 1)) (image_words z + 1) (omega arith))

  state : (run_of (formatting z) buffer all).state ≡ fresh_state z
  state = ran-state z ok buffer fits all ∙ ap (state_after (formatting z)) whole ∙ fresh-last

  stores : (run_of (formatting z) buffer all).stores ≡ all
  unfolding run_of
  stores =
      let n : left (formatting z) ≡ all = format-left z (legal z ok) in
      rw (← runs) (ap (λ (k : ℕ). min all k) n ∙ whole)

  made : finished 70 None asks ≡ turn (ready (fresh_state z) None) (Answered 70 0 all) (formatted z buffer)
  unfolding finished exec
  made =
      let some : eqb (image_words z + 1) 0 ≡ false = ne_eqb (image_words z + 1) 0 (λ q. omega (arith, q)) in
      rw some (λ i. turn (ready (state i) None) (Answered 70 0 (stores i)) (image i))

  pub format-fresh : (m : Machine) → m.cut ≡ None → formats m buffer z ≡ turn (ready (fresh_state z) None) (Answered 70 0 all) (formatted z buffer)
  unfolding formats
  format-fresh m e =
      let d = result (replacing m.st (format_of z buffer)) buffer in
      let y : eqb (format_of z buffer).number 0 ≡ true = ap (λ (r : Result). eqb r.number 0) (asked m) in
      sym (row-yes (eqb (format_of z buffer).number 0) (finished 70 m.cut d) (turn m (Answered 70 (format_of z buffer).number 0) buffer) y)
      ∙ ap (λ (k : Option ℕ). finished 70 k d) e
      ∙ ap (finished 70 None) (asked m)
      ∙ made
