-- A read and a load while a wide transaction is open: they change nothing.
use Prim.Native.Nat.{ℕ, ◌<◌}
use mathlib.Core.Bool.{not}
use mathlib.Core.List.{List}
use mathlib.Core.Path.{◌≡◌, refl, sym, ap, subst}
use native.Mathlib.Omega.{arith}
use Rattle.bounded.specs.Rows.{refusal}
use Rattle.bounded.proofs.Rows.{none-apply, row-none}
use Rattle.words.specs.Words.{over}
use Rattle.meters.specs.Meters.{modulus_of}
use Rattle.state.specs.declared.Op.TheVariants.{Copy}
use Rattle.refinement.specs.Stores.{World, completed}
use Rattle.refinement.specs.Calls.{read_rows, read_row, read_bytes, load_rows, load_of}
use Rattle.refinement.specs.Run.{read, load, exec}
use Rattle.refinement.specs.Reference.{Reference, meter_on, read_line}
use Rattle.refinement.proofs.ReadCall.{turn-kept, read-args}
use Rattle.refinement.proofs.LoadCall.{load-right}
use Rattle.refinement.proofs.Logging.{Logging, at_rest}
use Rattle.refinement.proofs.LoggingStanding.{logging-seen}
use Rattle.refinement.proofs.Cases.{Invariant, logging, Kept}

module _ {past : List ℕ} (v : World) (b : Reference) (G : Logging past v.st v.image b) where
  read_right : (w p l : ℕ) (target : List ℕ) → read_row v.st v.image w p l target ≡ 0 → read_bytes v.st v.image w p l target ≡ over target 0 (read_line b w p l)
  unfolding read_row read_bytes
  read_right w p l target e =
      let rows = none-apply (read_rows v.st v.image w p l target) (omega arith) e in
      let a = read-args v.st w p l target rows.1.1.1.0 in
      rw e (ap (over target 0) (logging-seen v.st v.image b G rows.1.1.0 w p l a.0 a.1 a.2))

  pub log-read : (w p l : ℕ) (target : List ℕ) → Kept past (read w p l target) v b
  unfolding exec
  log-read w p l target =
      record {
        right = read_right w p l target;
        sizes = refl;
        related = subst (Invariant past v) (sym (turn-kept (read w p l target) (read_row v.st v.image w p l target) 0 b refl)) (logging G);
      }

  -- a load reads the meters as it would without the transaction
  rest-rows : (text : List ℕ) → refusal (load_rows v.st v.image text) ≡ 0 → refusal (load_rows (completed v.st Copy) v.image text) ≡ 0
  rest-rows text e =
      let rows = none-apply (load_rows v.st v.image text) (omega arith) e in
      sym (row-none (load_rows (completed v.st Copy) v.image text) (ap not (at_rest v.st v.image b G).valid, (rows.1.0, (refl, rows.1.1.1))))

  meters-low : (text : List ℕ) → (load_of v.st v.image text).number ≡ 0 → (m : ℕ) → m < 24 → meter_on b m < modulus_of (load_of v.st v.image text).moduli m
  unfolding load_of
  meters-low text e m l =
      let f = rest-rows text e in
      let low = load-right (completed v.st Copy) v.image b (at_rest v.st v.image b G).valid G.durable text f m l in
      rw e (rw f at low)

  pub log-load : (text : List ℕ) → Kept past (load text) v b
  unfolding exec
  log-load text =
      record {
        right = meters-low text;
        sizes = refl;
        related = subst (Invariant past v) (sym (turn-kept (load text) (load_of v.st v.image text).number 0 b refl)) (logging G);
      }
