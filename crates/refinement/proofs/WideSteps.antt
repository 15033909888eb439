-- Step and run while a wide transaction is open or copied.
use Prim.Native.Nat.{ℕ, min}
use mathlib.Core.Bool.{true, false}
use mathlib.Core.List.{List}
use mathlib.Core.Logic.{inl}
use mathlib.Core.Path.{◌≡◌, refl, sym, subst}
use native.Mathlib.Omega.{arith}
use Rattle.bounded.proofs.Rows.{none-apply}
use Rattle.operations.specs.Operations.{is_idle}
use Rattle.validity.specs.Validity.{state_ok}
use Rattle.refinement.specs.Stores.{World, stepped, stepped_by, left}
use Rattle.refinement.specs.Calls.{step_rows, step_row, step_of, step_bytes, run_of, run_bytes}
use Rattle.refinement.specs.Run.{step, run, exec}
use Rattle.refinement.specs.Reference.{Reference, advances}
use Rattle.refinement.proofs.Pending.{pends}
use Rattle.refinement.proofs.StepCall.{stepped-sizes, stepped_by-sizes}
use Rattle.refinement.proofs.WideRuns.{Wider, logged, copied, done, one-wider, wider_left, many-wider, advance-min}
use Rattle.refinement.proofs.Cases.{Invariant, narrow, logging, copying, Kept}
use Rattle.refinement.proofs.Next.{answered-next}

wider-case : {past : List ℕ} {v : World} {b : Reference} → Wider past v b → Invariant past v b
wider-case (logged G) = logging G
wider-case (copied C) = copying C
wider-case (done q) = narrow (inl (inl q))

module _ {past : List ℕ} (v : World) (b : Reference) (h : Wider past v b) where
  pub wide_step : Kept past step v b
  unfolding exec step_of step_bytes
  wide_step =
      let r =
      answered-next (Invariant _) step v b (step_row v.st v.image) _ (stepped v).st (stepped v).image (wider-case h)
      (λ e. record { sizes = stepped-sizes v; related = wider-case (one-wider v b h (none-apply (step_rows v.st v.image) (omega arith) e).1.1.0) }) in
      record { right = tt; sizes = r.sizes; related = r.related }

  runs : (k : ℕ) → state_ok v.st ≡ true → is_idle v.st.pending.op ≡ false → Invariant past (stepped_by (min k (left v.st)) v) (advances k b.work b)
  runs k ok i =
      let n : ℕ = min k (left v.st) in
      let low = (pends v.st v.st.pending.op ok refl i).made-low in
      subst (Invariant past (stepped_by n v)) (sym (advance-min b.work b k (left v.st) (wider_left v b h i)))
      (wider-case (many-wider v b h i (omega (arith, low)) n (omega arith)))

  pub wide-run : state_ok v.st ≡ true → (k : ℕ) → Kept past (run k) v b
  unfolding exec run_of run_bytes
  wide-run ok k =
      let n : ℕ = min k (left v.st) in
      let r =
      answered-next (Invariant _) (run k) v b (step_row v.st v.image) _ (stepped_by n v).st (stepped_by n v).image (wider-case h)
      (λ e. record { sizes = stepped_by-sizes n v; related = runs k ok (none-apply (step_rows v.st v.image) (omega arith) e).1.1.0 }) in
      record { right = tt; sizes = r.sizes; related = r.related }
