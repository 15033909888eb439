-- A call that no row turns back may ask. rs are the call's rows behind rows 8, 4 and 9; z and at are what the code read.
use Prim.Native.Nat.{ℕ, ◌≤◌}
use mathlib.Core.Bool.{true, false}
use mathlib.Core.List.{List, ◌++◌}
use mathlib.Core.Path.{◌≡◌, sym, subst}
use lib.ListN.{length, replicate}
use Rattle.bounded.specs.Rows.{Row, refusal}
use Rattle.layout.specs.declared.Sizes.{Sizes}
use Rattle.layout.specs.Layout.{image_length}
use Rattle.state.specs.State.{State}
use Rattle.state.specs.declared.Places.{Places}
use Rattle.state.specs.declared.Op.{Op}
use Rattle.operations.specs.Operations.{is_idle, op_rows}
use Rattle.validity.specs.Validity.{op_fits, is_fresh}
use Rattle.refinement.specs.Outcome.{Outcome}
use Rattle.refinement.specs.Calls.{quiet_rows, asked}
use Rattle.answers.specs.Answers.{Answer}
use Rattle.call_asking.specs.Asking.{asked_of}
use Rattle.op_stores.specs.declared.Until.{Until}
use Rattle.op_stores.specs.Asks.{Allowed}
use Rattle.op_stores.specs.Started.{Started}
use Rattle.op_stores.proofs.Asking.{quieted}
use Rattle.state_words.specs.Decoded.{places_of}

module _ (st : State) (img : List ℕ) (rs : List Row) (none : 0 ≡ refusal (quiet_rows st (length img) ++ rs)) (op : Op) where
  pub may-ask-for : (z : Sizes) (at : Places) → z ≡ st.sizes → at ≡ places_of st → is_idle op ≡ false → op_fits st.wide.writer (is_fresh st) op ≡ true
      → (refusal rs ≡ 0 → refusal (op_rows st op) ≡ 0) → Allowed z at st op × (image_length z ≤ length img)
  may-ask-for z at ez ea busy fits r =
      let q = quieted st rs (length img) none in
      (record { sizes = ez; places = ea; ok = q.ok; idle = q.idle; busy = busy; rows = r q.rows; fits = fits }, rw ez q.long)

  -- what came of it is what the call's definition says
  pub asked-for : (a : Answer) (after : State) (bs : List ℕ) (u : Until) → Started a after bs (asked 0 st op (replicate 8 0)) img u
      → Started a after bs (asked (refusal (quiet_rows st (length img) ++ rs)) st op (replicate 8 0)) img u
  asked-for a after bs u h = let zero : refusal (quiet_rows st (length img) ++ rs) ≡ 0 = sym none in rw zero h

-- a call that is defined as the asking for one operation
pub as-defined : (st : State) (img : List ℕ) (op : Op) (u : Until) (o : Outcome) → asked_of st (length img) op op ≡ o → (a : Answer) (after : State) (bs : List ℕ)
    → Started a after bs (asked_of st (length img) op op) img u → Started a after bs o img u
as-defined st img op u o e a after bs h = subst (λ (x : Outcome). Started a after bs x img u) e h
