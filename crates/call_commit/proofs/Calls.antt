-- The call: z and at are what the code read.
use Prim.Native.Nat.{ℕ, ◌≤◌}
use mathlib.Core.Bool.{not}
use mathlib.Core.List.{List, ◌++◌}
use mathlib.Core.Path.{◌≡◌, refl, sym, ap}
use lib.ListN.{length, replicate}
use borrow.Author.Tests.{eq-eqb, ne_eqb}
use Rattle.bounded.specs.Rows.{refusal}
use Rattle.bounded.proofs.Rows.{row-none}
use Rattle.layout.specs.declared.Sizes.{Sizes}
use Rattle.layout.specs.Layout.{image_length}
use Rattle.state.specs.State.{State}
use Rattle.state.specs.declared.Places.{Places}
use Rattle.state.specs.declared.Op.TheVariants.{Commit, Copy}
use Rattle.operations.specs.Operations.{op_rows, commit_rows}
use Rattle.operations.proofs.Taken.{commit-alone}
use Rattle.refinement.specs.Calls.{quiet_rows, asked, commit_call_rows, commit_of}
use Rattle.std.specs.Prelude.{Err}
use Rattle.rows.specs.declared.Refusal.{Refusal}
use Rattle.rows.specs.Numbers.{number}
use Rattle.answers.specs.Answers.{Answer}
use Rattle.state_words.specs.Decoded.{places_of}
use Rattle.op_stores.specs.declared.Until.{Until}
use Rattle.op_stores.specs.Asks.{Allowed}
use Rattle.op_stores.specs.Started.{Started}
use Rattle.op_stores.proofs.Starting.{started-refused}
use Rattle.call_asking.proofs.Allowing.{may-ask-for, asked-for}

module _ (st : State) (img : List ℕ) (w : ℕ) where
  pub refused : (u : Until) (r : Refusal) → number r ≡ refusal (quiet_rows st (length img) ++ commit_rows st w) → Started (Err r) st img (commit_of st img w) img u
  unfolding commit_of
  refused u r e = started-refused st img u (commit_call_rows st img w) r e _ _

  module _ (none : 0 ≡ refusal (quiet_rows st (length img) ++ commit_rows st w)) where
    module _ (z : Sizes) (at : Places) (ez : z ≡ st.sizes) (ea : at ≡ places_of st) where
      pub copy-allowed : Allowed z at st Copy × (image_length z ≤ length img)
      copy-allowed = may-ask-for st img (commit_rows st w) none Copy z at ez ea refl refl (λ r. sym (row-none (op_rows st Copy) (commit-alone st w r, tt)))

      pub commit-allowed : (st.wide.writer ≡ w → ⊥) → Allowed z at st (Commit w) × (image_length z ≤ length img)
      commit-allowed n = may-ask-for st img (commit_rows st w) none (Commit w) z at ez ea refl (ap not (ne_eqb st.wide.writer w n)) (λ r. r)

    module _ (a : Answer) (after : State) (bs : List ℕ) (u : Until) where
      pub copy-came : st.wide.writer ≡ w → Started a after bs (asked 0 st Copy (replicate 8 0)) img u → Started a after bs (commit_of st img w) img u
      unfolding commit_of
      copy-came y h = rw (eq-eqb st.wide.writer w y) (asked-for st img (commit_rows st w) none Copy a after bs u h)

      pub commit-came : (st.wide.writer ≡ w → ⊥) → Started a after bs (asked 0 st (Commit w) (replicate 8 0)) img u → Started a after bs (commit_of st img w) img u
      unfolding commit_of
      commit-came n h = rw (ne_eqb st.wide.writer w n) (asked-for st img (commit_rows st w) none (Commit w) a after bs u h)
