-- No line is held, no writer is prepared and no writer has unfinished writes: so it is while a wide transaction is open, but for its own, and while it is
-- copied.
use Prim.Native.Nat.{ℕ, ◌<◌, ◌≤◌}
use mathlib.Core.Bool.{false, not}
use mathlib.Core.List.{List}
use mathlib.Core.Path.{◌≡◌, ap, ◌∙◌}
use native.Mathlib.Omega.{arith}
use lib.Dec.{eqb}
use lib.ListN.{length}
use borrow.Author.Tests.{eqb-true, eqb-false, ltb-true, not-false}
use Rattle.bounded.proofs.Below.{none-at, none_made}
use Rattle.bounded.proofs.Tests.{case_on, contradicts}
use Rattle.layout.specs.declared.Sizes.{Sizes}
use Rattle.layout.specs.Layout.{Legal}
use Rattle.masks.proofs.Members.{in-none}
use Rattle.state.specs.State.{State, Writers}
use Rattle.state.specs.Held.{held_at, some_hold}
use Rattle.operations.specs.Operations.{slot_for, slotted}
use Rattle.refinement.specs.Commit.{closed_writer}
use Rattle.refinement.specs.Reference.{Reference, none}
use Rattle.refinement.proofs.Closed.{closed-holds, others-hold}
use Rattle.refinement.proofs.Invariant.{holds, Writing, Never}

-- no line of the S slots is held
abbrev pub Unheld : Sizes → List ℕ → Type 0
Unheld z held = (w s : ℕ) → w < 4 → s < z.slots → held_at held w s ≡ 0

-- the test, both ways
pub hold-none : (held : List ℕ) (s : ℕ) → some_hold held s ≡ false → (w : ℕ) → w < 4 → held_at held w s ≡ 0
unfolding some_hold
hold-none held s e w l = eqb-true (held_at held w s) 0 (not-false (eqb (held_at held w s) 0) (none-at (λ v. not (eqb (held_at held v s) 0)) 4 w l e))

pub none-hold : (z : Sizes) (held : List ℕ) → Unheld z held → (s : ℕ) → s < z.slots → some_hold held s ≡ false
unfolding some_hold
none-hold z held h s l = none_made (λ v. not (eqb (held_at held v s) 0)) 4 (λ w m. rw (h w s m l))

-- with a writer closed
pub closed-unheld : (z : Sizes) → Legal z → (ws : Writers) (w : ℕ) → Unheld z ws.held → Unheld z (closed_writer z ws w).held
closed-unheld z g ws w h v s l m =
    case_on (eqb v w)
    (λ e. ap (λ (x : ℕ). held_at (closed_writer z ws w).held x s) (eqb-true v w e) ∙ closed-holds z g ws w s m)
    (λ e. others-hold z g ws w v s m (eqb-false v w e) ∙ h v s l m)

module _ (st : State) (unheld : Unheld st.sizes st.writers.held) where
  pub holds-none : (w p l : ℕ) → w < 4 → holds st w p l ≡ false
  holds-none w p l k =
      case_on (slotted st p)
      (λ t. rw (t, unheld w (slot_for st p) k (ltb-true (slot_for st p) st.sizes.slots t)) (in-none l))
      (λ t. rw t)

  pub silent : (img : List ℕ) (b : Reference) → length st.writers.opened ≡ 4 → length st.writers.held ≡ 64 → 4 ≤ st.writers.prepared
      → ((w p l i : ℕ) → w < 4 → p < st.sizes.pages → l < 64 → i < 64 → b.writes w p l i ≡ none) → Writing st img b Never
  silent img b four lines prepared none_written =
      record {
        four = four;
        sixty-four = lines;
        held_low = λ w s k l. rw (unheld w s k l) (omega arith);
        own-copy = λ w p l k h m n t. contradicts t (holds-none w p l k);
        no_writes = λ w p l i k h m j t. none_written w p l i k h m j;
        ready = λ l. absurd (omega arith);
      }
