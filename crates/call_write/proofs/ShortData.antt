-- Row 11 of a write that the row's other tests come after.
use Prim.Native.Nat.{ℕ}
use mathlib.Core.Bool.{Bool, true, false, ◌||◌, cond}
use mathlib.Core.List.{◌∷◌}
use mathlib.Core.Path.{◌≡◌, refl}
use lib.Dec.{ltb, leb}
use Rattle.bounded.specs.Rows.{refusal}
use Rattle.bounded.proofs.Tests.{case_on}
use Rattle.state.specs.State.{State}
use Rattle.operations.specs.Operations.{write_rows, log_rows}

-- row 11: short data, or a page past the last
pub write-bad : (short wide : Bool) (st : State) (w p l o n : ℕ) → short || leb st.sizes.pages p ≡ true
    → 11 ≡ refusal ((short, 11) ∷ cond wide (log_rows st p l o n) (write_rows st w p l o n))
write-bad true wide st w p l o n e = refl
write-bad false true st w p l o n e = case_on (ltb 3 st.wide.writer) (λ t. rw t) (λ t. rw (t, e))
write-bad false false st w p l o n e = case_on (ltb 3 w) (λ t. rw t) (λ t. rw (t, e))
