-- No row of a call applies: what rows 8, 4 and 9 tell. rs are the call's rows from 11 on.
use Prim.Native.Nat.{ℕ, ◌<◌, ◌≤◌}
use mathlib.Core.Bool.{Bool, true, false, not, cond}
use mathlib.Core.List.{List, ◌++◌}
use mathlib.Core.Path.{◌≡◌, refl, sym}
use native.Mathlib.Omega.{arith}
use lib.Dec.{ltb}
use borrow.Author.Tests.{ltb-false, not-false}
use Rattle.bounded.specs.Rows.{Row, refusal}
use Rattle.layout.specs.Layout.{image_length}
use Rattle.state.specs.State.{State}
use Rattle.operations.specs.Operations.{is_idle}
use Rattle.validity.specs.Validity.{state_ok}
use Rattle.refinement.specs.Calls.{quiet_rows}

row-past : (b : Bool) (k m : ℕ) → 0 < k → cond b k m ≡ 0 → (b ≡ false) × (m ≡ 0)
row-past true k m l e = absurd (omega arith)
row-past false k m l e = (refl, e)

-- none of rows 8, 4 and 9, nor of those that come after them
pub record Quieted (st : State) (n : ℕ) (rs : List Row) : Type 0 where
  pub ok : state_ok st ≡ true
  pub long : image_length st.sizes ≤ n
  pub idle : is_idle st.pending.op ≡ true
  pub rows : refusal rs ≡ 0

pub quieted : (st : State) (rs : List Row) (n : ℕ) → 0 ≡ refusal (quiet_rows st n ++ rs) → Quieted st n rs
quieted st rs n e =
    let third = cond (not (is_idle st.pending.op)) 9 (refusal rs) in
    let second = cond (ltb n (image_length st.sizes)) 4 third in
    let a = row-past (not (state_ok st)) 8 second (omega arith) (sym e) in
    let b = row-past (ltb n (image_length st.sizes)) 4 third (omega arith) a.1 in
    let c = row-past (not (is_idle st.pending.op)) 9 (refusal rs) (omega arith) b.1 in
    record { ok = not-false (state_ok st) a.0; long = ltb-false n (image_length st.sizes) b.0; idle = not-false (is_idle st.pending.op) c.0; rows = c.1 }
