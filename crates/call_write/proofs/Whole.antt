-- The rows that come first and what is found after them are what a write finds.
use Prim.Native.Nat.{ℕ, ◌<◌, ◌≤◌}
use mathlib.Core.Bool.{cond}
use mathlib.Core.List.{List, ◌∷◌}
use mathlib.Core.Path.{◌≡◌, refl}
use native.Mathlib.Omega.{arith}
use lib.Dec.{ltb}
use lib.ListN.{length}
use Rattle.std.specs.Prelude.{Result, Ok, Err}
use Rattle.rows.specs.declared.Refusal.{Refusal}
use Rattle.rows.specs.Numbers.{number}
use Rattle.rows.proofs.Numbers.{number-some}
use Rattle.bounded.specs.Rows.{Row, refusal}
use Rattle.bounded.proofs.Rows.{rows-first, rows_then}
use Rattle.layout.specs.Layout.{Legal, image_length}
use Rattle.state.specs.State.{State}
use Rattle.state.specs.Wide.{is_wide}
use Rattle.operations.specs.Operations.{write_rows, log_rows}
use Rattle.refinement.specs.Calls.{quiet_rows}
use Rattle.refinement.proofs.Going.{ranges-of, entries-of}
use Rattle.refinement.proofs.Quiet.{quiet}
use Rattle.call_write.specs.declared.found.Found.{Found}
use Rattle.call_write.specs.Found.{FoundAfter, WriteFound}

abbrev rest : State → ℕ → ℕ → ℕ → ℕ → ℕ → List ℕ → List Row
rest st w p l o n bytes = (ltb (length bytes) n, 11) ∷ cond (is_wide st.wide w) (log_rows st p l o n) (write_rows st w p l o n)

-- one of the rows that come first
pub found-first : (st : State) (img : List ℕ) (w p l o n : ℕ) (bytes : List ℕ) (r : Refusal) → number r ≡ refusal (quiet_rows st (length img)) → WriteFound st img w p l o n bytes (Err r)
found-first st img w p l o n bytes r e = rows-first (quiet_rows st (length img)) (rest st w p l o n bytes) (number r) e (number-some r)

-- none of them
module _ (st : State) (img : List ℕ) (e : 0 ≡ refusal (quiet_rows st (length img))) where
  pub first-known : Legal st.sizes × (st.next < st.sizes.slots) × (st.wide.count ≤ 64) × (image_length st.sizes ≤ length img)
  first-known =
      let q = quiet st (length img) 0 e refl in
      let h = ranges-of st q.ok in (h.legal, h.next_low, omega (arith, (entries-of st q.ok).few, h.legal.entries-high), q.long)

  pub found-whole : (w p l o n : ℕ) (bytes : List ℕ) (r : Result Found Refusal) → FoundAfter st w p l o n bytes r → WriteFound st img w p l o n bytes r
  found-whole w p l o n bytes (Ok f) h = (rows_then (quiet_rows st (length img)) (rest st w p l o n bytes) 0 (quiet st (length img) 0 e refl).past h.0, h.1, h.2, h.3)
  found-whole w p l o n bytes (Err x) h = rows_then (quiet_rows st (length img)) (rest st w p l o n bytes) (number x) (quiet st (length img) 0 e refl).past h
