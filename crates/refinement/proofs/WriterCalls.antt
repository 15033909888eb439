-- Where the writer is no wide one, the line that it sees, the finished line, the operations that it asks for and their rows are those without wide
-- transactions.
use Prim.Native.Nat.{ℕ, ◌<◌}
use mathlib.Core.Bool.{Bool, true, false, cond, not, ◌&&◌}
use mathlib.Core.List.{List, [], ◌∷◌, ◌++◌}
use mathlib.Core.Path.{◌≡◌, refl, ap, subst}
use native.Mathlib.Omega.{arith}
use borrow.Author.Tests.{eqb-true, ne_eqb, ltb-false}
use lib.ListN.{length}
use lib.Dec.{ltb}
use Rattle.bounded.specs.Rows.{Row, refusal, Numbered, Past}
use Rattle.bounded.proofs.Rows.{none-apply}
use Rattle.bounded.proofs.Tests.{case_on}
use Rattle.image.specs.Lines.{line_bytes, merged, merge_changes, line_words}
use Rattle.state.specs.State.{State}
use Rattle.state.specs.declared.Op.{Op}
use Rattle.state.specs.declared.Op.TheVariants.{Write, Commit, Log, Copy}
use Rattle.state.specs.Wide.{is_wide, some_wide}
use Rattle.operations.specs.Operations.{write_rows, log_rows, commit_rows, op_rows}
use Rattle.operations.proofs.Taken.{ArgsGood, write-taken, log-taken, commit-alone}
use Rattle.validity.specs.Validity.{op_fits, is_fresh}
use Rattle.refinement.specs.Frames.{seen_frame, holds}
use Rattle.refinement.specs.Calls.{row_state, row_short, row_pending, quiet_rows, seen_line, finished_line, changes_nothing, write_op, commit_op, write_call_rows}

-- where there is no wide transaction, no writer is a wide one
pub unwide : (st : State) (w : ℕ) → some_wide st.wide.writer ≡ false → w < 4 → is_wide st.wide w ≡ false
unwide st w e l = ne_eqb st.wide.writer w (λ q. omega (arith, q, ltb-false st.wide.writer 4 e))

-- the line in the frame that the writer sees, and the rows of a narrow write
abbrev pub frame_line : State → List ℕ → ℕ → ℕ → ℕ → List ℕ
frame_line st img w p l = line_bytes img st.sizes (seen_frame st w p l) l

module _ (st : State) (img : List ℕ) (w : ℕ) (other : is_wide st.wide w ≡ false) where
  pub seen-narrow : (p l : ℕ) → seen_line st img w p l ≡ frame_line st img w p l
  seen-narrow p l = rw other

  pub finished-narrow : (p l o n : ℕ) (bytes : List ℕ) → finished_line st img w p l o n bytes ≡ line_words (merged (frame_line st img w p l) o n bytes)
  finished-narrow p l o n bytes = ap (λ (x : List ℕ). line_words (merged x o n bytes)) (seen-narrow p l)

  pub changes-narrow : (p l o n : ℕ) (bytes : List ℕ) → changes_nothing st img w p l o n bytes ≡ holds st w p l && not (merge_changes (frame_line st img w p l) o n bytes)
  unfolding changes_nothing
  changes-narrow p l o n bytes = rw other

  pub write-narrow : (p l o n : ℕ) → write_op st w p l o n ≡ Write w p l o n
  write-narrow p l o n = ap (λ (x : Bool). cond x (Log p l o n) (Write w p l o n)) other

  pub commit-narrow : commit_op st w ≡ Commit w
  commit-narrow = ap (λ (x : Bool). cond x Copy (Commit w)) other

-- no row applies, so none of those past the first ones does
past_row : (b : Bool) (n m : ℕ) → 0 < n → cond b n m ≡ 0 → m ≡ 0
past_row true n m l e = absurd (omega arith)
past_row false n m l e = e

pub past-rows : (rs qs : List Row) → Numbered rs → refusal (rs ++ qs) ≡ 0 → refusal qs ≡ 0
past-rows [] qs n e = e
past-rows (r ∷ rs) qs n e = past-rows rs qs n.1 (past_row r.0 r.1 (refusal (rs ++ qs)) n.0 e)

-- nor does one of the first
keep_row : (b : Bool) (n m k : ℕ) → 0 < n → cond b n m ≡ 0 → (m ≡ 0 → k ≡ 0) → cond b n k ≡ 0
keep_row true n m k l e f = e
keep_row false n m k l e f = f e

first_rows : (rs qs : List Row) → Numbered rs → refusal (rs ++ qs) ≡ 0 → refusal rs ≡ 0
first_rows [] qs n e = refl
first_rows (r ∷ rs) qs n e = keep_row r.0 r.1 (refusal (rs ++ qs)) (refusal rs) n.0 e (first_rows rs qs n.1)

-- ---- of any writer: what it asks for fits, and no row of it applies where none of the call's does

module _ (st : State) (w : ℕ) where
  pub write-fits : (p l o n : ℕ) → op_fits st.wide.writer (is_fresh st) (write_op st w p l o n) ≡ true
  write-fits p l o n = case_on (is_wide st.wide w) (λ t. rw t) (λ t. rw t (ap not t))

  pub commit-fits : op_fits st.wide.writer (is_fresh st) (commit_op st w) ≡ true
  commit-fits = case_on (is_wide st.wide w) (λ t. rw t) (λ t. rw t (ap not t))

  pub commit-op-row : refusal (commit_rows st w) ≡ 0 → refusal (op_rows st (commit_op st w)) ≡ 0
  commit-op-row r = case_on (is_wide st.wide w) (λ t. rw (t, commit-alone st w r)) (λ t. rw t r)

-- of a write the rows after the first four; what these say; and its arguments
module _ (st : State) (img : List ℕ) (w p l o n : ℕ) (bytes : List ℕ) (r : refusal (write_call_rows st img w p l o n bytes) ≡ 0) where
  abbrev first : List Row
  first = quiet_rows st (length img) ++ ((ltb (length bytes) n, 11) ∷ [])

  abbrev rest : List Row
  rest = cond (is_wide st.wide w) (log_rows st p l o n) (write_rows st w p l o n)

  pub write-op-row : refusal (op_rows st (write_op st w p l o n)) ≡ 0
  write-op-row =
      let e : refusal rest ≡ 0 = past-rows first rest (omega arith) r in
      case_on (is_wide st.wide w) (λ t. rw t (rw t at e)) (λ t. rw t (rw t at e))

  pub write-first : Past first 4
  write-first = none-apply first (omega arith) (first_rows first rest (omega arith) r)

  pub write-args : ArgsGood st.sizes w p l o n
  write-args =
      let e : refusal rest ≡ 0 = past-rows first rest (omega arith) r in
      case_on (is_wide st.wide w)
      (λ t. subst (λ (x : ℕ). ArgsGood st.sizes x p l o n) (eqb-true st.wide.writer w t) (log-taken st p l o n (rw t at e)).args)
      (λ t. (write-taken st w p l o n (rw t at e)).args)
