-- What the rows of a write say, and the operation that it asks for. found is what the code found.
use Prim.Native.Nat.{ℕ, ◌+◌, ◌<◌, ◌≤◌}
use mathlib.Core.Bool.{Bool, true, false, not, cond, ◌&&◌}
use mathlib.Core.List.{List, [], ◌∷◌, ◌++◌}
use mathlib.Core.Path.{◌≡◌, refl, sym, ap, ◌∙◌, subst}
use native.Mathlib.Omega.{arith}
use lib.Dec.{ltb}
use lib.ListN.{length}
use Rattle.std.specs.Prelude.{Ok}
use borrow.Author.Tests.{ltb-false, eqb-true}
use Rattle.bounded.specs.Rows.{refusal}
use Rattle.bounded.proofs.Rows.{row-none, none-apply}
use Rattle.bounded.proofs.Tests.{case_on}
use Rattle.layout.specs.Layout.{Legal, image_length}
use Rattle.image.specs.Lines.{merged, merge_changes, line_words}
use Rattle.state.specs.State.{State}
use Rattle.state.specs.declared.Pending.{Pending}
use Rattle.state.specs.declared.Op.{Op}
use Rattle.state.specs.declared.Op.TheVariants.{Write, Log}
use Rattle.state.specs.Wide.{is_wide}
use Rattle.operations.specs.Operations.{is_idle, write_rows, log_rows, op_rows, needs}
use Rattle.validity.specs.Validity.{op_fits, is_fresh}
use Rattle.operations.proofs.Taken.{ArgsGood, write-taken, log-taken}
use Rattle.refinement.proofs.WriterCalls.{write-fits, write-op-row}
use Rattle.refinement.specs.Calls.{quiet_rows, seen_line, finished_line, write_call_rows, write_op, changes_nothing}
use Rattle.refinement.proofs.Quiet.{Quiet, quiet}
use Rattle.refinement.proofs.Going.{ranges-of}
use Rattle.call_write.specs.declared.found.Found.{Found}
use Rattle.call_write.specs.Found.{WriteFound, SeenLow, found_line}
use Rattle.call_write.proofs.FoundLine.{found-seen, found-low}
use Rattle.asked.proofs.Asked.{pending_from}

-- what no row of a write tells
pub record WriteNone (st : State) (img : List ℕ) (w p l o n : ℕ) (bytes : List ℕ) : Type 0 where
  pub quiet : Quiet st (length img)
  pub long : n ≤ length bytes
  pub args : ArgsGood st.sizes w p l o n

pub write-none : (st : State) (img : List ℕ) (w p l o n : ℕ) (bytes : List ℕ) → refusal (write_call_rows st img w p l o n bytes) ≡ 0 → WriteNone st img w p l o n bytes
write-none st img w p l o n bytes e =
    let first = quiet_rows st (length img) ++ ((ltb (length bytes) n, 11) ∷ []) in
    case_on (is_wide st.wide w)
    (λ t.
    let q : st.wide.writer ≡ w = eqb-true st.wide.writer w t in
    let h = none-apply (first ++ log_rows st p l o n) (omega arith) (rw t at e) in
    let g = log-taken st p l o n (sym (row-none (log_rows st p l o n) h.1.1.1.1)) in
    record {
      quiet = quiet st (length img) 0 (row-none (quiet_rows st (length img)) (h.0, (h.1.0, (h.1.1.0, tt)))) refl;
      long = ltb-false (length bytes) n h.1.1.1.0;
      args = subst (λ (x : ℕ). ArgsGood st.sizes x p l o n) q g.args;
    })
    (λ t.
    let h = none-apply (first ++ write_rows st w p l o n) (omega arith) (rw t at e) in
    let g = write-taken st w p l o n (sym (row-none (write_rows st w p l o n) h.1.1.1.1)) in
    record {
      quiet = quiet st (length img) 0 (row-none (quiet_rows st (length img)) (h.0, (h.1.0, (h.1.1.0, tt)))) refl;
      long = ltb-false (length bytes) n h.1.1.1.0;
      args = g.args;
    })

-- what the merge requires of what was found
pub write-merge : (st : State) (img : List ℕ) (w p l o n : ℕ) (bytes : List ℕ) (found : Found) → WriteFound st img w p l o n bytes (Ok found)
    → Legal st.sizes × SeenLow st.sizes found × (l < 64) × (image_length st.sizes ≤ length img) × (o + n ≤ 64) × (n ≤ length bytes)
write-merge st img w p l o n bytes found f =
    let q = write-none st img w p l o n bytes (sym f.0) in (
      (ranges-of st q.quiet.ok).legal,
      found-low st img w p l o n bytes found f q.quiet.ok q.args.page-low,
      q.args.line_low,
      q.quiet.long,
      q.args.fits,
      q.long,
    )

-- whether it changes nothing, as the code tests it
pub idle-is : (st : State) (img : List ℕ) (w p l o n : ℕ) (bytes : List ℕ) (found : Found) → WriteFound st img w p l o n bytes (Ok found)
    → (changed : Bool) → changed ≡ merge_changes (found_line img st.sizes found l) o n bytes → found.held && not changed ≡ changes_nothing st img w p l o n bytes
unfolding changes_nothing
idle-is st img w p l o n bytes found f changed c =
    let s : changed ≡ merge_changes (seen_line st img w p l) o n bytes = c ∙ ap (λ (x : List ℕ). merge_changes x o n bytes) (found-seen st img w p l o n bytes found f).1 in
    rw (f.2, s)

-- the pending operation, as the code has it
pub pending-is : (st : State) (img : List ℕ) (w p l o n : ℕ) (bytes : List ℕ) (found : Found) → WriteFound st img w p l o n bytes (Ok found)
    → (words : List ℕ) → words ≡ line_words (merged (found_line img st.sizes found l) o n bytes)
    → (op : Op) (q : Pending) → op ≡ cond found.wide (Log p l o n) (Write w p l o n) → q ≡ pending_from op words
    → q ≡ pending_from (write_op st w p l o n) (finished_line st img w p l o n bytes)
pending-is st img w p l o n bytes found f words m op q a e =
    let b : op ≡ write_op st w p l o n = rw f.3 at a in
    let s : words ≡ finished_line st img w p l o n bytes = m ∙ ap (λ (x : List ℕ). line_words (merged x o n bytes)) (found-seen st img w p l o n bytes found f).1 in
    rw (b, s) at e

-- the operation that a taken write asks for: no row turns it back, it fits the writer, and it needs stores
module _ (st : State) (img : List ℕ) (w p l o n : ℕ) (bytes : List ℕ) where
  pub op-rows : refusal (write_call_rows st img w p l o n bytes) ≡ 0 → refusal (op_rows st (write_op st w p l o n)) ≡ 0
  op-rows e = write-op-row st img w p l o n bytes e

  pub op_does_fit : op_fits st.wide.writer (is_fresh st) (write_op st w p l o n) ≡ true
  op_does_fit = write-fits st w p l o n

  pub op-busy : is_idle (write_op st w p l o n) ≡ false
  op-busy = case_on (is_wide st.wide w) (λ t. rw t refl) (λ t. rw t refl)

  pub op-needs : needs st (write_op st w p l o n) ≡ cond (is_wide st.wide w) 9 8
  unfolding needs
  op-needs = case_on (is_wide st.wide w) (λ t. rw t refl) (λ t. rw t refl)
