-- Where an operation is pending, row 9 turns back every call but mount, recall, step and run: it changes nothing.
use Prim.Native.Nat.{ℕ, ◌≤◌}
use mathlib.Core.Bool.{true, false, not}
use mathlib.Core.List.{List}
use mathlib.Core.Path.{◌≡◌, sym, ap, ◌∙◌, subst}
use native.Mathlib.Omega.{arith}
use lib.Dec.{ltb}
use lib.ListN.{length}
use borrow.Author.Tests.{le-ltb}
use Rattle.bounded.proofs.Rows.{row_at}
use Rattle.layout.specs.Layout.{image_length}
use Rattle.state.specs.State.{State}
use Rattle.operations.specs.Operations.{is_idle}
use Rattle.validity.specs.Validity.{state_ok}
use Rattle.refinement.specs.Stores.{World}
use Rattle.refinement.specs.Calls.{begin_rows, begin_wide_rows, abort_rows, write_call_rows, commit_call_rows, prepare_call_rows, confirm_call_rows, consolidate_call_rows, free_call_rows, checkpoint_call_rows, read_rows, event_call_rows, load_rows, begin_of, begin_wide_of, abort_of, write_of, commit_of, prepare_of, confirm_of, withdraw_of, consolidate_of, free_of, checkpoint_of, event_of, load_of, read_row}
use Rattle.refinement.specs.Run.{Call, mount, checkpoint, free, step, begin, begin_wide, abort, commit, prepare, confirm, withdraw, consolidate, run, write, read, recall, event, load, exec}
use Rattle.refinement.specs.Reference.{Reference, turn}
use Rattle.refinement.specs.Statement.{Right}
use Rattle.refinement.specs.CutFormat.{ByState}
use Rattle.refinement.proofs.Refused.{refused-unchanged}

module _ (v : World) (ok : state_ok v.st ≡ true) (long : image_length v.st.sizes ≤ length v.image) (some : is_idle v.st.pending.op ≡ false) where
  abbrev st : State
  st = v.st

  abbrev img : List ℕ
  img = v.image

  valid : not (state_ok st) ≡ false
  valid = ap not ok

  fits : ltb (length img) (image_length st.sizes) ≡ false
  fits = le-ltb (length img) (image_length st.sizes) long

  pending : not (is_idle st.pending.op) ≡ true
  pending = ap not some

  pub nine : (c : Call) → ByState c → (exec c v).number ≡ 9
  unfolding exec begin_of begin_wide_of abort_of write_of commit_of prepare_of confirm_of withdraw_of consolidate_of free_of checkpoint_of event_of load_of read_row
  nine mount a = absurd a
  nine step a = absurd a
  nine (run k) a = absurd a
  nine (recall p l target) a = absurd a
  nine checkpoint a = sym (row_at (checkpoint_call_rows st img) 2 (omega arith) (valid, (fits, tt)) pending)
  nine free a = sym (row_at (free_call_rows st img) 2 (omega arith) (valid, (fits, tt)) pending)
  nine (begin w) a = sym (row_at (begin_rows st w) 1 (omega arith) (valid, tt) pending)
  nine (begin_wide w) a = sym (row_at (begin_wide_rows st w) 1 (omega arith) (valid, tt) pending)
  nine (abort w) a = sym (row_at (abort_rows st w) 1 (omega arith) (valid, tt) pending)
  nine (commit w) a = sym (row_at (commit_call_rows st img w) 2 (omega arith) (valid, (fits, tt)) pending)
  nine (prepare w) a = sym (row_at (prepare_call_rows st img w) 2 (omega arith) (valid, (fits, tt)) pending)
  nine (confirm w) a = sym (row_at (confirm_call_rows st img w) 2 (omega arith) (valid, (fits, tt)) pending)
  nine (withdraw w) a = sym (row_at (confirm_call_rows st img w) 2 (omega arith) (valid, (fits, tt)) pending)
  nine (consolidate p) a = sym (row_at (consolidate_call_rows st img p) 2 (omega arith) (valid, (fits, tt)) pending)
  nine (write w p l o n bytes) a = sym (row_at (write_call_rows st img w p l o n bytes) 2 (omega arith) (valid, (fits, tt)) pending)
  nine (read w p l target) a = sym (row_at (read_rows st img w p l target) 2 (omega arith) (valid, (fits, tt)) pending)
  nine (event ms k m x) a = sym (row_at (event_call_rows st img ms k m x) 2 (omega arith) (valid, (fits, tt)) pending)
  nine (load text) a = sym (row_at (load_rows st img text) 2 (omega arith) (valid, (fits, tt)) pending)

  -- the world stays, and nothing is answered that could be wrong
  pub nine-stays : (c : Call) → ByState c → (exec c v).world ≡ v
  nine-stays c a = (refused-unchanged c v (λ e. let x : ◌≡◌ {A = ℕ} 9 0 = sym (nine c a) ∙ e in absurd (omega arith))).world

  pub nine-keeps : (P : World → Reference → Type 0) (b : Reference) (c : Call) → ByState c → P v b → P (exec c v).world (turn c (exec c v).number (exec c v).stores b)
  nine-keeps P b c a h =
      subst (λ (n : ℕ). P (exec c v).world (turn c n (exec c v).stores b)) (sym (nine c a)) (subst (λ (u : World). P u b) (sym (nine-stays c a)) h)

  not_taken : {A : Type 0} (c : Call) → ByState c → (exec c v).number ≡ 0 → A
  not_taken c a e = let x : ◌≡◌ {A = ℕ} 9 0 = sym (nine c a) ∙ e in absurd (omega arith)

  pub nine-right : (b : Reference) (c : Call) → ByState c → Right c (exec c v) b
  nine-right b mount a = absurd a
  nine-right b step a = absurd a
  nine-right b (run k) a = absurd a
  nine-right b (recall p l target) a = absurd a
  nine-right b checkpoint a = tt
  nine-right b free a = tt
  nine-right b (begin w) a = tt
  nine-right b (begin_wide w) a = tt
  nine-right b (abort w) a = tt
  nine-right b (commit w) a = tt
  nine-right b (prepare w) a = tt
  nine-right b (confirm w) a = tt
  nine-right b (withdraw w) a = tt
  nine-right b (consolidate p) a = tt
  nine-right b (write w p l o n bytes) a = tt
  nine-right b (read w p l target) a = λ e. not_taken (read w p l target) a e
  nine-right b (event ms k m x) a = tt
  nine-right b (load text) a = λ e. not_taken (load text) a e
