-- The calls that lines ask for: one that needs stores has its operation pending.
use Rattle.std.proofs.Common.{◌≡◌, ℕ, ◌+◌, ◌-◌, ◌<◌, ◌≤◌, min, Bool, true, false, cond, eqb, List, replicate, sym, refl, ap, ◌∙◌, subst, ap₂, arith, eqb-true}
use borrow.Author.Tests.{eqb-false}
use Rattle.bounded.specs.Below.{count_below}
use Rattle.bounded.specs.Rows.{refusal}
use Rattle.bounded.proofs.Below.{count-ext}
use Rattle.bounded.proofs.Rows.{none-apply, row-none}
use Rattle.bounded.proofs.Tests.{case_on}
use Rattle.layout.specs.Layout.{Legal}
use Rattle.state.specs.State.{State}
use Rattle.state.specs.declared.Op.{Op}
use Rattle.state.specs.declared.Op.TheVariants.{Write, Commit, Consolidate, Checkpoint, Log}
use Rattle.state.specs.Wide.{some_wide, is_wide}
use Rattle.operations.specs.Operations.{needs, consolidate_rows}
use Rattle.operations.proofs.Taken.{commit-taken, consolidate-taken}
use Rattle.refinement.specs.Settled.{with_pending}
use Rattle.refinement.specs.Stores.{World, store_at, left}
use Rattle.refinement.specs.Outcome.{Outcome, answered}
use Rattle.refinement.specs.Calls.{world_of, asked, commit_call_rows, commit_of, consolidate_call_rows, consolidate_of, checkpoint_call_rows, checkpoint_of}
use Rattle.refinement.specs.Calls.{write_call_rows, changes_nothing, finished_line, write_op, write_of, begin_rows, begin_of, abort_rows, abort_of, commit_op}
use Rattle.refinement.specs.Mount.{no_state, mount_call}
use Rattle.mount.specs.Mount.{mount_of}
use Rattle.refinement.specs.Run.{Result, begin, abort, commit, consolidate, checkpoint, mount, write, exec}
use Rattle.refinement.proofs.AskCommit.{op_row}
use Rattle.refinement.proofs.CallAsked.{needs-asked}
use Rattle.refinement.proofs.WriterCalls.{unwide, commit-narrow, write-narrow, write-args}
use Rattle.calling.specs.WriteLine.{num, data_of}
use Rattle.forms.specs.declared.Ask.{Ask}
use Rattle.forms.specs.declared.Ask.TheVariants.{Begin, Commit as Commits, Abort, Write as Writes, Consolidate as Consolidates, Checkpoint as Checkpoints, Mount}
use Rattle.executing.specs.Called.{call_of}
use Rattle.wear.specs.declared.shares.Ends.{Ends}
use Rattle.wear.specs.Wear.{wear_of, word_of, worn_by, is_write}
use Rattle.wear.specs.Shares.{wear_at, Rising, asked_ends, frame_of}
use Rattle.wear.specs.Performs.{Narrow}
use Rattle.wear.proofs.Laid.{Laid, laid-wear, rising-at}
use Rattle.wear.proofs.Pending.{Pends, asked-pends, laid-write, laid-commit, laid-checkpoint, laid-consolidate}

-- a call that asks for no operation has no stores
no_stores : (row : ℕ) → ◌≡◌ {A = ℕ} (cond (eqb row 0) 0 0) 0
no_stores row = case_on (eqb row 0) (λ t. rw t) (λ t. rw t)

pub no-stores-begin : (st : State) (w : ℕ) → (begin_of st w).stores ≡ 0
unfolding begin_of
no-stores-begin st w = no_stores (refusal (begin_rows st w))

pub no-stores-abort : (st : State) (w : ℕ) → (abort_of st w).stores ≡ 0
unfolding abort_of
no-stores-abort st w = no_stores (refusal (abort_rows st w))

pub no-stores-mount : (img : List ℕ) → (mount_call img).stores ≡ 0
unfolding mount_call
no-stores-mount img = no_stores (mount_of img).row

module _ (st : State) (img : List ℕ) where
  pends-of : (s : State) (n : ℕ) (op : Op) (line : List ℕ) → s ≡ with_pending st op line → n ≡ needs st op → Pends (world_of s img) n op
  pends-of s n op line e h =
      record {
        asks = ap (λ (x : State). x.pending.op) e;
        made = ap (λ (x : State). x.pending.made) e;
        needed = h ∙ sym (ap (λ (x : State). needs x op) e ∙ needs-asked st line op op);
      }

  -- an operation asked for by its own rows
  by_rows : (row : ℕ) (op : Op) → ((asked row st op (replicate 8 0)).stores ≡ 0 → ⊥)
      → (row ≡ 0) × Pends (world_of (asked row st op (replicate 8 0)).state img) (asked row st op (replicate 8 0)).stores op
  by_rows row op some =
      let o = asked row st op (replicate 8 0) in
      let h = asked-pends row st op (replicate 8 0) some in
      (h.0, pends-of o.state o.stores op (replicate 8 0) h.1 h.2)

  pub checkpoint-pends : ((checkpoint_of st img).stores ≡ 0 → ⊥) → Pends (world_of (checkpoint_of st img).state img) (checkpoint_of st img).stores Checkpoint
  unfolding checkpoint_of
  checkpoint-pends some = (by_rows (refusal (checkpoint_call_rows st img)) Checkpoint some).1

  pub consolidate-pends : (p : ℕ) → ((consolidate_of st img p).stores ≡ 0 → ⊥)
      → (p < (consolidate_of st img p).state.sizes.pages) × Pends (world_of (consolidate_of st img p).state img) (consolidate_of st img p).stores (Consolidate p)
  unfolding consolidate_of
  consolidate-pends p some =
      let h = by_rows (refusal (consolidate_call_rows st img p)) (Consolidate p) some in
      let rows = none-apply (consolidate_call_rows st img p) (omega arith) h.0 in
      let row : refusal (consolidate_rows st p) ≡ 0 = sym (row-none (consolidate_rows st p) rows.1.1.1) in
      let s = (asked-pends (refusal (consolidate_call_rows st img p)) st (Consolidate p) (replicate 8 0) some).1 in
      let same : (consolidate_of st img p).state.sizes.pages ≡ st.sizes.pages = ap (λ (x : State). x.sizes.pages) s in
      (omega (arith, same, (consolidate-taken st p row).page-low), h.1)

  module _ (narrow : Narrow st) where
    none-wide : some_wide st.wide.writer ≡ false
    none-wide = rw narrow

    pub commit-pends : (w : ℕ) → ((commit_of st img w).stores ≡ 0 → ⊥) → Pends (world_of (commit_of st img w).state img) (commit_of st img w).stores (Commit w)
    unfolding commit_of
    commit-pends w some =
        let h = by_rows (refusal (commit_call_rows st img w)) (commit_op st w) some in
        let low = (commit-taken st w (op_row st img w h.0)).writer-low in
        subst (λ (op : Op). Pends (world_of (commit_of st img w).state img) (commit_of st img w).stores op)
        (commit-narrow st img w (unwide st w none-wide low)) h.1

    pub write-pends : (w p l o n : ℕ) (bytes : List ℕ) → ((write_of st img w p l o n bytes).stores ≡ 0 → ⊥)
        → Pends (world_of (write_of st img w p l o n bytes).state img) (write_of st img w p l o n bytes).stores (Write w p l o n)
    unfolding write_of needs
    write-pends w p l o n bytes some =
        let row = refusal (write_call_rows st img w p l o n bytes) in
        let idle = changes_nothing st img w p l o n bytes in
        case_on (eqb row 0)
        (λ t.
        case_on idle
        (λ u. absurd (some (rw (t, u))))
        (λ u.
        let low = (write-args st img w p l o n bytes (eqb-true row 0 t)).writer-low in
        let other = unwide st w none-wide low in
        pends-of (write_of st img w p l o n bytes).state (write_of st img w p l o n bytes).stores (Write w p l o n) (finished_line st img w p l o n bytes)
        (rw (t, u, other)) (rw (t, u, other))))
        (λ t. absurd (some (rw t)))

-- all that an operation needs is left of it
pub left-all : (v : World) (n : ℕ) (op : Op) → Pends v n op → left v.st ≡ n
left-all v n op h = ap₂ (λ (o : Op) (m : ℕ). needs v.st o - m) h.asks h.made ∙ omega (arith, h.needed)

module _ (st : State) (img : List ℕ) (narrow : Narrow st) where
  abbrev called : Ask → ℕ → List ℕ → Result
  called a count numbers = exec (call_of a count numbers) (world_of st img)

  -- the frame of the first store's word
  abbrev pub first_frame : World → ℕ
  first_frame v = frame_of v.st.sizes (store_at v.st v.st.pending.op v.st.pending.made)

  abbrev LaidBy : Ask → ℕ → List ℕ → Type 0
  LaidBy a count numbers =
      let d = called a count numbers in
      (d.stores ≡ 0 → ⊥) → Legal d.world.st.sizes → (i : ℕ) → i < left d.world.st
      → Laid d.world.st.sizes (asked_ends a d.stores (first_frame d.world)) (word_of d.world i) i

  asked-laid : (a : Ask) (count : ℕ) (numbers : List ℕ) → LaidBy a count numbers
  unfolding exec
  asked-laid Begin count numbers some legal i low =
      absurd (some (no-stores-begin st (num numbers 0)))
  asked-laid Abort count numbers some legal i low =
      absurd (some (no-stores-abort st (num numbers 0)))
  asked-laid Mount count numbers some legal i low =
      absurd (some (no-stores-mount img))
  asked-laid Commits count numbers some legal i low =
      let w = num numbers 0 in
      let o = commit_of st img w in
      let v = world_of o.state img in
      let h = commit-pends st img narrow w some in
      laid-commit v o.stores legal some i (omega (arith, left-all v o.stores (Commit w) h)) w h
  asked-laid Writes count numbers some legal i low =
      let n = num numbers in
      let o = write_of st img (n 0) (n 1) (n 2) (n 3) (n 4) (data_of count numbers) in
      let v = world_of o.state img in
      let h = write-pends st img narrow (n 0) (n 1) (n 2) (n 3) (n 4) (data_of count numbers) some in
      laid-write v o.stores legal some i (omega (arith, left-all v o.stores (Write (n 0) (n 1) (n 2) (n 3) (n 4)) h)) (n 0) (n 1) (n 2) (n 3) (n 4) h
  asked-laid Consolidates count numbers some legal i low =
      let p = num numbers 0 in
      let o = consolidate_of st img p in
      let v = world_of o.state img in
      let h = consolidate-pends st img p some in
      laid-consolidate v o.stores legal some i (omega (arith, left-all v o.stores (Consolidate p) h.1)) p h.0 h.1
  asked-laid Checkpoints count numbers some legal i low =
      let o = checkpoint_of st img in
      let v = world_of o.state img in
      let h = checkpoint-pends st img some in
      laid-checkpoint v o.stores legal some i (omega (arith, left-all v o.stores Checkpoint h)) h

  -- so what the stores made count for is told by their numbers
  pub asked-worn : (a : Ask) (count : ℕ) (numbers : List ℕ) (n : ℕ) → (let d = called a count numbers in
      (d.stores ≡ 0 → ⊥) → Legal d.world.st.sizes → n ≤ left d.world.st → (w : Bool) (k : ℕ)
      → worn_by d.world w n k ≡ count_below n (λ i. wear_at (asked_ends a d.stores (first_frame d.world)) w i k))
  unfolding worn_by
  asked-worn a count numbers n some legal few w k =
      let d = called a count numbers in
      let z = d.world.st.sizes in
      let e = asked_ends a d.stores (first_frame d.world) in
      count-ext (λ i. wear_of z w (word_of d.world i) k) (λ i. wear_at e w i k) n
      (λ i l. laid-wear z e (word_of d.world i) i (asked-laid a count numbers some legal i (omega arith)) w k)

-- the parts end one after the other
pub asked-rising : (a : Ask) (n frame : ℕ) → Rising (asked_ends a n frame)
asked-rising Begin n frame = rising-at frame 0 0 0 (omega arith) (omega arith)
asked-rising Commits n frame = rising-at frame 0 0 (n - 1) (omega arith) (omega arith)
asked-rising Abort n frame = rising-at frame 0 0 0 (omega arith) (omega arith)
asked-rising Writes n frame = rising-at frame n n n (omega arith) (omega arith)
asked-rising Consolidates n frame = rising-at frame (n - 6) (n - 5) (n - 1) (omega arith) (omega arith)
asked-rising Checkpoints n frame = rising-at frame 0 (n - 1) (n - 1) (omega arith) (omega arith)
asked-rising Mount n frame = rising-at frame 0 0 0 (omega arith) (omega arith)
