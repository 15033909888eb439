-- A wide transaction is open: its lines are entries, which no mount counts yet. Without it there is a state in which nothing is pending and nothing is held,
-- which is what an abort leaves.
use Prim.Native.Nat.{ℕ, ◌-◌, ◌<◌, ◌≤◌}
use mathlib.Core.Bool.{true, false}
use mathlib.Core.List.{List}
use mathlib.Core.Path.{◌≡◌, refl, sym, ap, ◌∙◌}
use lib.Dec.{ltb, eqb}
use lib.ListN.{length}
use borrow.Author.Tests.{ltb-true, ltb-false, le-ltb, eq-eqb, eqb-true, eqb-false}
use Rattle.bounded.specs.Rows.{refusal}
use Rattle.bounded.proofs.Rows.{row-none}
use Rattle.bounded.proofs.Tests.{case_on, contradicts}
use Rattle.words.specs.Words.{Bytes, word}
use Rattle.image.specs.Lines.{line_words}
use Rattle.entries.specs.Entries.{key_of, key_page, key_line, keys_from, entry_of}
use Rattle.entries.proofs.EntryLaws.{length-keys}
use Rattle.state.specs.State.{State, Wide}
use Rattle.state.specs.declared.Op.{Op}
use Rattle.state.specs.declared.Op.TheVariants.{Idle, Write, Commit, Consolidate, Checkpoint, Event, Prepare, Confirm, Log, Copy, Format}
use Rattle.state.specs.Held.{is_open}
use Rattle.state.specs.Wide.{no_wide, entry_for}
use Rattle.operations.specs.Operations.{is_idle, op_rows, needs}
use Rattle.validity.specs.Validity.{state_ok}
use Rattle.refinement.specs.Commit.{closed_writer}
use Rattle.refinement.specs.Settled.{no_pending, with_writers, with_wide}
use Rattle.refinement.specs.Stores.{completed}
use Rattle.refinement.specs.Wide.{is_copy, entry_bytes, log_at, log_value}
use Rattle.refinement.specs.Reference.{Reference, none, idle, under, copying, writing, with_work, emptied, written, read_line, recall_line}
use Rattle.refinement.proofs.ValidWriters.{WideFine}
use Rattle.refinement.proofs.StateValid.{valid}
use Rattle.refinement.proofs.WideValid.{copied-valid}
use Rattle.refinement.proofs.Invariant.{Durable, Quiet, Busy}
use Rattle.refinement.proofs.Keeps.{durable-kept}
use Rattle.refinement.proofs.Silent.{Unheld, hold-none}
use Rattle.refinement.proofs.Copying.{key_at}
use Rattle.refinement.proofs.CopyEnds.{done-silent}

-- ---- the entries

-- the keys are those that a mount would read; each entry's line is what the writer reads, unless it is being written; a line without an entry has no
-- unfinished writes
pub record Entries (st : State) (img : List ℕ) (b : Reference) (being : ℕ → Type 0) : Type 0 where
  pub keys : st.wide.keys ≡ keys_from (word img) st.sizes st.wide.count
  pub line : (e : ℕ) → e < st.wide.count → (being e → ⊥)
      → entry_bytes img st.sizes e ≡ read_line b st.wide.writer (key_page (key_at st e)) (key_line (key_at st e))
  pub no_writes : (p l i : ℕ) → p < st.sizes.pages → l < 64 → i < 64 → entry_of st.wide.keys st.wide.count (key_of p l) ≡ st.wide.count
      → b.writes st.wide.writer p l i ≡ none

-- the entry that a pending write is changing
abbrev pub Logged : Wide → Op → ℕ → Type 0
Logged d (Log p l o n) e = e ≡ entry_for d p l
Logged d Idle e = ⊥
Logged d (Write w p l o n) e = ⊥
Logged d (Commit w) e = ⊥
Logged d (Consolidate p) e = ⊥
Logged d Checkpoint e = ⊥
Logged d (Event k m a) e = ⊥
Logged d (Prepare w) e = ⊥
Logged d (Confirm w) e = ⊥
Logged d Copy e = ⊥
Logged d Format e = ⊥

-- ---- what is pending

-- the state without the wide transaction, what is pending aside
abbrev pub shut : State → State
shut st = with_wide (with_writers st (closed_writer st.sizes st.writers st.wide.writer)) no_wide

-- a write by the wide writer: what the reference machine has under way, the finished line, and the stores made
pub record Logs (st : State) (img : List ℕ) (b : Reference) (p l o n : ℕ) : Type 0 where
  pub given : List ℕ
  pub work : b.work ≡ under (writing st.wide.writer p l o n given) (9 - st.pending.made)
  pub finished : st.pending.line ≡ line_words (read_line (written st.wide.writer p l o n given b) st.wide.writer p l)
  pub is-bytes : Bytes (read_line (written st.wide.writer p l o n given b) st.wide.writer p l)
  pub landed : (j : ℕ) → j < st.pending.made → word img (log_at st p l j) ≡ log_value st p l j

-- a consolidation or a checkpoint goes on beside it
abbrev pub Beside : Op → Type 0
Beside (Consolidate p) = Unit
Beside Checkpoint = Unit
Beside Idle = ⊥
Beside (Write w p l o n) = ⊥
Beside (Commit w) = ⊥
Beside (Event k m a) = ⊥
Beside (Prepare w) = ⊥
Beside (Confirm w) = ⊥
Beside (Log p l o n) = ⊥
Beside Copy = ⊥
Beside Format = ⊥

-- what goes on beside it is an operation, and no copying
pub beside-some : (op : Op) → Beside op → (is_idle op ≡ false) × (is_copy op ≡ false)
beside-some (Consolidate p) h = (refl, refl)
beside-some Checkpoint h = (refl, refl)
beside-some Idle h = absurd h
beside-some (Write w p l o n) h = absurd h
beside-some (Commit w) h = absurd h
beside-some (Event k m a) h = absurd h
beside-some (Prepare w) h = absurd h
beside-some (Confirm w) h = absurd h
beside-some (Log p l o n) h = absurd h
beside-some Copy h = absurd h
beside-some Format h = absurd h

pub data Stage (past : List ℕ) (st : State) (img : List ℕ) (b : Reference) : Type 0 where
  settled : st.pending ≡ no_pending → b.work ≡ idle → Stage past st img b
  writes : (p l o n : ℕ) → st.pending.op ≡ Log p l o n → Logs st img b p l o n → Stage past st img b
  -- the commit asked for, no store of it made
  asked : st.pending.op ≡ Copy → st.pending.made ≡ 0 → b.work ≡ copying st.wide.writer (needs st Copy) → Stage past st img b
  beside : Beside st.pending.op → Busy past (shut st) img (emptied st.wide.writer b) → Stage past st img b

pub record Logging (past : List ℕ) (st : State) (img : List ℕ) (b : Reference) : Type 0 where
  pub valid : state_ok st ≡ true
  pub low : st.wide.writer < 4
  pub book : b.wide ≡ st.wide.writer
  pub four : length st.writers.opened ≡ 4
  pub sixty-four : length st.writers.held ≡ 64
  pub durable : Durable past (completed st Copy) img b
  -- no other writer has unfinished writes
  pub alone : (v p l i : ℕ) → v < 4 → (v ≡ st.wide.writer → ⊥) → p < st.sizes.pages → l < 64 → i < 64 → b.writes v p l i ≡ none
  pub entries : Entries st img b (Logged st.wide st.pending.op)
  pub stage : Stage past st img b

-- of a reference machine with the same pages
pub same-pages : {past : List ℕ} (st : State) (img : List ℕ) (b c : Reference) → ((p l : ℕ) → p < st.sizes.pages → l < 64 → recall_line b p l ≡ recall_line c p l) → Durable past st img b
    → Durable past st img c
same-pages st img b c e D = durable-kept st img b c st.next st.writers st.pending e D

-- ---- what row 8 says beside a wide writer

module _ (st : State) (ok : state_ok st ≡ true) (low : st.wide.writer < 4) where
  pub fine : WideFine st.sizes st.writers.opened st.writers.held st.writers.prepared st.wide.writer
  fine = (valid st ok).wide low

  pub unheld : Unheld st.sizes st.writers.held
  unheld v s l m = hold-none st.writers.held s (fine.unheld s m) v l

  pub unprepared : 4 ≤ st.writers.prepared
  unprepared =
      case_on (ltb st.writers.prepared 4)
      (λ t.
      let l = ltb-true st.writers.prepared 4 t in
      contradicts ((valid st ok).prepared l).opens (fine.closed st.writers.prepared l fine.unprepared))
      (λ t. ltb-false st.writers.prepared 4 t)

  -- an open writer is the wide one
  pub only-open : (v : ℕ) → v < 4 → is_open st.writers.opened v ≡ true → st.wide.writer ≡ v
  only-open v l o =
      case_on (eqb st.wide.writer v)
      (λ t. eqb-true st.wide.writer v t)
      (λ t. contradicts o (fine.closed v l (λ e. eqb-false st.wide.writer v t (sym e))))

  pub copy-row : refusal (op_rows st Copy) ≡ 0
  copy-row = sym (row-none (op_rows st Copy) (le-ltb st.writers.prepared 4 unprepared, tt))

-- ---- the state without it

module _ {past : List ℕ} (st : State) (img : List ℕ) (b : Reference) (G : Logging past st img b) where
  pub keys-long : length st.wide.keys ≡ 64
  keys-long = ap length G.entries.keys ∙ length-keys (word img) st.sizes st.wide.count

  pub at_rest : Quiet past (completed st Copy) img (with_work idle (emptied st.wide.writer b))
  at_rest =
      let w : ℕ = st.wide.writer in
      let c : Reference = with_work idle (emptied w b) in
      record {
        valid = copied-valid st G.valid (copy-row st G.valid G.low);
        pending = refl;
        durable = durable-kept (completed st Copy) img b c st.next (closed_writer st.sizes st.writers w) no_pending (λ p l h k. refl) G.durable;
        writers =
            done-silent st img c G.valid (unheld st G.valid G.low) G.four G.sixty-four (unprepared st G.valid G.low)
            (λ v p l i lv lp ll li. case_on (eqb v w) (λ t. rw t) (λ t. rw t (G.alone v p l i lv (eqb-false v w t) lp ll li)));
        work = refl;
        narrow = record { state = refl; book = rw (eq-eqb b.wide w G.book) };
      }
