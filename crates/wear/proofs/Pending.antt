-- What a line asks for is pending, with none of its stores made; and where its stores go.
use Rattle.std.proofs.Common.{◌≡◌, ℕ, ◌+◌, ◌-◌, ◌*◌, ◌/◌, ◌%◌, ◌<◌, ◌≤◌, Bool, true, false, cond, not, eqb, List, get_or, replicate, sym, refl, ap, ◌∙◌, subst, ap₂, arith, eqb-true}
use borrow.Author.Tests.{eqb-false}
use Rattle.bounded.specs.Rows.{refusal}
use Rattle.bounded.proofs.Rows.{none-apply, row-none}
use Rattle.bounded.proofs.Tests.{case_on}
use Rattle.layout.specs.declared.Sizes.{Sizes}
use Rattle.layout.specs.Layout.{Legal, head_word, line_word}
use Rattle.replay.specs.Table.{slot_in}
use Rattle.state.specs.State.{State}
use Rattle.state.specs.declared.Op.{Op}
use Rattle.state.specs.declared.Op.TheVariants.{Write, Commit, Consolidate, Checkpoint, Log, Copy, Format}
use Rattle.state.specs.Wide.{is_wide}
use Rattle.operations.specs.Operations.{needs, consolidate_rows}
use Rattle.operations.proofs.Taken.{commit-taken, consolidate-taken}
use Rattle.refinement.specs.Frames.{other_frame, page_slot}
use Rattle.refinement.specs.Write.{write_slot}
use Rattle.refinement.specs.Consolidate.{copy_to, copy_lines}
use Rattle.refinement.specs.Settled.{with_pending}
use Rattle.refinement.specs.Stores.{World, store_at}
use Rattle.refinement.specs.Outcome.{Outcome, answered}
use Rattle.refinement.specs.Calls.{world_of, asked, commit_call_rows, commit_of, consolidate_call_rows, consolidate_of, checkpoint_call_rows, checkpoint_of}
use Rattle.refinement.specs.Calls.{write_call_rows, changes_nothing, finished_line, write_of, begin_of, abort_of}
use Rattle.refinement.specs.Mount.{mount_call}
use Rattle.refinement.specs.Run.{begin, abort, commit, consolidate, checkpoint, mount, write, exec}
use Rattle.refinement.proofs.AskCommit.{op_row}
use Rattle.refinement.proofs.WriterCalls.{unwide, commit-narrow, write-narrow, write-args}
use Rattle.placing.specs.Placing.{records_of, recorded_in, copies_of, Placed}
use Rattle.placing.proofs.Placed.{each_placed}
use Rattle.wear.specs.Wear.{word_of}
use Rattle.wear.specs.Shares.{ends_at, frame_of}
use Rattle.wear.proofs.Laid.{Laid, write-laid, commit-laid, checkpoint-laid, consolidate-laid}

-- ---- an operation pending

pub record Pends (v : World) (n : ℕ) (op : Op) : Type 0 where
  pub asks : v.st.pending.op ≡ op
  pub made : v.st.pending.made ≡ 0
  pub needed : n ≡ needs v.st op

-- one that was asked for by its own rows, and needs stores
pub asked-pends : (row : ℕ) (st : State) (op : Op) (line : List ℕ) → ((asked row st op line).stores ≡ 0 → ⊥)
    → (row ≡ 0) × ((asked row st op line).state ≡ with_pending st op line) × ((asked row st op line).stores ≡ needs st op)
asked-pends row st op line some =
    case_on (eqb row 0)
    (λ t.
    case_on (eqb (needs st op) 0)
    (λ u. absurd (some (rw t (eqb-true (needs st op) 0 u))))
    (λ u. (eqb-true row 0 t, rw (t, u), rw t)))
    (λ t. absurd (some (rw t)))

module _ {v : World} {n : ℕ} {op : Op} (p : Pends v n op) where
  pub word-is : (i : ℕ) → word_of v i ≡ store_at v.st op i
  word-is i =
      let none : 0 + i ≡ i = omega arith in
      ap₂ (λ (o : Op) (k : ℕ). store_at v.st o (k + i)) p.asks p.made ∙ ap (store_at v.st op) none

  pub first-is : store_at v.st v.st.pending.op v.st.pending.made ≡ store_at v.st op 0
  first-is = ap₂ (λ (o : Op) (k : ℕ). store_at v.st o k) p.asks p.made

-- ---- where its stores go

module _ (v : World) (n : ℕ) (legal : Legal v.st.sizes) (some : n ≡ 0 → ⊥) (i : ℕ) (low : i < n) where
  abbrev z : Sizes
  z = v.st.sizes

  abbrev first : ℕ
  first = store_at v.st v.st.pending.op v.st.pending.made

  placed : Placed v.st v.image
  placed = each_placed v.st v.image legal

  pub laid-write : (w p l o k : ℕ) → Pends v n (Write w p l o k) → Laid z (ends_at (frame_of z first) n n n) (word_of v i) i
  unfolding needs
  laid-write w p l o k q =
      let op = Write w p l o k in
      let f = other_frame (slot_in v.st.table (write_slot v.st p)) l in
      let eight : n ≡ 8 = q.needed in
      let at : first ≡ line_word z f l = first-is q ∙ omega arith in
      rw (word-is q i, eight) (write-laid z legal f l i first (omega arith) at)

  pub laid-commit : (w : ℕ) → Pends v n (Commit w) → Laid z (ends_at (frame_of z first) 0 0 (n - 1)) (word_of v i) i
  unfolding needs
  laid-commit w q =
      let m = records_of v.st w in
      let all : n ≡ 4 * m + 1 =
      case_on (eqb m 0) (λ t. absurd (some (q.needed ∙ rw t))) (λ t. q.needed ∙ rw t) in
      rw (word-is q i, all)
      (commit-laid z legal (frame_of z first) m (store_at v.st (Commit w) i) i (omega (arith, all)) (placed.records w i)
      (λ l. omega (arith, placed.head w i l)))

  pub laid-checkpoint : Pends v n Checkpoint → Laid z (ends_at (frame_of z first) 0 (n - 1) (n - 1)) (word_of v i) i
  unfolding needs
  laid-checkpoint q =
      let m = recorded_in v.st in
      let all : n ≡ 3 * m + 1 =
      case_on (eqb v.st.head v.st.tail) (λ t. absurd (some (q.needed ∙ rw t))) (λ t. q.needed ∙ rw t) in
      rw (word-is q i, all)
      (checkpoint-laid z legal (frame_of z first) m (store_at v.st Checkpoint i) i (omega (arith, all)) (placed.slots i)
      (λ l. omega (arith, placed.tail i l)))

  pub laid-consolidate : (p : ℕ) → p < z.pages → Pends v n (Consolidate p) → Laid z (ends_at (frame_of z first) (n - 6) (n - 5) (n - 1)) (word_of v i) i
  unfolding needs
  laid-consolidate p page q =
      let c = copies_of v.st p in
      let t = page_slot v.st p in
      let all : n ≡ 8 * c + 6 = q.needed in
      let line : ℕ → ℕ = λ j. get_or (copy_lines t) j 64 in
      let begins : 0 < c → first ≡ line_word z (copy_to t) (line 0) =
      λ s. first-is q ∙ placed.copies p 0 (omega arith) ∙ omega arith in
      rw (word-is q i, all)
      (consolidate-laid z legal c (copy_to t) first (store_at v.st (Consolidate p) i) i line (placed.few p) (omega (arith, all)) (placed.lines p) begins
      (placed.copies p i)
      (λ s. let e = placed.page p i s in (omega (arith, e), omega (arith, e)))
      (placed.freeing p i)
      (λ s. omega (arith, placed.freed p i s)))
