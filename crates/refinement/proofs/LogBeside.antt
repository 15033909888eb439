-- A consolidation, a slot to be freed and a checkpoint, asked for while a wide transaction is open: what they ask of the state is so of the state without it.
use Prim.Native.Nat.{ℕ, ◌<◌}
use mathlib.Core.Bool.{true, false, not}
use mathlib.Core.List.{List}
use mathlib.Core.Logic.{inr}
use mathlib.Core.Path.{◌≡◌, refl, sym, subst}
use native.Mathlib.Omega.{arith}
use lib.ListN.{replicate}
use borrow.Author.Tests.{ltb-true}
use Rattle.bounded.specs.Rows.{refusal}
use Rattle.bounded.proofs.Rows.{none-apply, row-none}
use Rattle.state.specs.State.{State}
use Rattle.state.specs.declared.Op.{Op}
use Rattle.state.specs.declared.Op.TheVariants.{Consolidate, Checkpoint, Copy, Commit, Confirm, Event, Format, Idle, Log, Prepare, Write}
use Rattle.operations.specs.Operations.{is_idle, needs, op_rows, slot_for, consolidate_rows}
use Rattle.operations.proofs.Taken.{consolidate-taken}
use Rattle.validity.specs.Validity.{op_fits, is_fresh}
use Rattle.refinement.specs.Commit.{closed_writer}
use Rattle.refinement.specs.Freeing.{freed_page}
use Rattle.refinement.specs.Stores.{World, completed}
use Rattle.refinement.specs.Calls.{world_of, with_pending, asked, consolidate_call_rows, consolidate_of, free_call_rows, free_of, checkpoint_call_rows, checkpoint_of}
use Rattle.refinement.specs.Run.{Call, consolidate, free, checkpoint, exec}
use Rattle.refinement.specs.Reference.{Reference, under, nothing, idle, with_work, emptied, starts, taken, turn}
use Rattle.refinement.proofs.CallAsked.{pending-valid}
use Rattle.refinement.proofs.StateValid.{valid}
use Rattle.refinement.proofs.Invariant.{Busy}
use Rattle.refinement.proofs.Asked.{all_left, asked-busy}
use Rattle.refinement.proofs.AskCheckpoint.{none_needed, same-lasts}
use Rattle.refinement.proofs.Choice.{free-rows}
use Rattle.refinement.proofs.Silent.{none-hold, closed-unheld}
use Rattle.refinement.proofs.StepBeside.{regain}
use Rattle.refinement.proofs.Logging.{Beside, Logging, unheld, at_rest}
use Rattle.refinement.proofs.LoggingStanding.{unlogged, logging-standing}
use Rattle.refinement.proofs.Cases.{logging, Kept, Then, Invariant}
use Rattle.refinement.proofs.Next.{asked-next}

module _ {past : List ℕ} (st : State) (img : List ℕ) (b : Reference) (G : Logging past st img b) (idles : not (is_idle st.pending.op) ≡ false) where
  abbrev w : ℕ
  w = st.wide.writer

  abbrev rest : State
  rest = completed st Copy

  -- no line of the page's slot is held without it either
  rest-row : (p : ℕ) → refusal (consolidate_rows st p) ≡ 0 → refusal (consolidate_rows rest p) ≡ 0
  unfolding closed_writer
  rest-row p e =
      let rows = none-apply (consolidate_rows st p) (omega arith) e in
      let low = ltb-true (slot_for st p) st.sizes.slots (consolidate-taken st p e).has-slot in
      let none = none-hold st.sizes rest.writers.held (closed-unheld st.sizes (valid st G.valid).legal st.writers w (unheld st G.valid G.low)) (slot_for st p) low in
      sym (row-none (consolidate_rows rest p) (rows.0, (rows.1.0, (rows.1.1.0, (none, (rows.1.1.1.1.0, tt))))))

  rest-needs : (op : Op) → Beside op → needs rest op ≡ needs st op
  unfolding needs
  rest-needs (Consolidate p) s = refl
  rest-needs Checkpoint s = refl
  rest-needs Idle s = elim s [ ]
  rest-needs (Write _ _ _ _ _) s = elim s [ ]
  rest-needs (Commit _) s = elim s [ ]
  rest-needs (Event _ _ _) s = elim s [ ]
  rest-needs (Prepare _) s = elim s [ ]
  rest-needs (Confirm _) s = elim s [ ]
  rest-needs (Log _ _ _ _) s = elim s [ ]
  rest-needs Copy s = elim s [ ]
  rest-needs Format s = elim s [ ]

  -- it is pending in the state without the wide transaction
  rest-busy : (op : Op) → Beside op → 0 < needs rest op → refusal (op_rows rest op) ≡ 0
      → Busy past (with_pending rest op (replicate 8 0)) img (with_work (under nothing (needs rest op)) (emptied w b))
  rest-busy (Consolidate p) s l r =
      asked-busy rest img (with_work idle (emptied w b)) (Consolidate p) (replicate 8 0) nothing (at_rest st img b G) refl l r (all_left rest (Consolidate p) (replicate 8 0) nothing)
  rest-busy Checkpoint s l r =
      asked-busy rest img (with_work idle (emptied w b)) Checkpoint (replicate 8 0) nothing (at_rest st img b G) refl l r (all_left rest Checkpoint (replicate 8 0) nothing)
  rest-busy Idle s l r = elim s [ ]
  rest-busy (Write _ _ _ _ _) s l r = elim s [ ]
  rest-busy (Commit _) s l r = elim s [ ]
  rest-busy (Event _ _ _) s l r = elim s [ ]
  rest-busy (Prepare _) s l r = elim s [ ]
  rest-busy (Confirm _) s l r = elim s [ ]
  rest-busy (Log _ _ _ _) s l r = elim s [ ]
  rest-busy Copy s l r = elim s [ ]
  rest-busy Format s l r = elim s [ ]

  beside-fits : (op : Op) → Beside op → op_fits w (is_fresh st) op ≡ true
  beside-fits (Consolidate p) s = refl
  beside-fits Checkpoint s = refl
  beside-fits Idle s = elim s [ ]
  beside-fits (Write _ _ _ _ _) s = elim s [ ]
  beside-fits (Commit _) s = elim s [ ]
  beside-fits (Event _ _ _) s = elim s [ ]
  beside-fits (Prepare _) s = elim s [ ]
  beside-fits (Confirm _) s = elim s [ ]
  beside-fits (Log _ _ _ _) s = elim s [ ]
  beside-fits Copy s = elim s [ ]
  beside-fits Format s = elim s [ ]

  -- so it is in this one
  pub beside-asked : (op : Op) → Beside op → 0 < needs st op → refusal (op_rows st op) ≡ 0 → refusal (op_rows rest op) ≡ 0
      → Logging past (with_pending st op (replicate 8 0)) img (with_work (under nothing (needs st op)) b)
  beside-asked op s l r r' =
      let e = rest-needs op s in
      let B = subst (λ (n : ℕ). Busy past (with_pending rest op (replicate 8 0)) img (with_work (under nothing n) (emptied w b))) e (rest-busy op s (subst (λ (n : ℕ). 0 < n) (sym e) l) r') in
      regain (with_pending st op (replicate 8 0)) img (with_work (under nothing (needs st op)) b) (pending-valid st (replicate 8 0) op G.valid (beside-fits op s) r l)
      G.low G.book G.four G.sixty-four G.alone
      (record { keys = G.entries.keys; line = λ e le out. G.entries.line e le (unlogged st img b G idles e); no_writes = G.entries.no_writes }) (λ _. s) (inr B)

  -- a checkpoint that needs no store changes nothing
  empty-checkpoint : st.head ≡ st.tail → completed st Checkpoint ≡ st
  empty-checkpoint empty =
      let e₂ = same-lasts rest img (with_work idle (emptied w b)) (at_rest st img b G) empty in
      let e₃ = (logging-standing (world_of st img) b G).none-pending idles in
      λ i.
      record {
        sizes = st.sizes;
        head = st.head;
        tail = empty i;
        next = st.next;
        table = record { page = st.table.page; original = st.table.original; spare = st.table.spare; bitmap = st.table.bitmap; last = e₂ i };
        map = st.map;
        writers = st.writers;
        wide = st.wide;
        pending = sym e₃ i;
      }

  pub none-asked : needs st Checkpoint ≡ 0 → Logging past (completed st Checkpoint) img b
  none-asked e = subst (λ (s : State). Logging past s img b) (sym (empty-checkpoint (none_needed st e))) G

-- ---- the calls

some-needed : (st : State) (p : ℕ) → needs st (Consolidate p) ≡ 0 → ⊥
unfolding needs
some-needed st p e = omega arith

module _ {past : List ℕ} (v : World) (b : Reference) (G : Logging past v.st v.image b) where
  -- a consolidation of page p
  consolidation : (c : Call) (row p : ℕ) → ((n : ℕ) → taken c n b ≡ starts nothing n b)
      → (row ≡ 0 → (not (is_idle v.st.pending.op) ≡ false) × (refusal (consolidate_rows v.st p) ≡ 0))
      → Then past v (world_of (asked row v.st (Consolidate p) (replicate 8 0)).state v.image) (turn c row (asked row v.st (Consolidate p) (replicate 8 0)).stores b)
  consolidation c row p books rows =
      asked-next (Invariant _) c v b (Consolidate p) (replicate 8 0) nothing row (λ e. books) (logging G)
      (λ e z. absurd (some-needed v.st p z))
      (λ e l. record { sizes = refl; related = logging (beside-asked v.st v.image b G (rows e).0 (Consolidate p) tt l (rows e).1 (rest-row v.st v.image b G (rows e).0 p (rows e).1)) })

  pub log-consolidate : (p : ℕ) → Kept past (consolidate p) v b
  unfolding exec consolidate_of
  log-consolidate p =
      let rows = none-apply (consolidate_call_rows v.st v.image p) (omega arith) in
      let r =
      consolidation (consolidate p) (refusal (consolidate_call_rows v.st v.image p)) p (λ n. refl)
      (λ e. ((rows e).1.1.0, sym (row-none (consolidate_rows v.st p) (rows e).1.1.1))) in
      record { right = tt; sizes = r.sizes; related = r.related }

  pub log-free : Kept past free v b
  unfolding exec free_of
  log-free =
      let r =
      consolidation free (refusal (free_call_rows v.st v.image)) (freed_page v.st) (λ n. refl)
      (λ e. ((none-apply (free_call_rows v.st v.image) (omega arith) e).1.1.0, free-rows v.st v.image e)) in
      record { right = tt; sizes = r.sizes; related = r.related }

  pub log-checkpoint : Kept past checkpoint v b
  unfolding exec checkpoint_of
  log-checkpoint =
      let rows = none-apply (checkpoint_call_rows v.st v.image) (omega arith) in
      let r =
      asked-next (Invariant _) checkpoint v b Checkpoint (replicate 8 0) nothing (refusal (checkpoint_call_rows v.st v.image)) (λ e n. refl) (logging G)
      (λ e z. record { sizes = refl; related = logging (none-asked v.st v.image b G (rows e).1.1.0 z) })
      (λ e l. record { sizes = refl; related = logging (beside-asked v.st v.image b G (rows e).1.1.0 Checkpoint tt l refl refl) }) in
      record { right = tt; sizes = r.sizes; related = r.related }
