-- A pending event, and the transaction that it is: with so many stores made, the image is the one after as many stores of writer 1's writes and
-- commit, and what holds of those, held against the reference machine with the event's lines among writer 1's unfinished writes, holds.
use Prim.Native.Nat.{ℕ, ◌+◌, ◌-◌, ◌<◌, ◌≤◌}
use mathlib.Core.Bool.{Bool, true, false, cond, not}
use mathlib.Core.List.{List}
use mathlib.Core.Path.{◌≡◌, refl, sym, ap, ◌∙◌, subst}
use native.Mathlib.Omega.{arith}
use lib.ListN.{length, replicate}
use Rattle.image.specs.Lines.{line_words}
use Rattle.words.specs.Words.{Bytes, bytes_of}
use Rattle.meters.specs.Meters.{moves_credit, first_meter, own_meter, event_needs, rolled, first_number, amount_bad}
use Rattle.state.specs.State.{State}
use Rattle.state.specs.declared.Op.{Op}
use Rattle.state.specs.declared.Op.TheVariants.{Commit, Event}
use Rattle.operations.specs.Operations.{is_idle, needs}
use Rattle.validity.specs.Validity.{state_ok}
use Rattle.refinement.specs.Settled.{with_pending}
use Rattle.refinement.specs.Event.{first_asked, second_asked, lines_done, line_stores}
use Rattle.refinement.specs.Stores.{World, completed, with_made, store_made, stepped}
use Rattle.refinement.specs.Calls.{world_of}
use Rattle.refinement.specs.Reference.{Reference, Task, none, idle, under, writing, committing, moving, with_work, written, does, advances, meter_on, read_line}
use Rattle.refinement.proofs.Invariant.{Durable, Narrow, Quiet, Busy, Related}
use Rattle.refinement.proofs.Pending.{needs-made}
use Rattle.refinement.proofs.Sound.{is-quiet, is-busy}
use Rattle.refinement.proofs.StepCall.{one_store}
use Rattle.refinement.proofs.Stepping.{step-on, step-ends, advance-on, advance-ends}
use Rattle.refinement.proofs.Steps.{store_of, completed-made}

-- ---- the reference machine with the event's lines among writer 1's unfinished writes

module _ (ms : List ℕ) (k m a : ℕ) (b : Reference) where
  abbrev pub first_bytes : List ℕ
  first_bytes = bytes_of 8 (first_number ms k m (meter_on b (first_meter k m)) a)

  abbrev pub own_bytes : List ℕ
  own_bytes = bytes_of 8 (rolled ms (own_meter k m) (meter_on b (own_meter k m)) a)

  abbrev pub first_reference : Reference
  first_reference = written 1 0 (first_meter k m) 0 8 first_bytes b

  abbrev pub second_reference : Reference
  second_reference = written 1 0 (own_meter k m) 0 8 own_bytes first_reference

  abbrev pub lines_reference : Reference
  lines_reference = cond (moves_credit k) second_reference first_reference

  abbrev pub first_task : Task
  first_task = writing 1 0 (first_meter k m) 0 8 first_bytes

  abbrev pub second_task : Task
  second_task = writing 1 0 (own_meter k m) 0 8 own_bytes

-- what the finished lines are, and that the amount was taken
pub record Facts (line second : List ℕ) (b : Reference) (ms : List ℕ) (k m a : ℕ) : Type 0 where
  pub first-line : line ≡ line_words (read_line (first_reference ms k m a b) 1 0 (first_meter k m))
  pub second-line : moves_credit k ≡ true → second ≡ line_words (read_line (written 1 0 (own_meter k m) 0 8 (own_bytes ms k m a b) b) 1 0 (own_meter k m))
  pub first-bytes : Bytes (read_line b 1 0 (first_meter k m))
  pub own-bytes : Bytes (read_line b 1 0 (own_meter k m))
  pub amount : amount_bad ms k m (meter_on b (first_meter k m)) a ≡ false

-- ---- an operation of the transaction, with j of its stores made

pub record Under (past : List ℕ) (s : State) (img : List ℕ) (t : Task) (base : Reference) (j : ℕ) : Type 0 where
  pub low : j < needs s s.pending.op
  pub busy : Busy past (with_made s j) img (with_work (under t (needs s s.pending.op - j)) base)

module _ (past : List ℕ) (s : State) (img : List ℕ) (t : Task) (base : Reference) (j : ℕ) (U : Under past s img t base j) (some : is_idle s.pending.op ≡ false) where
  abbrev op : Op
  op = s.pending.op

  abbrev after : List ℕ
  after = store_made s img op j

  abbrev machine : Reference
  machine = with_work (under t (needs s op - j)) base

  moved : Related past (stepped (world_of (with_made s j) img)) (advances 1 machine.work machine)
  moved = one_store past (with_made s j) img machine U.busy

  -- one store more, before the last and with it
  pub under-on : j + 1 < needs s op → Under past s after t base (j + 1)
  under-on l =
      let e = step-on (with_made s j) img (rw (needs-made s j op) l) in
      let f = ap (λ (x : List ℕ). world_of (with_made s (j + 1)) x) (store_of s j img op j) in
      let g = advance-on machine t (needs s op) j refl l in
      let r : Related past (world_of (with_made s (j + 1)) after) (with_work (under t (needs s op - (j + 1))) base) =
      subst (λ (v : World). Related past v (with_work (under t (needs s op - (j + 1))) base)) (e ∙ f) (subst (Related past (stepped (world_of (with_made s j) img))) g moved) in
      record { low = l; busy = is-busy (with_made s (j + 1)) after (with_work (under t (needs s op - (j + 1))) base) r some }

  pub under-ends : j + 1 ≡ needs s op → is_idle (completed s op).pending.op ≡ true → Quiet past (completed s op) after (does t (with_work idle base))
  under-ends q done =
      let e = step-ends (with_made s j) img (q ∙ sym (needs-made s j op)) in
      let f = ap (λ (x : List ℕ). world_of (completed (with_made s j) op) x) (store_of s j img op j) in
      let h = ap (λ (x : State). world_of x after) (completed-made s j op some) in
      let g = advance-ends machine t (needs s op) j refl q in
      let r : Related past (world_of (completed s op) after) (does t (with_work idle base)) =
      subst (λ (v : World). Related past v (does t (with_work idle base))) (e ∙ f ∙ h) (subst (Related past (stepped (world_of (with_made s j) img))) g moved) in
      is-quiet (completed s op) after (does t (with_work idle base)) r (ap not done)

-- ---- a pending event

-- all its lines written, the commit asked for
abbrev pub commit_asked : State → ℕ → ℕ → State
commit_asked st k m = with_pending (lines_done st k m) (Commit 1) (replicate 8 0)

-- the operation of the transaction that goes on, with its j stores
pub data Stage (past : List ℕ) (st : State) (img : List ℕ) (b : Reference) (ms : List ℕ) (k m a : ℕ) : Type 0 where
  in-first : (j : ℕ) → st.pending.made ≡ j → Under past (first_asked st k m) img (first_task ms k m a b) b j → Stage past st img b ms k m a
  in-second : (j : ℕ) → moves_credit k ≡ true → st.pending.made ≡ 8 + j → Under past (second_asked st k m) img (second_task ms k m a b) (first_reference ms k m a b) j
      → Stage past st img b ms k m a
  in-commit : (j : ℕ) → st.pending.made ≡ line_stores k + j → Under past (commit_asked st k m) img (committing 1) (lines_reference ms k m a b) j → Stage past st img b ms k m a

pub record Moving (past : List ℕ) (st : State) (img : List ℕ) (b : Reference) : Type 0 where
  pub moduli : List ℕ
  pub kind : ℕ
  pub meter : ℕ
  pub amount : ℕ
  pub event : st.pending.op ≡ Event kind meter amount
  pub valid : state_ok st ≡ true
  pub durable : Durable past st img b
  pub narrow : Narrow st b
  pub four : length st.writers.opened ≡ 4
  pub sixty-four : length st.writers.held ≡ 64
  -- writer 1, who is closed, has no unfinished writes
  pub no_writes : (p l i : ℕ) → p < st.sizes.pages → l < 64 → i < 64 → b.writes 1 p l i ≡ none
  pub facts : Facts st.pending.line st.pending.second b moduli kind meter amount
  pub work : b.work ≡ under (moving moduli kind meter amount) (event_needs kind - st.pending.made)
  pub stage : Stage past st img (with_work idle b) moduli kind meter amount
