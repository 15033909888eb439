-- One store of a pending event, in one image and in two: it is a store of one of its writes or of its commit, of which the last alone changes the slots that a
-- mount finds. And one store of whatever is pending without a wide transaction.
use Prim.Native.Nat.{ℕ, ◌+◌, ◌-◌, ◌<◌}
use mathlib.Core.Bool.{false}
use mathlib.Core.List.{List}
use mathlib.Core.Logic.{inl, inr}
use mathlib.Core.Path.{◌≡◌, refl, sym, ◌∙◌, subst}
use native.Mathlib.Omega.{arith}
use lib.Dec.{ltb}
use borrow.Author.Tests.{ltb-true, ltb-false}
use Rattle.bounded.proofs.Tests.{case_on}
use Rattle.state.specs.State.{State}
use Rattle.state.specs.declared.Op.{Op}
use Rattle.state.specs.declared.Op.TheVariants.{Idle, Write, Commit, Consolidate, Checkpoint, Event, Prepare, Confirm, Log, Copy, Format}
use Rattle.meters.specs.Meters.{first_meter, own_meter}
use Rattle.operations.specs.Operations.{is_idle, needs}
use Rattle.refinement.specs.Event.{first_asked, second_asked, lines_done, line_stores}
use Rattle.refinement.specs.Stores.{stepped, with_made, store_made}
use Rattle.refinement.specs.Calls.{world_of}
use Rattle.refinement.specs.Reference.{Reference, Task, idle, under, committing, with_work}
use Rattle.refinement.proofs.Between.{Between}
use Rattle.refinement.proofs.CommitMid.{commit-mid}
use Rattle.refinement.proofs.EventReady.{one-slot}
use Rattle.refinement.proofs.EventStores.{lines-eight}
use Rattle.refinement.proofs.Invariant.{Doing}
use Rattle.refinement.proofs.Moving.{Under, Stage, in-first, in-second, in-commit, Moving, commit_asked, first_reference, lines_reference, first_task, second_task}
use Rattle.refinement.proofs.Sound.{is-busy}
use Rattle.refinement.proofs.StepEvent.{W, low₁, store₁, low₂, sixteen, store₂, low₃, store₃}
use Rattle.refinement.proofs.Stepping.{Mid}
use Rattle.refinement.proofs.Steps.{store_of, stepped-image}
use Rattle.refinement.proofs.WriteMid.{write_mid}
use Rattle.leftovers.proofs.Alike.{Alike, Stays, alike-after}
use Rattle.leftovers.proofs.OneStore.{Committed, mid-stays, commit-leaves, one_store}

-- the kind and the meter of an event
abbrev kind_in : Op → ℕ
kind_in (Event k m a) = k
kind_in Idle = 0
kind_in (Write w p l o n) = 0
kind_in (Commit w) = 0
kind_in (Consolidate p) = 0
kind_in Checkpoint = 0
kind_in (Prepare w) = 0
kind_in (Confirm w) = 0
kind_in (Log p l o n) = 0
kind_in Copy = 0
kind_in Format = 0

abbrev meter_in : Op → ℕ
meter_in (Event k m a) = m
meter_in Idle = 0
meter_in (Write w p l o n) = 0
meter_in (Commit w) = 0
meter_in (Consolidate p) = 0
meter_in Checkpoint = 0
meter_in (Prepare w) = 0
meter_in (Confirm w) = 0
meter_in (Log p l o n) = 0
meter_in Copy = 0
meter_in Format = 0

-- the stores before its last one
abbrev before : Op → ℕ
before op = line_stores (kind_in op) + 4

-- the commit before its last store
abbrev closing : State → Op → State
closing st op = with_made (commit_asked st (kind_in op) (meter_in op)) 4

-- what the next store of it leaves
record Leaving (st : State) (img : List ℕ) (op : Op) : Type 0 where
  left : st.pending.made < before op + 1
  on : st.pending.made < before op → Stays img (store_made st img op st.pending.made)
  last : st.pending.made ≡ before op → Committed (closing st op) 1 img (store_made st img op st.pending.made)

module _ (past : List ℕ) (st : State) (img : List ℕ) (b : Reference) (M : Moving past st img b) where
  abbrev k : ℕ
  k = M.kind

  abbrev m : ℕ
  m = M.meter

  abbrev a : ℕ
  a = M.amount

  abbrev n : ℕ
  n = st.pending.made

  abbrev base : Reference
  base = with_work idle b

  abbrev event : Op
  event = Event M.kind M.meter M.amount

  -- a store of an operation of its transaction
  part_stays : (s : State) (t : Task) (c : Reference) (j : ℕ) (U : Under past s img t c j) → store_made st img event n ≡ store_made s img s.pending.op j
      → Mid past (with_made s j) img (with_work (under t (needs s s.pending.op - j)) c) U.busy.durable s.pending.op j
      → Stays img (store_made st img event n)
  part_stays s t c j U e mid =
      subst (λ (i : List ℕ). Stays img i) (store_of s j img s.pending.op j ∙ sym e)
      (mid-stays past (with_made s j) img (with_work (under t (needs s s.pending.op - j)) c) U.busy.durable s.pending.op j mid)

  part-leaves : Stage past st img base M.moduli k m a → Leaving st img event
  part-leaves (in-first j e U) =
      let low : j < 8 = low₁ past st img b M j e U in
      record {
        left = omega (arith, e, low, lines-eight k);
        on =
            λ _.
            part_stays (first_asked st k m) (first_task M.moduli k m a base) base j U (store₁ past st img b M j e U)
            (write_mid past (with_made (first_asked st k m) j) img _ U.busy 1 0 (first_meter k m) 0 8 refl j low);
        last = λ q. absurd (omega (arith, e, low, lines-eight k, q));
      }
  part-leaves (in-second j u e U) =
      let low : j < 8 = low₂ past st img b M j u e U in
      let lines : line_stores k ≡ 16 = sixteen past st img b M j u e U in
      record {
        left = omega (arith, e, low, lines);
        on =
            λ _.
            part_stays (second_asked st k m) (second_task M.moduli k m a base) (first_reference M.moduli k m a base) j U (store₂ past st img b M j u e U)
            (write_mid past (with_made (second_asked st k m) j) img _ U.busy 1 0 (own_meter k m) 0 8 refl j low);
        last = λ q. absurd (omega (arith, e, low, lines, q));
      }
  part-leaves (in-commit j e U) =
      let low : j < 5 = low₃ past st img b M j e U in
      let s : State = commit_asked st k m in
      let one = one-slot (lines_done st k m) k m (W past st img b M) in
      let same = store₃ past st img b M j e U in
      record {
        left = omega (arith, e, low);
        on =
            λ l.
            part_stays s (committing 1) (lines_reference M.moduli k m a base) j U same
            (commit-mid past (with_made s j) img _ U.busy 1 refl j (omega (arith, e, l, one)));
        last =
            λ q.
            let four : j ≡ 4 = omega (arith, e, q) in
            subst (λ (i : ℕ). Committed (with_made s i) 1 img (store_made st img event n)) four
            (subst (Committed (with_made s j) 1 img) (store_of s j img (Commit 1) j ∙ sym same)
            (commit-leaves past (with_made s j) img _ U.busy 1 refl (omega (arith, four, one))));
      }

  event-leaves : Leaving st img st.pending.op
  event-leaves = subst (Leaving st img) (sym M.event) (part-leaves M.stage)

-- ---- in two images, of the same state

module _ (past past' : List ℕ) (st : State) (x y : List ℕ) (b : Reference) (same : Alike x y) where
  abbrev op : Op
  op = st.pending.op

  abbrev made : ℕ
  made = st.pending.made

  abbrev After : Type 0
  After = Alike (stepped (world_of st x)).image (stepped (world_of st y)).image

  both-leave : Leaving st x op → Leaving st y op → Alike (store_made st x op made) (store_made st y op made)
  both-leave L R =
      case_on (ltb made (before op))
      (λ t. let l = ltb-true made (before op) t in alike-after (L.on l) (R.on l) same)
      (λ t.
      let q : made ≡ before op = omega (arith, L.left, ltb-false made (before op) t) in
      alike-after (L.last q) (R.last q) same)

  one-event : Moving past st x b → Moving past' st y b → After
  one-event M N =
      subst (λ (i : List ℕ). Alike i (stepped (world_of st y)).image) (sym (stepped-image (world_of st x)))
      (subst (Alike (store_made st x op made)) (sym (stepped-image (world_of st y))) (both-leave (event-leaves past st x b M) (event-leaves past' st y b N)))

  -- whatever is pending
  pub narrow-store : Between past (world_of st x) b → Between past' (world_of st y) b → is_idle op ≡ false → After
  narrow-store (inl h) (inl k) e = one_store past past' st x y b (is-busy st x b h e) (is-busy st y b k e) same
  narrow-store (inr M) (inr N) e = one-event M N
  narrow-store (inl h) (inr N) e = absurd (subst (Doing st x b) N.event (is-busy st x b h e).doing)
  narrow-store (inr M) (inl k) e = absurd (subst (Doing st y b) M.event (is-busy st y b k e).doing)
