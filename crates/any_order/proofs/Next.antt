-- The next store of whatever is pending: it decides and goes to the header, or it does not and is harmless. One clause an operation.
use Prim.Native.Nat.{ℕ, ◌+◌, ◌-◌, ◌*◌, ◌/◌, ◌%◌, ◌<◌, ◌≤◌}
use mathlib.Core.Bool.{Bool, true, false, ◌&&◌, ◌||◌}
use mathlib.Core.List.{List}
use mathlib.Core.Logic.{inl, inr}
use mathlib.Core.Path.{◌≡◌, refl, sym, ap, ◌∙◌, subst}
use native.Mathlib.Omega.{arith}
use lib.Dec.{ltb, leb, eqb}
use borrow.Author.Tests.{leb-true, leb-false, lt-ltb, lt-leb, eq-eqb, ne_eqb}
use Rattle.bounded.proofs.Tests.{case_on, row_keeps, row-yes}
use Rattle.layout.specs.Layout.{layout_word, head_word, count_word, page_word, record_word}
use Rattle.words.specs.Words.{word}
use Rattle.journal.specs.Records.{position}
use Rattle.mount.proofs.View.{View, view_of}
use Rattle.meters.specs.Meters.{moves_credit, first_meter, own_meter}
use Rattle.state.specs.State.{State}
use Rattle.state.specs.declared.Op.{Op}
use Rattle.state.specs.declared.Op.TheVariants.{Idle, Write, Commit, Consolidate, Checkpoint, Event, Prepare, Confirm, Log, Copy, Format}
use Rattle.operations.specs.Operations.{needs}
use Rattle.refinement.specs.Frames.{page_slot}
use Rattle.refinement.specs.Commit.{commit_at}
use Rattle.refinement.specs.Consolidate.{consolidate_at, copy_store_count}
use Rattle.refinement.specs.Checkpoint.{checkpoint_at}
use Rattle.refinement.specs.Write.{write_at}
use Rattle.refinement.specs.Event.{event_at, first_asked, second_asked, lines_done, line_stores}
use Rattle.refinement.specs.Stores.{with_made, store_at, store_made}
use Rattle.refinement.specs.Reference.{Reference, Task, idle, under, committing, with_work}
use Rattle.refinement.proofs.CheckpointMid.{recorded, checkpoint-mid, at_slot, at_tail}
use Rattle.refinement.proofs.CommitMid.{count, commit-needs, commit-mid, prepare-mid}
use Rattle.refinement.proofs.ConsolidateStores as Consolidations
use Rattle.refinement.proofs.Copies.{durable-legal}
use Rattle.refinement.proofs.EventReady.{one-slot}
use Rattle.refinement.proofs.EventStores.{at_first, at_second, at-commit, lines-eight}
use Rattle.refinement.proofs.Invariant.{Durable, Doing, Busy, uncounted}
use Rattle.refinement.proofs.Moving.{Under, Stage, in-first, in-second, in-commit, Moving, commit_asked, first_reference, lines_reference, first_task, second_task}
use Rattle.refinement.proofs.Pending.{pends}
use Rattle.refinement.proofs.Records as Records
use Rattle.refinement.proofs.Stepping.{Mid}
use Rattle.refinement.proofs.StepCheckpoint.{few-made, needed}
use Rattle.refinement.proofs.StepConsolidate.{some_left, consolidate-between}
use Rattle.refinement.proofs.StepEvent.{W, low₁, store₁, low₂, store₂, sixteen, low₃, store₃}
use Rattle.refinement.proofs.StepPrepare.{prepare-left}
use Rattle.refinement.proofs.Steps.{store_of}
use Rattle.refinement.proofs.WriteMid.{write_mid}
use Rattle.any_order.specs.AnyOrder.{to_fence}
use Rattle.any_order.proofs.Harmless.{Harmless, mid-harmless}

-- word 3, 4, 5 or 6
abbrev pub in_header : ℕ → Bool
in_header a = leb layout_word a && leb a count_word

-- the next store of op
pub data Next (st : State) (img : List ℕ) (op : Op) : Type 0 where
  deciding : to_fence st op ≡ true → in_header (store_at st op st.pending.made) ≡ true → Next st img op
  aside : to_fence st op ≡ false → 8 ≤ store_at st op st.pending.made → Harmless (view_of (word img)) img (store_made st img op st.pending.made) → Next st img op

-- a word past the header
pub past-header : (a : ℕ) → 8 ≤ a → in_header a ≡ false
past-header a l = ap (λ (x : Bool). leb layout_word a && x) (lt-leb a count_word (omega arith)) ∙ case_on (leb layout_word a) (λ t. rw t) (λ t. rw t)

-- m of n stores are made
pub not_last : (m n : ℕ) → m + 1 < n → eqb (m + 1) n ≡ false
not_last m n l = ne_eqb (m + 1) n (λ e. omega arith)

pub is-last : (m n : ℕ) → m + 1 ≡ n → eqb (m + 1) n ≡ true
is-last m n e = eq-eqb (m + 1) n e

-- ---- how many stores are needed

write-needs : (st : State) (w p l o n : ℕ) → needs st (Write w p l o n) ≡ 8
unfolding needs
write-needs st w p l o n = refl

consolidate-needs : (st : State) (p : ℕ) → needs st (Consolidate p) ≡ copy_store_count (page_slot st p) + 5 + 1
unfolding needs
consolidate-needs st p = omega arith

confirm-few : (st : State) (w : ℕ) → needs st (Confirm w) ≤ 1
unfolding needs
confirm-few st w = row_keeps (λ (n : ℕ). n ≤ 1) (eqb (count st w) 0) 0 1 (omega arith) (omega arith)

event-needs : (st : State) (k m a : ℕ) → needs st (Event k m a) ≡ line_stores k + 5
unfolding needs
event-needs st k m a = case_on (moves_credit k) (λ t. rw t) (λ t. rw t)

-- a consolidation's store before its last goes past the header
consolidate-past : (st : State) (p i : ℕ) → i < copy_store_count (page_slot st p) + 5 → 8 ≤ consolidate_at st p i
unfolding consolidate_at
consolidate-past st p i l =
    let c : ℕ = copy_store_count (page_slot st p) in
    row_keeps (λ (a : ℕ). 8 ≤ a) (ltb i c) _ _ (omega arith)
    (row_keeps (λ (a : ℕ). 8 ≤ a) (eqb i c) (page_word p) _ (omega arith)
    (subst (λ (a : ℕ). 8 ≤ a) (row-yes (ltb i (c + 5)) (record_word st.sizes st.head + (i - (c + 1))) head_word (lt-ltb i (c + 5) l)) (omega arith)))

-- ---- what is pending is no event and nothing wide

module _ (past : List ℕ) (st : State) (img : List ℕ) (b : Reference) (B : Busy past st img b) where
  abbrev m : ℕ
  m = st.pending.made

  abbrev D : Durable past st img b
  D = B.durable

  mid : (op : Op) → to_fence st op ≡ false → 8 ≤ store_at st op m → Mid past st img b D op m → Next st img op
  mid op off low M =
      aside off low
      (subst (λ (v : View). Harmless v img (store_made st img op m)) (sym D.shows)
      (mid-harmless past st img b B.valid D (uncounted st img b D B.narrow) op m M low))

  pub busy-next : (op : Op) → st.pending.op ≡ op → Next st img op
  busy-next Idle e = absurd (subst (Doing st img b) e B.doing)
  busy-next (Write w p l o n) e =
      let low : m < needs st (Write w p l o n) = (pends st (Write w p l o n) B.valid e refl).made-low in
      mid (Write w p l o n) refl (omega arith) (write_mid past st img b B w p l o n e m (omega (arith, low, write-needs st w p l o n)))
  busy-next (Commit w) e =
      let op : Op = Commit w in
      let left : m < needs st op = (pends st op B.valid e refl).made-low in
      let need = commit-needs st w m left in
      case_on (leb (4 * count st w) m)
      (λ t.
      let last : m ≡ 4 * count st w = omega (arith, left, need, leb-true (4 * count st w) m t) in
      deciding (is-last m (needs st op) (omega (arith, need, last))) (ap in_header (ap (commit_at st w) last ∙ Records.at_head st w)))
      (λ t.
      let l = leb-false (4 * count st w) m t in
      mid op (not_last m (needs st op) (omega (arith, need, l))) (omega (arith, Records.at-record st w m l)) (commit-mid past st img b B w e m l))
  busy-next (Consolidate p) e =
      let op : Op = Consolidate p in
      let c : ℕ = copy_store_count (page_slot st p) + 5 in
      let need : needs st op ≡ c + 1 = consolidate-needs st p in
      case_on (leb c m)
      (λ t.
      let last : m ≡ c = omega (arith, some_left past st img b B p e, leb-true c m t) in
      deciding (is-last m (needs st op) (omega (arith, need, last))) (ap in_header (ap (consolidate_at st p) last ∙ Consolidations.at_head st p)))
      (λ t.
      let l = leb-false c m t in
      mid op (not_last m (needs st op) (omega (arith, need, l))) (consolidate-past st p m l) (consolidate-between past st img b B p e l))
  busy-next (Prepare w) e =
      let l = prepare-left past st img b B w e in
      mid (Prepare w) refl (omega (arith, Records.at-record st w m l)) (prepare-mid past st img b B w e m l)
  busy-next (Confirm w) e =
      let left : m < needs st (Confirm w) = (pends st (Confirm w) B.valid e refl).made-low in
      deciding (is-last m (needs st (Confirm w)) (omega (arith, left, confirm-few st w))) refl
  busy-next (Event k i a) e = absurd (subst (Doing st img b) e B.doing)
  busy-next (Log p l o n) e = absurd (subst (Doing st img b) e B.doing)
  busy-next Copy e = absurd (subst (Doing st img b) e B.doing)
  busy-next Format e = absurd (subst (Doing st img b) e B.doing)
  busy-next Checkpoint e =
      let need = needed past st img b B e in
      let g = durable-legal past st img b D in
      let full = D.behind.sixteen in
      case_on (leb (3 * recorded st) m)
      (λ t.
      let last : m ≡ 3 * recorded st = omega (arith, few-made past st img b B e, need, leb-true (3 * recorded st) m t) in
      deciding (is-last m (needs st Checkpoint) (omega (arith, need, last))) (ap in_header (ap (checkpoint_at st) last ∙ at_tail st g full)))
      (λ t.
      let l = leb-false (3 * recorded st) m t in
      mid Checkpoint (not_last m (needs st Checkpoint) (omega (arith, need, l))) (omega (arith, at_slot st g full m l)) (checkpoint-mid past st img b D m l))

-- ---- an event: a store of an operation of its transaction

module _ (past : List ℕ) (st : State) (img : List ℕ) (b : Reference) (M : Moving past st img b) where
  abbrev k : ℕ
  k = M.kind

  abbrev meter : ℕ
  meter = M.meter

  abbrev a : ℕ
  a = M.amount

  abbrev n : ℕ
  n = st.pending.made

  abbrev base : Reference
  base = with_work idle b

  abbrev event : Op
  event = Event M.kind M.meter M.amount

  -- store j of the operation that s has pending is no last one of the event
  part : (s : State) (t : Task) (c : Reference) (j : ℕ) (U : Under past s img t c j) → n + 1 < needs st event → 8 ≤ store_at st event n
      → store_made st img event n ≡ store_made s img s.pending.op j → 8 ≤ store_at (with_made s j) s.pending.op j
      → Mid past (with_made s j) img (with_work (under t (needs s s.pending.op - j)) c) U.busy.durable s.pending.op j
      → Next st img event
  part s t c j U more past-it e low M =
      let u : Reference = with_work (under t (needs s s.pending.op - j)) c in
      let E : Durable past (with_made s j) img u = U.busy.durable in
      aside (not_last n (needs st event) more) past-it
      (subst (λ (i : List ℕ). Harmless (view_of (word img)) img i) (store_of s j img s.pending.op j ∙ sym e)
      (subst (λ (v : View). Harmless v img (store_made (with_made s j) img s.pending.op j)) (sym E.shows)
      (mid-harmless past (with_made s j) img u U.busy.valid E (uncounted (with_made s j) img u E U.busy.narrow) s.pending.op j M low)))

  pub event-next : Stage past st img base M.moduli k meter a → Next st img event
  event-next (in-first j e U) =
      let low : j < 8 = low₁ past st img b M j e U in
      let at : store_at st event n ≡ write_at (first_asked st k meter) 0 (first_meter k meter) j = ap (event_at st k meter) e ∙ at_first st k meter j low in
      part (first_asked st k meter) (first_task M.moduli k meter a base) base j U (omega (arith, e, low, event-needs st k meter a, lines-eight k)) (omega (arith, at))
      (store₁ past st img b M j e U) (omega arith)
      (write_mid past (with_made (first_asked st k meter) j) img _ U.busy 1 0 (first_meter k meter) 0 8 refl j low)
  event-next (in-second j u e U) =
      let low : j < 8 = low₂ past st img b M j u e U in
      let at : store_at st event n ≡ write_at (second_asked st k meter) 0 (own_meter k meter) j = ap (event_at st k meter) e ∙ at_second st k meter u j low in
      part (second_asked st k meter) (second_task M.moduli k meter a base) (first_reference M.moduli k meter a base) j U
      (omega (arith, e, low, event-needs st k meter a, sixteen past st img b M j u e U)) (omega (arith, at))
      (store₂ past st img b M j u e U) (omega arith)
      (write_mid past (with_made (second_asked st k meter) j) img _ U.busy 1 0 (own_meter k meter) 0 8 refl j low)
  event-next (in-commit j e U) =
      let low : j < 5 = low₃ past st img b M j e U in
      let s : State = lines_done st k meter in
      let c : State = commit_asked st k meter in
      let one = one-slot s k meter (W past st img b M) in
      let need = event-needs st k meter a in
      let at : store_at st event n ≡ commit_at s 1 j = ap (event_at st k meter) e ∙ at-commit st k meter j in
      case_on (leb 4 j)
      (λ t.
      let four : j ≡ 4 * count s 1 = omega (arith, low, one, leb-true 4 j t) in
      deciding (is-last n (needs st event) (omega (arith, e, four, one, need))) (ap in_header (at ∙ ap (commit_at s 1) four ∙ Records.at_head s 1)))
      (λ t.
      let four : j < 4 = leb-false 4 j t in
      let here : commit_at c 1 j ≡ record_word c.sizes (position c.sizes c.head (j / 4)) + j % 4 = Records.at-record c 1 j (omega (arith, four, one)) in
      part c (committing 1) (lines_reference M.moduli k meter a base) j U (omega (arith, e, four, need)) (omega (arith, at, Records.at-record s 1 j (omega (arith, four, one))))
      (store₃ past st img b M j e U) (omega (arith, here))
      (commit-mid past (with_made c j) img _ U.busy 1 refl j (omega (arith, four, one))))
