-- What a store of a pending operation keeps where it is not the last: the store goes to a dead word that no copy of a line has, or
-- stores the value that is there; so the image shows what it showed, and the stores made so far are one more.
use Prim.Native.Nat.{ℕ, suc, ◌+◌, ◌-◌, ◌*◌, ◌^◌, ◌<◌, ◌≤◌, min}
use mathlib.Core.Bool.{false}
use mathlib.Core.List.{List}
use mathlib.Core.Logic.{◌⊎◌, ⊎_elim, inr}
use mathlib.Core.Path.{◌≡◌, refl, sym, ap, ◌∙◌, subst}
use native.Mathlib.Omega.{arith}
use borrow.Author.Tests.{eq-eqb, ne_eqb}
use Rattle.bounded.proofs.Below.{split_below}
use Rattle.bounded.proofs.Tests.{contradicts}
use Rattle.layout.specs.Layout.{image_length, frame_word}
use Rattle.words.specs.Words.{word}
use Rattle.words.proofs.WordLaws.{word-store, word-store-other}
use Rattle.mount.proofs.Dead.{Dead}
use Rattle.state.specs.State.{State}
use Rattle.state.specs.declared.Op.{Op}
use Rattle.state.specs.declared.Op.TheVariants.{Idle, Write, Commit, Consolidate, Checkpoint, Event, Prepare, Confirm, Log, Copy, Format}
use Rattle.operations.specs.Operations.{needs, is_idle}
use Rattle.refinement.specs.Write.{write_slot}
use Rattle.refinement.specs.Commit.{commit_record_of, commit_at_of, commit_value_of}
use Rattle.refinement.specs.Consolidate.{consolidate_at, consolidate_value, freeing_record}
use Rattle.refinement.specs.Checkpoint.{checkpoint_at_of, checkpoint_value_of}
use Rattle.refinement.specs.Event.{event_at, event_value}
use Rattle.refinement.specs.Wide.{is_copy}
use Rattle.refinement.specs.Stores.{World, stepped, with_made, completed, store_at, store_value, store_made}
use Rattle.refinement.proofs.Pending.{made-valid}
use Rattle.refinement.specs.Reference.{Reference, Task, idle, under, with_work, does, continues, advances}
use Rattle.refinement.proofs.Copies.{durable-legal}
use Rattle.refinement.proofs.Invariant.{Durable, Writing, Doing, Changing, Busy, Related}
pub use Rattle.refinement.proofs.Pending.{needs-made}
use Rattle.refinement.proofs.StoreKept.{Uncommitted, store-fits, durable-kept, store-none, Unowned, Off, writing-kept}

-- ---- the state with one store more made

-- what does not say how many stores are made
pub durable-made : (past : List ℕ) (st : State) (img : List ℕ) (b : Reference) (n : ℕ) (k : _) → Durable past st img b → Durable past (with_made st n) img (with_work k b)
durable-made past st img b n k D =
    record { bytes = D.bytes; past-kept = D.past-kept; view = D.view; shows = D.shows; mounts = D.mounts; sizes-same = D.sizes-same; head-same = D.head-same; tail-same = D.tail-same; count_same = D.count_same; behind = D.behind; map-long = D.map-long; own = D.own; committed = D.committed }

pub writing-made : (st : State) (img : List ℕ) (b : Reference) (Being : ℕ → ℕ → ℕ → Type 0) (n : ℕ) (k : _) → Writing st img b Being → Writing (with_made st n) img (with_work k b) Being
writing-made st img b Being n k W = record { four = W.four; sixty-four = W.sixty-four; held_low = W.held_low; own-copy = W.own-copy; no_writes = W.no_writes; ready = W.ready }

module _ (st : State) (n : ℕ) where
  pub at-made : (img : List ℕ) (op : Op) (j : ℕ) → store_at (with_made st n) op j ≡ store_at st op j
  unfolding write_slot commit_at_of consolidate_at checkpoint_at_of event_at
  at-made img Idle j = refl
  at-made img (Write w p l o k) j = refl
  at-made img (Commit w) j = refl
  at-made img (Consolidate p) j = refl
  at-made img Checkpoint j = refl
  at-made img (Event k m a) j = refl
  at-made img (Prepare w) j = refl
  at-made img (Confirm w) j = refl
  at-made img (Log p l o n) j = refl
  at-made img Copy j = refl
  at-made img Format j = refl

  pub value_made : (img : List ℕ) (op : Op) (j : ℕ) → store_value (with_made st n) img op j ≡ store_value st img op j
  unfolding commit_value_of commit_record_of consolidate_value freeing_record checkpoint_value_of event_value
  value_made img Idle j = refl
  value_made img (Write w p l o k) j = refl
  value_made img (Commit w) j = refl
  value_made img (Consolidate p) j = refl
  value_made img Checkpoint j = refl
  value_made img (Event k m a) j = refl
  value_made img (Prepare w) j = refl
  value_made img (Confirm w) j = refl
  value_made img (Log p l o n) j = refl
  value_made img Copy j = refl
  value_made img Format j = refl

-- where a store goes is found in the state, but for a wide commit's
pub at-steady : (st : State) (img img' : List ℕ) (op : Op) (j : ℕ) → is_copy op ≡ false → store_at st op j ≡ store_at st op j
at-steady st img img' Idle j c = refl
at-steady st img img' (Write w p l o n) j c = refl
at-steady st img img' (Commit w) j c = refl
at-steady st img img' (Consolidate p) j c = refl
at-steady st img img' Checkpoint j c = refl
at-steady st img img' (Event k m a) j c = refl
at-steady st img img' (Prepare w) j c = refl
at-steady st img img' (Confirm w) j c = refl
at-steady st img img' (Log p l o n) j c = refl
at-steady st img img' Copy j c = contradicts refl c
at-steady st img img' Format j c = refl

-- ---- a step

module _ (st : State) (img : List ℕ) where
  abbrev world : World
  world = record { st = st; image = img }

  pub step-on : st.pending.made + 1 < needs st st.pending.op
      → stepped world ≡ record { st = with_made st (st.pending.made + 1); image = store_made st img st.pending.op st.pending.made }
  unfolding stepped
  step-on l = rw (ne_eqb (st.pending.made + 1) (needs st st.pending.op) (λ e. omega arith))

  pub step-ends : st.pending.made + 1 ≡ needs st st.pending.op
      → stepped world ≡ record { st = completed st st.pending.op; image = store_made st img st.pending.op st.pending.made }
  unfolding stepped
  step-ends e = rw (eq-eqb (st.pending.made + 1) (needs st st.pending.op) e)

-- the reference machine, with n stores needed and m made
module _ (b : Reference) (t : Task) (n m : ℕ) (work : b.work ≡ under t (n - m)) where
  pub advance-on : m + 1 < n → advances 1 b.work b ≡ with_work (under t (n - (m + 1))) b
  advance-on l =
      let e : n - m - min 1 (n - m) ≡ suc (n - m - 2) = omega arith in
      let f : suc (n - m - 2) ≡ n - (m + 1) = omega arith in
      ap (λ k. advances 1 k b) work ∙ ap (λ (k : ℕ). continues t k b) e ∙ ap (λ (k : ℕ). with_work (under t k) b) f

  pub advance-ends : m + 1 ≡ n → advances 1 b.work b ≡ does t (with_work idle b)
  advance-ends q =
      let e : n - m - min 1 (n - m) ≡ 0 = omega arith in
      ap (λ k. advances 1 k b) work ∙ ap (λ (k : ℕ). continues t k b) e

-- ---- a store that is not the last

-- store a of the pending operation op, of value w: it stores what is there; or mount does not read a, and no committed line and no
-- writer's own copy has it, and it is no word of the journal where a writer is prepared
pub record Aside (past : List ℕ) (st : State) (img : List ℕ) (b : Reference) (D : Durable past st img b) (op : Op) (a : ℕ) : Type 0 where
  pub dead : Dead D.view a
  pub uncommitted : Uncommitted past st img b D a
  pub unowned : Unowned st img b (Changing op) a
  pub off : Off st img b (Changing op) a

pub record Mid (past : List ℕ) (st : State) (img : List ℕ) (b : Reference) (D : Durable past st img b) (op : Op) (m : ℕ) : Type 0 where
  pub is_in_place : is_copy op ≡ false
  pub inside : 8 * store_at st op m + 8 ≤ image_length st.sizes
  pub low : store_value st img op m < 2 ^ 64
  pub apart : (j : ℕ) → j < m → store_at st op m ≡ store_at st op j → ⊥
  pub stable : (j : ℕ) → j ≤ m → store_value st (store_made st img op m) op j ≡ store_value st img op j
  pub harmless : (store_value st img op m ≡ word img (store_at st op m)) ⊎ Aside past st img b D op (store_at st op m)

-- a word before the frames is no word of a line
pub aside-before : (past : List ℕ) (st : State) (img : List ℕ) (b : Reference) (D : Durable past st img b) (op : Op) (a : ℕ) → a < frame_word st.sizes → Off st img b (Changing op) a → Dead D.view a
    → Aside past st img b D op a
aside-before past st img b D op a early off dead =
    record { dead = dead; uncommitted = λ p l k lp ll lk e. omega arith; unowned = λ v p l k lv lp ll lk out h e. omega arith; off = off }

module _ (past : List ℕ) (st : State) (img : List ℕ) (b : Reference) (D : Durable past st img b) (op : Op) (m : ℕ) (M : Mid past st img b D op m) where
  abbrev a : ℕ
  a = store_at st op m

  abbrev w : ℕ
  w = store_value st img op m

  abbrev after : List ℕ
  after = store_made st img op m

  pub mid-durable : Durable past st after b
  mid-durable =
      ⊎_elim
      (λ e. subst (λ (i : List ℕ). Durable past st i b) (sym (store-none past st img b D a w M.inside e)) D)
      (λ (s : Aside past st img b D op a). durable-kept past st img b D a w M.inside s.dead s.uncommitted)
      M.harmless

  pub mid-writing : Writing st img b (Changing op) → Writing st after b (Changing op)
  mid-writing W =
      ⊎_elim
      (λ e. subst (λ (i : List ℕ). Writing st i b (Changing op)) (sym (store-none past st img b D a w M.inside e)) W)
      (λ (s : Aside past st img b D op a). writing-kept st img b (Changing op) (durable-legal past st img b D) a w (store-fits past st img b D a w M.inside) s.unowned s.off W)
      M.harmless

  pub mid-landed : ((j : ℕ) → j < m → word img (store_at st op j) ≡ store_value st img op j) → (j : ℕ) → j < m + 1 → word after (store_at st op j) ≡ store_value st after op j
  mid-landed h j l =
      let fits = store-fits past st img b D a w M.inside in
      let n : j < suc m = omega arith in
      ap (word after) (at-steady st after img op j M.is_in_place)
      ∙ split_below n
      (λ q. rw q (word-store img a w fits M.low ∙ sym (M.stable m (omega arith))))
      (λ lt. word-store-other img a w (store_at st op j) fits (M.apart j lt) ∙ h j lt ∙ sym (M.stable j (omega arith)))

module _ (past : List ℕ) (st : State) (img : List ℕ) (b : Reference) (B : Busy past st img b) (t : Task) where
  -- facts about the pending operation, where it is op
  abbrev Goes : Op → Type 0
  Goes op =
      is_idle op ≡ false → b.work ≡ under t (needs st op - st.pending.made) → st.pending.made + 1 < needs st op
      → Mid past st img b B.durable op st.pending.made
      → Doing (with_made st (st.pending.made + 1)) (store_made st img op st.pending.made) (with_work (under t (needs st op - (st.pending.made + 1))) b) op
      → Related past (stepped (record { st = st; image = img })) (advances 1 b.work b)

  goes : Goes st.pending.op
  goes i work l M doing =
      let op : Op = st.pending.op in
      let m : ℕ = st.pending.made in
      let k = under t (needs st op - (m + 1)) in
      let img' : List ℕ = store_made st img op m in
      let now : Busy past (with_made st (m + 1)) img' (with_work k b) =
      record {
        valid = made-valid st (m + 1) B.valid i l;
        durable = durable-made past st img' b (m + 1) k (mid-durable past st img b B.durable op m M);
        writers = writing-made st img' b (Changing op) (m + 1) k (mid-writing past st img b B.durable op m M B.writers);
        landed =
            λ j n.
            ap (word img') (at-made st (m + 1) img' op j)
            ∙ mid-landed past st img b B.durable op m M B.landed j n
            ∙ sym (value_made st (m + 1) img' op j);
        doing = doing;
        narrow = record { state = B.narrow.state; book = B.narrow.book };
      } in
      subst (λ (v : World). Related past v (advances 1 b.work b)) (sym (step-on st img l))
      (subst (λ (c : Reference). Related past (record { st = with_made st (m + 1); image = img' }) c) (sym (advance-on b t (needs st op) m work l))
      (inr now))

  -- one step of it leaves it pending with one more store made
  pub step-mid : (op : Op) → st.pending.op ≡ op → Goes op
  step-mid op e = subst Goes e goes
