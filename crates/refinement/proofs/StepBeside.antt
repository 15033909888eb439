-- A consolidation or a checkpoint goes on beside a wide transaction: its stores go before the entries, and are those of the state without it.
use Prim.Native.Nat.{ℕ, zero, suc, ◌+◌, ◌-◌, ◌*◌, ◌<◌, ◌≤◌, min}
use mathlib.Core.Bool.{true}
use mathlib.Core.List.{List}
use mathlib.Core.Logic.{◌⊎◌, ⊎_elim}
use mathlib.Core.Path.{◌≡◌, refl, sym, ap, ◌∙◌, subst}
use native.Mathlib.Omega.{arith}
use lib.Dec.{ltb}
use lib.ListN.{length}
use borrow.Author.Tests.{ltb-true, ltb-false}
use Rattle.bounded.proofs.Tests.{case_on}
use Rattle.layout.specs.Layout.{entry_word}
use Rattle.words.specs.Words.{word, store}
use Rattle.words.proofs.WordLaws.{word-store-other}
use Rattle.replay.proofs.Tables.{Sixteen}
use Rattle.state.specs.State.{State}
use Rattle.state.specs.declared.Op.{Op}
use Rattle.state.specs.declared.Op.TheVariants.{Consolidate, Checkpoint, Copy, Commit, Confirm, Event, Format, Idle, Log, Prepare, Write}
use Rattle.operations.specs.Operations.{is_idle, needs}
use Rattle.validity.specs.Validity.{state_ok}
use Rattle.refinement.specs.Commit.{closed_writer}
use Rattle.refinement.specs.Settled.{no_pending}
use Rattle.refinement.specs.Consolidate.{consolidate_at, consolidate_value, freeing_record}
use Rattle.refinement.specs.Checkpoint.{checkpoint_at_of, checkpoint_value_of}
use Rattle.refinement.specs.Stores.{World, completed, with_made, stepped, store_at, store_made}
use Rattle.refinement.specs.Calls.{world_of}
use Rattle.refinement.specs.Reference.{Reference, Work, none, idle, under, nothing, with_work, emptied, continues, advances}
use Rattle.refinement.proofs.Pending.{pends, made-valid}
use Rattle.refinement.proofs.ConsolidateValid.{consolidate-valid}
use Rattle.refinement.proofs.CheckpointValid.{checkpoint-valid}
use Rattle.refinement.proofs.InRange.{consolidate-in, checkpoint-in}
use Rattle.refinement.proofs.Invariant.{Doing, Quiet, Busy, Related}
use Rattle.refinement.proofs.Sound.{related-durable}
use Rattle.refinement.proofs.Keeps.{durable-kept}
use Rattle.refinement.proofs.Copies.{durable-fits}
use Rattle.refinement.proofs.StoreKept.{eight-kept}
use Rattle.refinement.proofs.Stepping.{step-on, step-ends}
use Rattle.refinement.proofs.StepCall.{one_store}
use Rattle.refinement.proofs.Keys.{keys-ext}
use Rattle.refinement.proofs.Logging.{Entries, Logged, Beside, settled, beside, shut, Logging, beside-some}

-- a store before the entries keeps them
pub entries-kept : (st : State) (img : List ℕ) (b : Reference) (being : ℕ → Type 0) (a x : ℕ) → 8 * a + 8 ≤ length img → a < entry_word st.sizes 0 → Entries st img b being
    → Entries st (store img a x) b being
entries-kept st img b being a x fits low E =
    let z = st.sizes in
    record {
      keys = E.keys ∙ keys-ext (word img) (word (store img a x)) z st.wide.count (λ e _ _. sym (word-store-other img a x (entry_word z e) fits (λ q. omega arith)));
      line = λ e le out. eight-kept img a x (entry_word z e + 1) fits (λ k h q. omega arith) ∙ E.line e le out;
      no_writes = E.no_writes;
    }

-- ---- the same operation without the wide transaction

module _ (st : State) where
  same-needs : (op : Op) → Beside op → needs (shut st) op ≡ needs st op
  unfolding needs
  same-needs (Consolidate p) s = refl
  same-needs Checkpoint s = refl
  same-needs Idle s = elim s [ ]
  same-needs (Write _ _ _ _ _) s = elim s [ ]
  same-needs (Commit _) s = elim s [ ]
  same-needs (Event _ _ _) s = elim s [ ]
  same-needs (Prepare _) s = elim s [ ]
  same-needs (Confirm _) s = elim s [ ]
  same-needs (Log _ _ _ _) s = elim s [ ]
  same-needs Copy s = elim s [ ]
  same-needs Format s = elim s [ ]

  pub same_store : (op : Op) → Beside op → (img : List ℕ) (i : ℕ) → store_made (shut st) img op i ≡ store_made st img op i
  unfolding consolidate_at consolidate_value freeing_record checkpoint_at_of checkpoint_value_of
  same_store (Consolidate p) s img i = refl
  same_store Checkpoint s img i = refl
  same_store Idle s img i = elim s [ ]
  same_store (Write _ _ _ _ _) s img i = elim s [ ]
  same_store (Commit _) s img i = elim s [ ]
  same_store (Event _ _ _) s img i = elim s [ ]
  same_store (Prepare _) s img i = elim s [ ]
  same_store (Confirm _) s img i = elim s [ ]
  same_store (Log _ _ _ _) s img i = elim s [ ]
  same_store Copy s img i = elim s [ ]
  same_store Format s img i = elim s [ ]

  same-done : (op : Op) → Beside op → completed (shut st) op ≡ shut (completed st op)
  unfolding freeing_record
  same-done (Consolidate p) s = refl
  same-done Checkpoint s = refl
  same-done Idle s = elim s [ ]
  same-done (Write _ _ _ _ _) s = elim s [ ]
  same-done (Commit _) s = elim s [ ]
  same-done (Event _ _ _) s = elim s [ ]
  same-done (Prepare _) s = elim s [ ]
  same-done (Confirm _) s = elim s [ ]
  same-done (Log _ _ _ _) s = elim s [ ]
  same-done Copy s = elim s [ ]
  same-done Format s = elim s [ ]

  -- of no entry
  unlogged : (op : Op) → Beside op → (e : ℕ) → Logged st.wide op e → ⊥
  unlogged (Consolidate p) s e x = x
  unlogged Checkpoint s e x = x
  unlogged Idle s e x = elim s [ ]
  unlogged (Write _ _ _ _ _) s e x = elim s [ ]
  unlogged (Commit _) s e x = elim s [ ]
  unlogged (Event _ _ _) s e x = elim s [ ]
  unlogged (Prepare _) s e x = elim s [ ]
  unlogged (Confirm _) s e x = elim s [ ]
  unlogged (Log _ _ _ _) s e x = elim s [ ]
  unlogged Copy s e x = elim s [ ]
  unlogged Format s e x = elim s [ ]

  -- its stores go before the entries
  below : (op : Op) → Beside op → st.pending.op ≡ op → state_ok st ≡ true → Sixteen st.table → (img : List ℕ) (i : ℕ) → store_at st op i < entry_word st.sizes 0
  below (Consolidate p) s e ok full img i = consolidate-in st ok p i (pends st (Consolidate p) ok e refl).taken
  below Checkpoint s e ok full img i = checkpoint-in st ok i
  below Idle s e ok full img i = elim s [ ]
  below (Write _ _ _ _ _) s e ok full img i = elim s [ ]
  below (Commit _) s e ok full img i = elim s [ ]
  below (Event _ _ _) s e ok full img i = elim s [ ]
  below (Prepare _) s e ok full img i = elim s [ ]
  below (Confirm _) s e ok full img i = elim s [ ]
  below (Log _ _ _ _) s e ok full img i = elim s [ ]
  below Copy s e ok full img i = elim s [ ]
  below Format s e ok full img i = elim s [ ]

  -- what the reference machine has under way for it does nothing
  doing-nothing : (img : List ℕ) (b : Reference) (op : Op) → Beside op → Doing st img b op → b.work ≡ under nothing (needs st op - st.pending.made)
  doing-nothing img b (Consolidate p) s d = d
  doing-nothing img b Checkpoint s d = d
  doing-nothing img b Idle s d = elim s [ ]
  doing-nothing img b (Write _ _ _ _ _) s d = elim s [ ]
  doing-nothing img b (Commit _) s d = elim s [ ]
  doing-nothing img b (Event _ _ _) s d = elim s [ ]
  doing-nothing img b (Prepare _) s d = elim s [ ]
  doing-nothing img b (Confirm _) s d = elim s [ ]
  doing-nothing img b (Log _ _ _ _) s d = elim s [ ]
  doing-nothing img b Copy s d = elim s [ ]
  doing-nothing img b Format s d = elim s [ ]

pub beside-work : {past : List ℕ} (st : State) (img : List ℕ) (b : Reference) (op : Op) → st.pending.op ≡ op → Beside op → Busy past (shut st) img (emptied st.wide.writer b)
    → b.work ≡ under nothing (needs st op - st.pending.made)
beside-work st img b op is s B =
    let w : ℕ = st.wide.writer in
    doing-nothing (shut st) img (emptied w b) op s (subst (Doing (shut st) img (emptied w b)) is B.doing) ∙ ap (λ (n : ℕ). under nothing (n - st.pending.made)) (same-needs st op s)

-- so with so many stores left only those are fewer
left-work : ℕ → Work
left-work zero = idle
left-work (suc k) = under nothing (suc k)

continues-nothing : (j : ℕ) (b : Reference) → continues nothing j b ≡ with_work (left-work j) b
unfolding left-work
continues-nothing zero b = refl
continues-nothing (suc k) b = refl

-- ---- what holds of the state without it, and the entries, make up what holds

pub regain : {past : List ℕ} (s : State) (img : List ℕ) (c : Reference) → state_ok s ≡ true → s.wide.writer < 4 → c.wide ≡ s.wide.writer
    → length s.writers.opened ≡ 4 → length s.writers.held ≡ 64
    → ((v p l i : ℕ) → v < 4 → (v ≡ s.wide.writer → ⊥) → p < s.sizes.pages → l < 64 → i < 64 → c.writes v p l i ≡ none)
    → Entries s img c (Logged s.wide s.pending.op)
    → (Busy past (shut s) img (emptied s.wide.writer c) → Beside s.pending.op) → Related past (world_of (shut s) img) (emptied s.wide.writer c) → Logging past s img c
regain {past = past} s img c ok low book four lines alone E busy r =
    let w : ℕ = s.wide.writer in
    record {
      valid = ok;
      low = low;
      book = book;
      four = four;
      sixty-four = lines;
      durable = durable-kept (shut s) img (emptied w c) c s.next (closed_writer s.sizes s.writers w) no_pending (λ p l h k. refl) (related-durable (shut s) img (emptied w c) r);
      alone = alone;
      entries = E;
      stage = ⊎_elim (λ (q : Quiet past (shut s) img (emptied w c)). settled q.pending q.work) (λ (B : Busy past (shut s) img (emptied w c)). beside (busy B) B) r;
    }

module _ {past : List ℕ} (st : State) (img : List ℕ) (b : Reference) (G : Logging past st img b) (op : Op) (is : st.pending.op ≡ op) (s : Beside op)
    (B : Busy past (shut st) img (emptied st.wide.writer b)) where
  abbrev m : ℕ
  m = st.pending.made

  abbrev w : ℕ
  w = st.wide.writer

  full : Sixteen st.table
  full = G.durable.behind.sixteen

  abbrev image : List ℕ
  image = store_made st img op m

  low : store_at st op m < entry_word st.sizes 0
  low = below st op s is G.valid full img m

  fits : 8 * store_at st op m + 8 ≤ length img
  fits = omega (arith, low, durable-fits past (completed st Copy) img b G.durable)

  entries : Entries st image b (Logged st.wide st.pending.op)
  entries = entries-kept st img b (Logged st.wide st.pending.op) (store_at st op m) _ fits low G.entries

  -- the reference machine after the store
  abbrev left : ℕ
  left = needs st op - m - min 1 (needs st op - m)

  abbrev c : Reference
  c = with_work (left-work left) b

  book : (x : Reference) → advances 1 b.work x ≡ with_work (left-work left) x
  book x = ap (λ (k : Work). advances 1 k x) (beside-work st img b op is s B) ∙ continues-nothing left x

  -- one store without the wide transaction
  next : Related past (stepped (world_of (shut st) img)) (emptied w c)
  next = subst (Related past (stepped (world_of (shut st) img))) (book (emptied w b)) (one_store past (shut st) img (emptied w b) B)

  goes : m + 1 < needs st op → Logging past (with_made st (m + 1)) image c
  goes more =
      let there : m + 1 < needs (shut st) st.pending.op = subst (λ (q : Op). m + 1 < needs (shut st) q) (sym is) (subst (λ (n : ℕ). m + 1 < n) (sym (same-needs st op s)) more) in
      let world = step-on (shut st) img there ∙ ap (λ (q : Op). world_of (shut (with_made st (m + 1))) (store_made (shut st) img q m)) is ∙ ap (world_of (shut (with_made st (m + 1)))) (same_store st op s img m) in
      regain (with_made st (m + 1)) image c
      (made-valid st (m + 1) G.valid (ap is_idle is ∙ (beside-some op s).0) (subst (λ (q : Op). m + 1 < needs st q) (sym is) more))
      G.low G.book G.four G.sixty-four G.alone
      (record { keys = entries.keys; line = entries.line; no_writes = entries.no_writes })
      (λ _. subst Beside (sym is) s)
      (subst (λ (v : World). Related past v (emptied w c)) world next)

  -- the last
  last-next : m + 1 ≡ needs st op → Related past (world_of (shut (completed st op)) image) (emptied w c)
  last-next last =
      let there : m + 1 ≡ needs (shut st) st.pending.op = last ∙ sym (same-needs st op s) ∙ ap (needs (shut st)) (sym is) in
      let world =
      step-ends (shut st) img there
      ∙ ap (λ (q : Op). world_of (completed (shut st) q) (store_made (shut st) img q m)) is
      ∙ ap (world_of (completed (shut st) op)) (same_store st op s img m)
      ∙ ap (λ (x : State). world_of x image) (same-done st op s) in
      subst (λ (v : World). Related past v (emptied w c)) world next

  last-entries : Entries st image b (λ e. ⊥)
  last-entries =
      record { keys = entries.keys; line = λ e le out. entries.line e le (subst (λ (q : Op). Logged st.wide q e → ⊥) (sym is) (unlogged st op s e)); no_writes = entries.no_writes }

-- of either
ends : {past : List ℕ} (st : State) (img : List ℕ) (b : Reference) (G : Logging past st img b) (op : Op) (is : st.pending.op ≡ op) (s : Beside op)
    (B : Busy past (shut st) img (emptied st.wide.writer b)) → st.pending.made + 1 ≡ needs st op → Logging past (completed st op) (image st img b G op is s B) (c st img b G op is s B)
ends st img b G (Consolidate p) is s B last =
    let E = last-entries st img b G (Consolidate p) is s B in
    regain (completed st (Consolidate p)) (image st img b G (Consolidate p) is s B) (c st img b G (Consolidate p) is s B)
    (consolidate-valid st p G.valid (full st img b G (Consolidate p) is s B) G.durable.map-long (pends st (Consolidate p) G.valid is refl).taken)
    G.low G.book G.four G.sixty-four G.alone (record { keys = E.keys; line = E.line; no_writes = E.no_writes }) (λ B. absurd B.doing)
    (last-next st img b G (Consolidate p) is s B last)
ends st img b G Checkpoint is s B last =
    let E = last-entries st img b G Checkpoint is s B in
    regain (completed st Checkpoint) (image st img b G Checkpoint is s B) (c st img b G Checkpoint is s B) (checkpoint-valid st G.valid (full st img b G Checkpoint is s B))
    G.low G.book G.four G.sixty-four G.alone (record { keys = E.keys; line = E.line; no_writes = E.no_writes }) (λ B. absurd B.doing)
    (last-next st img b G Checkpoint is s B last)
ends {past = past} st img b G Idle is s B last = elim s [ ]
ends {past = past} st img b G (Write _ _ _ _ _) is s B last = elim s [ ]
ends {past = past} st img b G (Commit _) is s B last = elim s [ ]
ends {past = past} st img b G (Event _ _ _) is s B last = elim s [ ]
ends {past = past} st img b G (Prepare _) is s B last = elim s [ ]
ends {past = past} st img b G (Confirm _) is s B last = elim s [ ]
ends {past = past} st img b G (Log _ _ _ _) is s B last = elim s [ ]
ends {past = past} st img b G Copy is s B last = elim s [ ]
ends {past = past} st img b G Format is s B last = elim s [ ]

-- one store
pub step-beside : {past : List ℕ} (st : State) (img : List ℕ) (b : Reference) → Logging past st img b → (op : Op) → st.pending.op ≡ op → Beside op → Busy past (shut st) img (emptied st.wide.writer b)
    → Logging past (stepped (world_of st img)).st (stepped (world_of st img)).image (advances 1 b.work b)
step-beside {past = past} st img b G op is s B =
    let m : ℕ = st.pending.made in
    let low = (pends st op G.valid is (beside-some op s).0).made-low in
    let there : World → Type 0 = λ v. Logging past v.st v.image (advances 1 b.work b) in
    case_on (ltb (m + 1) (needs st op))
    (λ t.
    let more : m + 1 < needs st op = ltb-true (m + 1) (needs st op) t in
    let world = step-on st img (subst (λ (q : Op). m + 1 < needs st q) (sym is) more) ∙ ap (λ (q : Op). world_of (with_made st (m + 1)) (store_made st img q m)) is in
    subst there (sym world) (subst (Logging past (with_made st (m + 1)) (store_made st img op m)) (sym (book st img b G op is s B b)) (goes st img b G op is s B more)))
    (λ t.
    let last : m + 1 ≡ needs st op = omega (arith, low, ltb-false (m + 1) (needs st op) t) in
    let world = step-ends st img (subst (λ (q : Op). m + 1 ≡ needs st q) (sym is) last) ∙ ap (λ (q : Op). world_of (completed st q) (store_made st img q m)) is in
    subst there (sym world) (subst (Logging past (completed st op) (store_made st img op m)) (sym (book st img b G op is s B b)) (ends st img b G op is s B last)))
