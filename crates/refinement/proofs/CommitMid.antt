-- A store of a pending commit: the words of its records go behind the live ones, where mount does not read yet; so every store but the
-- last, which is head, leaves all as it was.
use Prim.Native.Nat.{ℕ, suc, ◌+◌, ◌-◌, ◌*◌, ◌/◌, ◌%◌, ◌^◌, ◌<◌}
use mathlib.Core.Bool.{Bool, true, false, not}
use mathlib.Core.List.{List}
use mathlib.Core.Logic.{inl, inr, ⊎_elim}
use mathlib.Core.Path.{◌≡◌, refl, sym, ap, ◌∙◌, subst}
use native.Mathlib.Omega.{arith}
use lib.Dec.{ltb, eqb}
use lib.ListN.{length, get_or}
use borrow.Author.Tests.{ltb-true, ltb-false, lt-ltb, le-ltb, eqb-true, eqb-false}
use Rattle.bounded.specs.Below.{those, count_below}
use Rattle.bounded.specs.Rows.{refusal}
use Rattle.bounded.proofs.Below.{count-before}
use Rattle.bounded.proofs.Tests.{case_on}
use Rattle.bounded.proofs.Those.{length-those, chosen}
use Rattle.layout.specs.declared.Sizes.{Sizes}
use Rattle.layout.specs.Layout.{Legal, head_word, record_word, slot_word}
use Rattle.words.specs.Words.{word}
use Rattle.layout.proofs.LayoutLaws.{record-end}
use Rattle.words.proofs.WordLaws.{word_lt}
use Rattle.journal.specs.declared.Slot.{Slot}
use Rattle.journal.specs.Slots.{shaped}
use Rattle.journal.specs.Records.{position, word_of_record, records_ok}
use Rattle.replay.specs.Table.{slot_in, last_in, no_position}
use Rattle.replay.specs.Map.{page_frames}
use Rattle.mount.proofs.Dead.{Dead, dead-new}
use Rattle.mount.proofs.LastRecords.{last-record, table-slot}
use Rattle.journal.proofs.RightRecords.{one-transaction}
use Rattle.journal.proofs.Ring.{words-apart}
use Rattle.journal.proofs.SlotWords.{Owning, Free, shape, owning-shaped, shaped-fits, record-word-lt}
use Rattle.mount.proofs.View.{View, Shows}
use Rattle.mount.proofs.Verdict.{Taken}
use Rattle.masks.proofs.Members.{exclusive-or-lt}
use Rattle.state.specs.State.{State}
use Rattle.state.specs.declared.Op.TheVariants.{Commit, Prepare}
use Rattle.state.specs.Held.{some_prepared, held_at, held_slots}
use Rattle.operations.specs.Operations.{needs, commit_rows}
use Rattle.validity.specs.Validity.{state_ok}
use Rattle.operations.proofs.Taken.{CommitTaken, commit-taken, commit-alone, prepare-taken, prepare-alone}
use Rattle.refinement.specs.Commit.{commit_slots, commit_record, commit_at, commit_value, commit_record_of, commit_at_of, commit_value_of}
use Rattle.refinement.specs.Stores.{stepped}
use Rattle.refinement.proofs.CommitValid.{SameNames, owning-renamed, commit-slot}
use Rattle.refinement.proofs.Pending.{pends}
pub use Rattle.refinement.proofs.Records.{count, at-record, value-record, at_head, value-head, commit-needs}
use Rattle.refinement.proofs.StateValid.{valid}
use Rattle.refinement.specs.Reference.{Reference, committing, under, advances}
use Rattle.refinement.proofs.Invariant.{TakenOnly, Durable, Doing, Busy, Related}
use Rattle.refinement.proofs.Stepping.{Aside, Mid, aside-before, step-mid}

-- ---- what a mount finds, under the state's own header

module _ (past : List ℕ) (st : State) (img : List ℕ) (b : Reference) (D : Durable past st img b) where
  abbrev pub own_view : View
  own_view =
      record { sizes = st.sizes; layout = D.view.layout; head = st.head; tail = st.tail; records = D.view.records; table = D.view.table; homes = D.view.homes; count = D.view.count; keys = D.view.keys }

  pub own_same : D.view ≡ own_view
  own_same =
      let e₀ = D.sizes-same in
      let e₁ = D.head-same in
      let e₂ = D.tail-same in
      λ i. record { sizes = e₀ i; layout = D.view.layout; head = e₁ i; tail = e₂ i; records = D.view.records; table = D.view.table; homes = D.view.homes; count = D.view.count; keys = D.view.keys }

  pub own-shows : Shows img own_view
  own-shows = D.shows ∙ own_same

  pub own-mounts : Taken (length img) own_view
  own-mounts = subst (Taken (length img)) own_same D.mounts

  -- bitmaps are read from words
  pub bitmap-low : (s : ℕ) → s < st.sizes.slots → (slot_in st.table s).bitmap < 2 ^ 64
  bitmap-low s l =
      let v : View = own_view in
      let there : (slot_in v.table s).bitmap < 2 ^ 64 =
      case_on (eqb (last_in v.table s) no_position)
      (λ e.
      subst (λ (u : Slot). u.bitmap < 2 ^ 64) (sym (table-slot img v own-shows own-mounts.legal s l (eqb-true (last_in v.table s) no_position e)))
      (word_lt img (slot_word st.sizes s + 2) D.bytes))
      (λ e.
      subst (λ (x : ℕ). x < 2 ^ 64) ((last-record img v own-shows own-mounts.legal s l (eqb-false (last_in v.table s) no_position e)).words 2 (omega arith))
      (word_lt img (record_word st.sizes (last_in v.table s) + 1 + 2) D.bytes)) in
      ⊎_elim
      (λ q. subst (λ (u : Slot). u.bitmap < 2 ^ 64) (sym q) there)
      (λ (q : TakenOnly (page_frames (word img)) st.sizes D.view.table st.table s). subst (λ (x : ℕ). x < 2 ^ 64) (sym q.bitmap) (omega arith))
      (D.behind.slot_same s l)

-- ---- the records

pub commit-pending : (st : State) (w : ℕ) → state_ok st ≡ true → st.pending.op ≡ Commit w → CommitTaken st w
commit-pending st w ok e = commit-taken st w (pends st (Commit w) ok e refl).taken

module _ (st : State) (w : ℕ) where
  commit-first : (j : ℕ) → (commit_record st w j).first ≡ st.head
  unfolding commit_record_of
  commit-first j = refl

  -- their slots rise
  commit-rises : (j : ℕ) → suc j < count st w → (commit_record st w j).slot < (commit_record st w (suc j)).slot
  unfolding commit_record_of held_slots
  commit-rises j l =
      let f : ℕ → Bool = λ s. not (eqb (held_at st.writers.held w s) 0) in
      let S : ℕ = st.sizes.slots in
      let a = chosen f S j 0 (omega (arith, l, length-those f S)) in
      let c = chosen f S (suc j) 0 (omega (arith, l, length-those f S)) in
      let x : ℕ = get_or (those S f) j 0 in
      let y : ℕ = get_or (those S f) (suc j) 0 in
      case_on (ltb x y)
      (λ t. ltb-true x y t)
      (λ t.
      case_on (eqb y x)
      (λ q. absurd (omega (arith, a.before, c.before, ap (λ (k : ℕ). count_below k f) (eqb-true y x q))))
      (λ q.
      let ne : y ≡ x → ⊥ = eqb-false y x q in
      absurd (omega (arith, a.before, c.before, count-before f x y (omega (arith, ltb-false x y t)) c.passes))))

  pub commit-names : (j : ℕ) → j < count st w → SameNames (slot_in st.table (commit_record st w j).slot) (commit_record st w j).now
  commit-names j l =
      let c = (commit-slot st w j l).now in
      record { page = ap (λ (v : Slot). v.page) c; original = ap (λ (v : Slot). v.original) c; spare = ap (λ (v : Slot). v.spare) c }

  module _ (ok : state_ok st ≡ true) (T : CommitTaken st w) where
    commit-shape : (j : ℕ) → j < count st w → shaped st.sizes (commit_record st w j).now ≡ true
    commit-shape j l =
        let z : Sizes = st.sizes in
        let c = commit-slot st w j l in
        let s : ℕ = (commit_record st w j).slot in
        let old : Slot = slot_in st.table s in
        owning-shaped z (commit_record st w j).now
        (owning-renamed z old (commit_record st w j).now (commit-names j l)
        (⊎_elim (λ (o : Owning z old). o)
        (λ (o : Free z old). absurd ((valid st ok).held.owned s w c.slot-low T.writer-low c.holds o.page-none))
        (shape z old ((valid st ok).slots.shapes s c.slot-low))))

    -- they are right records
    pub commit-right : records_ok st.sizes st.head (count st w) (commit_record st w) ≡ true
    commit-right =
        one-transaction st.sizes st.head (count st w) (commit_record st w) (valid st ok).positions.head-low
        (λ j l. (commit-first j, (commit-slot st w j l).slot-low, commit-shape j l)) commit-rises

    -- and their words are words
    commit-word : ((s : ℕ) → s < st.sizes.slots → (slot_in st.table s).bitmap < 2 ^ 64) → ((s : ℕ) → s < st.sizes.slots → held_at st.writers.held w s < 2 ^ 64)
        → (j k : ℕ) → j < count st w → word_of_record (commit_record st w j) k < 2 ^ 64
    commit-word bits held j k l =
        let z : Sizes = st.sizes in
        let g : Legal z = (valid st ok).legal in
        let c = commit-slot st w j l in
        let s : ℕ = (commit_record st w j).slot in
        record-word-lt (commit_record st w j) k (omega (arith, commit-first j, (valid st ok).positions.head-low, g.places-high)) (omega (arith, c.slot-low, g.slots-high))
        (shaped-fits z (commit_record st w j).now g (commit-shape j l))
        (subst (λ (v : Slot). v.bitmap < 2 ^ 64) (sym c.now) (exclusive-or-lt (slot_in st.table s).bitmap (held_at st.writers.held w s) (bits s c.slot-low) (held s c.slot-low)))

-- ---- every store but the last, of a commit and of a prepare

module _ (past : List ℕ) (st : State) (img : List ℕ) (b : Reference) (ok : state_ok st ≡ true) (D : Durable past st img b) (w : ℕ) (T : CommitTaken st w)
    (alone : some_prepared st.writers.prepared ≡ false) (low : (s : ℕ) → s < st.sizes.slots → held_at st.writers.held w s < 2 ^ 64) where
  records-mid : (m : ℕ) → m < 4 * count st w → Mid past st img b D (Commit w) m
  records-mid m l =
      let z : Sizes = st.sizes in
      let g : Legal z = (valid st ok).legal in
      let at : commit_at st w m ≡ record_word z (position z st.head (m / 4)) + m % 4 = at-record st w m l in
      let end = record-end z g (position z st.head (m / 4)) in
      record {
        is_in_place = refl;
        inside = omega (arith, at, end);
        low = subst (λ (x : ℕ). x < 2 ^ 64) (sym (value-record st w m l)) (commit-word st w ok T (bitmap-low past st img b D) low (m / 4) (m % 4) (omega arith));
        apart =
            λ j k q.
            let o : commit_at st w j ≡ record_word z (position z st.head (j / 4)) + j % 4 = at-record st w j (omega arith) in
            let x = words-apart z g st.head (m / 4) (m % 4) (j / 4) (j % 4) (omega (arith, T.fits)) (omega (arith, T.fits)) (omega arith) (omega arith) (sym at ∙ q ∙ o) in
            omega (arith, x.0, x.1);
        stable = λ j k. refl;
        harmless =
            inr (aside-before past st img b D (Commit w) (commit_at st w m) (omega (arith, at, end))
            (λ p. absurd (omega (arith, p, ltb-false st.writers.prepared 4 alone)))
            (subst (λ (a : ℕ). Dead D.view a) (sym at)
            (subst (λ (v : View). Dead v (record_word z (position z st.head (m / 4)) + m % 4)) (sym (own_same past st img b D))
            (dead-new (own_view past st img b D) g (valid st ok).positions (m / 4) (m % 4) (omega (arith, T.fits)) (omega arith)))));
      }

  -- a prepare's are the same stores
  records-prepared : (m : ℕ) → m < 4 * count st w → Mid past st img b D (Prepare w) m
  records-prepared m l =
      let M = records-mid m l in
      record {
        is_in_place = refl;
        inside = M.inside;
        low = M.low;
        apart = M.apart;
        stable = M.stable;
        harmless =
            ⊎_elim inl
            (λ (s : Aside past st img b D (Commit w) (commit_at st w m)).
            inr (record { dead = s.dead; uncommitted = s.uncommitted; unowned = s.unowned; off = s.off }))
            M.harmless;
      }

-- of the one that is pending
module _ (past : List ℕ) (st : State) (img : List ℕ) (b : Reference) (B : Busy past st img b) (w : ℕ) where
  module _ (row : refusal (commit_rows st w) ≡ 0) where
    T : CommitTaken st w
    T = commit-taken st w row

    low : (s : ℕ) → s < st.sizes.slots → held_at st.writers.held w s < 2 ^ 64
    low s k = B.writers.held_low w s T.writer-low k

  pub commit-mid : st.pending.op ≡ Commit w → (m : ℕ) → m < 4 * count st w → Mid past st img b B.durable (Commit w) m
  commit-mid e =
      let row = (pends st (Commit w) B.valid e refl).taken in
      records-mid past st img b B.valid B.durable w (T row) (commit-alone st w row) (low row)

  pub prepare-mid : st.pending.op ≡ Prepare w → (m : ℕ) → m < 4 * count st w → Mid past st img b B.durable (Prepare w) m
  prepare-mid e =
      let row = (pends st (Prepare w) B.valid e refl).taken in
      let taken = prepare-taken st w row in
      records-prepared past st img b B.valid B.durable w taken (prepare-alone st w row).1 (λ s k. B.writers.held_low w s taken.writer-low k)

  pub commit-doing : st.pending.op ≡ Commit w → b.work ≡ under (committing w) (needs st (Commit w) - st.pending.made)
  commit-doing e = subst (Doing st img b) e B.doing

  pub commit-on : (e : st.pending.op ≡ Commit w) → st.pending.made + 1 < needs st (Commit w) → Related past (stepped (record { st = st; image = img })) (advances 1 b.work b)
  unfolding needs
  commit-on e h =
      let m : ℕ = st.pending.made in
      step-mid past st img b B (committing w) (Commit w) e refl (commit-doing e) h (commit-mid e m (omega (arith, h, commit-needs st w m (omega arith)))) refl
