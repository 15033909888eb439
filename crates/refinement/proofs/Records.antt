-- Store i of a commit: where it goes and its value. The words of its records lie in the journal; while they are there (`Stored`), a store to a word outside
-- of the journal leaves them, and so does a change of the state that keeps the writer's held lines and their slots.
use Prim.Native.Nat.{ℕ, ◌+◌, ◌*◌, ◌/◌, ◌%◌, ◌<◌, ◌≤◌}
use mathlib.Core.Bool.{Bool, not, cond}
use mathlib.Core.List.{List}
use mathlib.Core.Logic.{◌⊎◌, ⊎_elim}
use mathlib.Core.Path.{◌≡◌, sym, ap, ap₂, ◌∙◌}
use native.Mathlib.Omega.{arith}
use lib.Dec.{ltb, eqb}
use lib.ListN.{length, get_or}
use borrow.Author.Tests.{lt-ltb, le-ltb, eqb-false, not-true}
use Rattle.bounded.proofs.Tests.{case_on}
use Rattle.bounded.proofs.Those.{length-those, chosen, those-ext}
use Rattle.layout.specs.declared.Sizes.{Sizes}
use Rattle.layout.specs.Layout.{Legal, head_word, record_word, slot_word, frame_word}
use Rattle.layout.proofs.LayoutLaws.{record-end}
use Rattle.words.specs.Words.{word, store}
use Rattle.words.proofs.WordLaws.{word-store-other}
use Rattle.journal.specs.declared.Slot.{Slot}
use Rattle.journal.specs.declared.Record.{Record}
use Rattle.journal.specs.Records.{position, word_of_record}
use Rattle.replay.specs.declared.Table.{Table}
use Rattle.replay.specs.Table.{slot_in}
use Rattle.masks.specs.Lines.{exclusive_or}
use Rattle.state.specs.State.{State}
use Rattle.state.specs.declared.Op.TheVariants.{Commit}
use Rattle.state.specs.Held.{held_at, held_slots}
use Rattle.operations.specs.Operations.{needs}
use Rattle.refinement.specs.Commit.{commit_slots, commit_record, commit_at, commit_value, committed_slot, commit_record_of, commit_at_of, commit_value_of}

-- ---- store i

module _ (st : State) (w : ℕ) where
  abbrev pub count : ℕ
  count = length (commit_slots st w)

  pub at-record : (i : ℕ) → i < 4 * count → commit_at st w i ≡ record_word st.sizes (position st.sizes st.head (i / 4)) + i % 4
  unfolding commit_at_of
  at-record i l = rw (lt-ltb i (4 * count) l)

  pub value-record : (i : ℕ) → i < 4 * count → commit_value st w i ≡ word_of_record (commit_record st w (i / 4)) (i % 4)
  unfolding commit_value_of
  value-record i l = rw (lt-ltb i (4 * count) l)

  pub at_head : commit_at st w (4 * count) ≡ head_word
  unfolding commit_at_of
  at_head = rw (le-ltb (4 * count) (4 * count) (omega arith))

  pub value-head : commit_value st w (4 * count) ≡ position st.sizes st.head count
  unfolding commit_value_of
  value-head = rw (le-ltb (4 * count) (4 * count) (omega arith))

  pub commit-needs : (m : ℕ) → m < needs st (Commit w) → needs st (Commit w) ≡ 4 * count + 1
  unfolding needs
  commit-needs m l =
      case_on (eqb count 0)
      (λ e. absurd (omega (arith, rw e at l)))
      (λ e. rw e)

-- ---- the records are in the image

-- by the parts of a state that they are made of
abbrev pub StoredOf : Sizes → ℕ → Table → List ℕ → List ℕ → ℕ → Type 0
StoredOf z head t held img w = (i : ℕ) → i < 4 * length (held_slots z held w) → word img (commit_at_of z head held w i) ≡ commit_value_of z head t held w i

abbrev pub Stored : State → List ℕ → ℕ → Type 0
Stored st img w = StoredOf st.sizes st.head st.table st.writers.held img w

-- a word outside of the journal
abbrev pub OffJournal : Sizes → ℕ → Type 0
OffJournal z a = (a < slot_word z z.slots) ⊎ (frame_word z ≤ a)

-- one of theirs lies in it
in-journal : (z : Sizes) (head : ℕ) (held : List ℕ) (w i a : ℕ) → Legal z → i < 4 * length (held_slots z held w) → OffJournal z a → a ≡ commit_at_of z head held w i → ⊥
unfolding commit_at_of
in-journal z head held w i a g l off e =
    let q : ℕ = position z head (i / 4) in
    let at : a ≡ record_word z q + i % 4 = rw (lt-ltb i (4 * length (held_slots z held w)) l) at e in
    let end = record-end z g q in
    ⊎_elim (λ (b : a < slot_word z z.slots). omega (arith, at, b)) (λ (b : frame_word z ≤ a). omega (arith, at, b, end)) off

pub stored-kept : (z : Sizes) (head : ℕ) (t : Table) (held img : List ℕ) (w a x : ℕ) → Legal z → 8 * a + 8 ≤ length img → OffJournal z a
    → StoredOf z head t held img w → StoredOf z head t held (store img a x) w
stored-kept z head t held img w a x g fits off h i l =
    word-store-other img a x (commit_at_of z head held w i) fits (in-journal z head held w i a g l off) ∙ h i l

-- ---- the slots of which a writer holds lines, by its masks

pub slots_same : (z : Sizes) (held held' : List ℕ) (w : ℕ) → ((s : ℕ) → s < z.slots → held_at held' w s ≡ held_at held w s) → held_slots z held' w ≡ held_slots z held w
unfolding held_slots
slots_same z held held' w e =
    those-ext (λ s. not (eqb (held_at held' w s) 0)) (λ s. not (eqb (held_at held w s) 0)) z.slots (λ s l. ap (λ (m : ℕ). not (eqb m 0)) (e s l))

-- and their records, by those slots
module _ (z : Sizes) (head : ℕ) (t t' : Table) (held held' : List ℕ) (w : ℕ) (masks : (s : ℕ) → s < z.slots → held_at held' w s ≡ held_at held w s)
    (slots : (s : ℕ) → s < z.slots → (held_at held w s ≡ 0 → ⊥) → slot_in t' s ≡ slot_in t s) where
  same : held_slots z held' w ≡ held_slots z held w
  same = slots_same z held held' w masks

  at_same : (i : ℕ) → commit_at_of z head held' w i ≡ commit_at_of z head held w i
  unfolding commit_at_of
  at_same i = ap (λ (l : List ℕ). cond (ltb i (4 * length l)) (record_word z (position z head (i / 4)) + i % 4) head_word) same

  abbrev record_of : ℕ → Record
  record_of s = record { first = head; slot = s; now = committed_slot t' held' w s }

  record_same : (j : ℕ) → j < length (held_slots z held w) → commit_record_of z head t' held' w j ≡ commit_record_of z head t held w j
  unfolding commit_record_of held_slots
  record_same j l =
      let test : ℕ → Bool = λ s. not (eqb (held_at held w s) 0) in
      let c = chosen test z.slots j 0 (omega (arith, l, length-those test z.slots)) in
      let s : ℕ = get_or (held_slots z held w) j 0 in
      let holds : held_at held w s ≡ 0 → ⊥ = eqb-false (held_at held w s) 0 (not-true (eqb (held_at held w s) 0) c.passes) in
      ap (λ (x : List ℕ). record_of (get_or x j 0)) same
      ∙ ap₂ (λ (u : Slot) (m : ℕ). record { first = head; slot = s; now = record { page = u.page; original = u.original; spare = u.spare; bitmap = exclusive_or u.bitmap m } }) (slots s c.below holds) (masks s c.below)

  value_same : (i : ℕ) → i < 4 * length (held_slots z held w) → commit_value_of z head t' held' w i ≡ commit_value_of z head t held w i
  unfolding commit_value_of
  value_same i l =
      ap (λ (x : List ℕ). cond (ltb i (4 * length x)) (word_of_record (commit_record_of z head t' held' w (i / 4)) (i % 4)) (position z head (length x))) same
      ∙ ap (λ (r : Record). cond (ltb i (4 * length (held_slots z held w))) (word_of_record r (i % 4)) (position z head (length (held_slots z held w)))) (record_same (i / 4) (omega arith))

  pub stored_same : (img : List ℕ) → StoredOf z head t held img w → StoredOf z head t' held' img w
  stored_same img h i l =
      let m : i < 4 * length (held_slots z held w) = omega (arith, l, ap length same) in
      ap (word img) (at_same i) ∙ h i m ∙ sym (value_same i m)
