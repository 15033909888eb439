-- The stores of a checkpoint: the slot words of slots with a live record, which a mount does not read while those records are live. Their
-- values are read from the journal, which none of them goes to.
use Prim.Native.Nat.{ℕ, ◌+◌, ◌*◌, ◌/◌, ◌%◌, ◌<◌, ◌≤◌}
use mathlib.Core.Bool.{Bool, true, not}
use mathlib.Core.List.{List}
use mathlib.Core.Logic.{inl, inr}
use mathlib.Core.Path.{◌≡◌, sym, ap, ◌∙◌, subst, refl}
use native.Mathlib.Omega.{arith}
use lib.Dec.{eqb}
use lib.ListN.{length, get_or}
use borrow.Author.Tests.{lt-ltb, le-ltb, eqb-false, ne_eqb, not-true}
use Rattle.bounded.specs.Below.{count_below}
use Rattle.bounded.proofs.Below.{count-before}
use Rattle.bounded.proofs.Those.{chosen, length-those, those-at}
use Rattle.layout.specs.declared.Sizes.{Sizes}
use Rattle.layout.specs.Layout.{Legal, tail_word, slot_word, record_word, image_length}
use Rattle.words.specs.Words.{word, store}
use Rattle.layout.proofs.LayoutLaws.{slot_apart}
use Rattle.words.proofs.WordLaws.{word_lt, word-store-other}
use Rattle.replay.specs.Table.{last_in, no_position}
use Rattle.mount.proofs.Dead.{Dead, dead-slot}
use Rattle.replay.proofs.Tables.{Sixteen}
use Rattle.state.specs.State.{State}
use Rattle.state.specs.declared.Op.TheVariants.{Checkpoint}
use Rattle.operations.specs.Operations.{recorded_slots}
use Rattle.refinement.proofs.Appended.{last-at}
use Rattle.refinement.specs.Checkpoint.{checkpoint_slot, checkpoint_at, checkpoint_value, checkpoint_at_of, checkpoint_value_of}
use Rattle.refinement.specs.Reference.{Reference}
use Rattle.refinement.proofs.Copies.{durable-legal}
use Rattle.refinement.proofs.Invariant.{Durable}
use Rattle.refinement.proofs.StoreKept.{store-fits}
use Rattle.refinement.proofs.Stepping.{Mid, aside-before}

-- how many slots have a live record
abbrev pub recorded : State → ℕ
recorded st = length (recorded_slots st.sizes st.table.last)

module _ (st : State) (legal : Legal st.sizes) (full : Sixteen st.table) where
  abbrev z : Sizes
  z = st.sizes

  abbrev has : ℕ → Bool
  has s = not (eqb (get_or st.table.last s 0) no_position)

  last-is : (s : ℕ) → s < z.slots → get_or st.table.last s 0 ≡ last_in st.table s
  last-is s l = last-at st.table s full (omega (arith, legal.slots-high))

  -- the slot that store i is of
  pub record StoredSlot (i : ℕ) : Type 0 where
    pub low : checkpoint_slot st i < z.slots
    pub is-recorded : last_in st.table (checkpoint_slot st i) ≡ no_position → ⊥
    pub before : count_below (checkpoint_slot st i) has ≡ i / 3

  pub stored-slot : (i : ℕ) → i < 3 * recorded st → StoredSlot i
  unfolding recorded_slots
  stored-slot i l =
      let n : i / 3 < count_below z.slots has = omega (arith, length-those has z.slots) in
      let c = chosen has z.slots (i / 3) 0 n in
      record {
        low = c.below;
        is-recorded = λ e. eqb-false (get_or st.table.last (checkpoint_slot st i) 0) no_position (not-true _ c.passes) (last-is (checkpoint_slot st i) c.below ∙ e);
        before = c.before;
      }

  -- each slot with a live record has its stores
  pub slot-stored : (s k : ℕ) → s < z.slots → (last_in st.table s ≡ no_position → ⊥) → k < 3
      → (i : ℕ) × (i < 3 * recorded st) × (checkpoint_slot st i ≡ s) × (i % 3 ≡ k)
  unfolding recorded_slots
  slot-stored s k l f h =
      let t : has s ≡ true = ap not (ne_eqb (get_or st.table.last s 0) no_position (λ e. f (sym (last-is s l) ∙ e))) in
      let j : ℕ = count_below s has in
      let a : (3 * j + k) / 3 ≡ j = omega arith in (
        3 * j + k,
        omega (arith, count-before has z.slots s l t, length-those has z.slots),
        ap (λ (y : ℕ). get_or (recorded_slots z st.table.last) y 0) a ∙ those-at has z.slots s 0 l t,
        omega arith,
      )

  -- where they go, and their values
  pub at_slot : (i : ℕ) → i < 3 * recorded st → checkpoint_at st i ≡ slot_word z (checkpoint_slot st i) + i % 3
  unfolding checkpoint_at_of
  at_slot i l = rw (lt-ltb i (3 * recorded st) l)

  pub value-slot : (img : List ℕ) (i : ℕ) → i < 3 * recorded st → checkpoint_value st img i ≡ word img (record_word z (last_in st.table (checkpoint_slot st i)) + 1 + i % 3)
  unfolding checkpoint_value_of
  value-slot img i l = rw (lt-ltb i (3 * recorded st) l)

  pub at_tail : checkpoint_at st (3 * recorded st) ≡ tail_word
  unfolding checkpoint_at_of
  at_tail = rw (le-ltb (3 * recorded st) (3 * recorded st) (omega arith))

  pub value-tail : (img : List ℕ) → checkpoint_value st img (3 * recorded st) ≡ st.head
  unfolding checkpoint_value_of
  value-tail img = rw (le-ltb (3 * recorded st) (3 * recorded st) (omega arith))

  same_store : (i j : ℕ) → i < 3 * recorded st → j < 3 * recorded st → checkpoint_at st i ≡ checkpoint_at st j → i ≡ j
  same_store i j l m e =
      let w = slot_apart z (checkpoint_slot st i) (i % 3) (checkpoint_slot st j) (j % 3) (omega arith) (omega arith) (sym (at_slot i l) ∙ e ∙ at_slot j m) in
      let q : i / 3 ≡ j / 3 = sym (stored-slot i l).before ∙ ap (λ (s : ℕ). count_below s has) w.0 ∙ (stored-slot j m).before in
      let r : i % 3 ≡ j % 3 = w.1 in
      omega arith

  value-kept : (img : List ℕ) (v i j : ℕ) → i < 3 * recorded st → j < 3 * recorded st → 8 * checkpoint_at st j + 8 ≤ length img
      → checkpoint_value st (store img (checkpoint_at st j) v) i ≡ checkpoint_value st img i
  value-kept img v i j l m fits =
      value-slot (store img (checkpoint_at st j) v) i l
      ∙ word-store-other img (checkpoint_at st j) v (record_word z (last_in st.table (checkpoint_slot st i)) + 1 + i % 3) fits
      (λ e. omega (arith, at_slot j m, (stored-slot j m).low))
      ∙ sym (value-slot img i l)

module _ (past : List ℕ) (st : State) (img : List ℕ) (b : Reference) (D : Durable past st img b) where
  pub checkpoint-mid : (m : ℕ) → m < 3 * recorded st → Mid past st img b D Checkpoint m
  checkpoint-mid m l =
      let z : Sizes = st.sizes in
      let g : Legal z = durable-legal past st img b D in
      let full : Sixteen st.table = D.behind.sixteen in
      let a : checkpoint_at st m ≡ slot_word z (checkpoint_slot st m) + m % 3 = at_slot st g full m l in
      let s = stored-slot st g full m l in
      let inside : 8 * checkpoint_at st m + 8 ≤ image_length z = omega arith in
      let none : last_in D.view.table (checkpoint_slot st m) ≡ no_position → ⊥ = λ e. s.is-recorded (D.behind.last-same (checkpoint_slot st m) s.low ∙ e) in
      let dead : Dead D.view (slot_word z (checkpoint_slot st m) + m % 3) =
      subst (λ (y : Sizes). Dead D.view (slot_word y (checkpoint_slot st m) + m % 3)) D.sizes-same
      (dead-slot D.view (checkpoint_slot st m) (m % 3) (rw D.sizes-same s.low) (omega arith) none) in
      record {
        is_in_place = refl;
        inside = inside;
        low = rw (value-slot st g full img m l) (word_lt img (record_word z (last_in st.table (checkpoint_slot st m)) + 1 + m % 3) D.bytes);
        apart = λ j h e. let w : m ≡ j = same_store st g full m j l (omega arith) e in omega arith;
        stable =
            λ j h.
            value-kept st g full img (checkpoint_value st img m) j m (omega arith) l
            (store-fits past st img b D (checkpoint_at st m) (checkpoint_value st img m) inside);
        harmless = inr (aside-before past st img b D Checkpoint (checkpoint_at st m) (omega arith) (λ p. inl (omega (arith, a, s.low))) (subst (Dead D.view) (sym a) dead));
      }
