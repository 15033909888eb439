-- The stores of a consolidation: the slot that is freed, the lines copied, and where each store goes with what value.
use Prim.Native.Nat.{ℕ, ◌+◌, ◌-◌, ◌*◌, ◌/◌, ◌%◌, ◌<◌, ◌≤◌}
use mathlib.Core.Bool.{Bool, true, false, not}
use mathlib.Core.List.{List}
use mathlib.Core.Logic.{◌⊎◌, inl, inr}
use mathlib.Core.Path.{◌≡◌, refl, sym, ap, ◌∙◌}
use native.Mathlib.Omega.{arith}
use lib.Dec.{ltb, eqb}
use lib.ListN.{get_or}
use borrow.Author.Tests.{ltb-true, ltb-false, eqb-true, eqb-false, lt-ltb, le-ltb, eq-eqb, ne_eqb, not-true}
use Rattle.bounded.specs.Below.{count_below}
use Rattle.bounded.proofs.Below.{count-before}
use Rattle.bounded.proofs.Tests.{case_on}
use Rattle.bounded.proofs.Those.{length-those, those-at}
use Rattle.layout.specs.Layout.{head_word, page_word, record_word, line_word}
use Rattle.words.specs.Words.{word}
use Rattle.journal.specs.declared.Slot.{Slot}
use Rattle.journal.specs.Slots.{free_slot}
use Rattle.journal.specs.Records.{position, word_of_record}
use Rattle.masks.specs.Lines.{in_mask, count_lines, lines_in, lines_not_in}
use Rattle.masks.proofs.Counts.{count-lines-not, line-chosen, line-chosen-not}
use Rattle.state.specs.State.{State}
use Rattle.operations.specs.Operations.{slot_for, copy_count}
use Rattle.refinement.specs.Frames.{page_slot, committed_frame, other_frame}
use Rattle.refinement.specs.Consolidate.{is_few, copy_to, copy_from, copy_lines, copy_store_count, freeing_record, consolidate_at, consolidate_value}

-- ---- the lines copied, of slot t

-- the j-th of them is copied from its committed copy to its other one
pub record CopiedLine (t : Slot) (j l : ℕ) : Type 0 where
  pub low : l < 64
  pub to : other_frame t l ≡ copy_to t
  pub from : committed_frame t l ≡ copy_from t

abbrev pub line_of : Slot → ℕ → ℕ
line_of t j = get_or (copy_lines t) j 64

pub copied-line : (t : Slot) (j : ℕ) → j < copy_count t.bitmap → CopiedLine t j (line_of t j)
unfolding copy_count
copied-line t j h =
    case_on (is_few t)
    (λ f.
    let k : j < count_lines t.bitmap = rw f at h in
    let c = line-chosen t.bitmap j k in
    let i : in_mask t.bitmap (get_or (lines_in t.bitmap) j 64) ≡ true = c.passes in
    rw f (record { low = c.below; to = rw (i, f); from = rw (i, f) }))
    (λ f.
    let k : j < 64 - count_lines t.bitmap = rw f at h in
    let c = line-chosen-not t.bitmap j (omega (arith, count-lines-not t.bitmap)) in
    let i : in_mask t.bitmap (get_or (lines_not_in t.bitmap) j 64) ≡ false = not-true (in_mask t.bitmap (get_or (lines_not_in t.bitmap) j 64)) c.passes in
    rw f (record { low = c.below; to = rw (i, f); from = rw (i, f) }))

-- no line twice
pub copied-apart : (t : Slot) (i j : ℕ) → i < copy_count t.bitmap → j < copy_count t.bitmap → line_of t i ≡ line_of t j → i ≡ j
unfolding copy_count
copied-apart t i j h k e =
    let m : ℕ = t.bitmap in
    case_on (is_few t)
    (λ f.
    let e' : get_or (lines_in m) i 64 ≡ get_or (lines_in m) j 64 = rw f at e in
    sym (line-chosen m i (rw f at h)).before ∙ ap (λ (l : ℕ). count_below l (in_mask m)) e' ∙ (line-chosen m j (rw f at k)).before)
    (λ f.
    let n = count-lines-not m in
    let h' : i < 64 - count_lines m = rw f at h in
    let k' : j < 64 - count_lines m = rw f at k in
    let e' : get_or (lines_not_in m) i 64 ≡ get_or (lines_not_in m) j 64 = rw f at e in
    sym (line-chosen-not m i (omega arith)).before ∙ ap (λ (l : ℕ). count_below l (λ x. not (in_mask m x))) e' ∙ (line-chosen-not m j (omega arith)).before)

-- a line is copied, or its committed copy is where the lines go
pub line-goes : (t : Slot) (l : ℕ) → l < 64 → ((j : ℕ) × (j < copy_count t.bitmap) × (line_of t j ≡ l)) ⊎ (committed_frame t l ≡ copy_to t)
unfolding copy_count lines_in lines_not_in count_lines
line-goes t l h =
    let m : ℕ = t.bitmap in
    case_on (is_few t)
    (λ f.
    case_on (in_mask m l)
    (λ i. inl (count_below l (in_mask m), rw f (count-before (in_mask m) 64 l h i), rw f (those-at (in_mask m) 64 l 64 h i)))
    (λ i. inr (rw (i, f))))
    (λ f.
    case_on (in_mask m l)
    (λ i. inr (rw (i, f)))
    (λ i.
    let g : ℕ → Bool = λ x. not (in_mask m x) in
    let e : g l ≡ true = ap not i in
    let n : count_below l g < 64 - count_below 64 (in_mask m) = omega (arith, count-before g 64 l h e, length-those g 64, count-lines-not m) in
    inl (count_below l g, rw f n, rw f (those-at g 64 l 64 h e))))

-- ---- the stores, with c lines copied

-- the parts of a consolidation, before the store to head
pub data Part (t : Slot) (i : ℕ) : Type 0 where
  line : (j k : ℕ) → j < copy_count t.bitmap → k < 8 → i ≡ 8 * j + k → Part t i
  page : i ≡ copy_store_count t → Part t i
  freeing : (k : ℕ) → k < 4 → i ≡ copy_store_count t + 1 + k → Part t i

pub part_of : (t : Slot) (i : ℕ) → i < copy_store_count t + 5 → Part t i
part_of t i h =
    case_on (ltb i (copy_store_count t))
    (λ e. let l : i < copy_store_count t = ltb-true i (copy_store_count t) e in line (i / 8) (i % 8) (omega arith) (omega arith) (omega arith))
    (λ e.
    let l : copy_store_count t ≤ i = ltb-false i (copy_store_count t) e in
    case_on (eqb i (copy_store_count t))
    (λ f. page (eqb-true i (copy_store_count t) f))
    (λ f. let n : i ≡ copy_store_count t → ⊥ = eqb-false i (copy_store_count t) f in freeing (i - (copy_store_count t + 1)) (omega arith) (omega arith)))

module _ (st : State) (p : ℕ) where
  -- the record
  pub freeing-slot : (freeing_record st p 0).slot ≡ slot_for st p
  unfolding freeing_record
  freeing-slot = refl

  pub freeing-now : (freeing_record st p 0).now ≡ free_slot (copy_from (page_slot st p))
  unfolding freeing_record
  freeing-now = refl

  pub freeing-first : (freeing_record st p 0).first ≡ st.head
  unfolding freeing_record
  freeing-first = refl

  -- where the stores go
  pub at-line : (j k : ℕ) → j < copy_count (page_slot st p).bitmap → k < 8
      → consolidate_at st p (8 * j + k) ≡ line_word st.sizes (copy_to (page_slot st p)) (line_of (page_slot st p) j) + k
  unfolding consolidate_at
  at-line j k h l =
      let a : (8 * j + k) / 8 ≡ j = omega arith in
      let b : (8 * j + k) % 8 ≡ k = omega arith in
      rw (lt-ltb (8 * j + k) (copy_store_count (page_slot st p)) (omega arith), a, b)

  pub at-page : consolidate_at st p (copy_store_count (page_slot st p)) ≡ page_word p
  unfolding consolidate_at
  at-page =
      let c : ℕ = copy_store_count (page_slot st p) in
      rw (le-ltb c c (omega arith), eq-eqb c c refl)

  pub at-freeing : (k : ℕ) → k < 4 → consolidate_at st p (copy_store_count (page_slot st p) + 1 + k) ≡ record_word st.sizes st.head + k
  unfolding consolidate_at
  at-freeing k l =
      let c : ℕ = copy_store_count (page_slot st p) in
      let i : ℕ = c + 1 + k in
      let a : i - (c + 1) ≡ k = omega arith in
      rw (le-ltb i c (omega arith), ne_eqb i c (λ e. omega arith), lt-ltb i (c + 5) (omega arith), a)

  pub at_head : consolidate_at st p (copy_store_count (page_slot st p) + 5) ≡ head_word
  unfolding consolidate_at
  at_head =
      let c : ℕ = copy_store_count (page_slot st p) in
      rw (le-ltb (c + 5) c (omega arith), ne_eqb (c + 5) c (λ e. omega arith), le-ltb (c + 5) (c + 5) (omega arith))

  -- and their values
  module _ (img : List ℕ) where
    pub value_line : (j k : ℕ) → j < copy_count (page_slot st p).bitmap → k < 8
        → consolidate_value st img p (8 * j + k) ≡ word img (line_word st.sizes (copy_from (page_slot st p)) (line_of (page_slot st p) j) + k)
    unfolding consolidate_value
    value_line j k h l =
        let a : (8 * j + k) / 8 ≡ j = omega arith in
        let b : (8 * j + k) % 8 ≡ k = omega arith in
        rw (lt-ltb (8 * j + k) (copy_store_count (page_slot st p)) (omega arith), a, b)

    pub value-page : consolidate_value st img p (copy_store_count (page_slot st p)) ≡ copy_to (page_slot st p)
    unfolding consolidate_value
    value-page =
        let c : ℕ = copy_store_count (page_slot st p) in
        rw (le-ltb c c (omega arith), eq-eqb c c refl)

    pub value-freeing : (k : ℕ) → k < 4 → consolidate_value st img p (copy_store_count (page_slot st p) + 1 + k) ≡ word_of_record (freeing_record st p 0) k
    unfolding consolidate_value
    value-freeing k l =
        let c : ℕ = copy_store_count (page_slot st p) in
        let i : ℕ = c + 1 + k in
        let a : i - (c + 1) ≡ k = omega arith in
        rw (le-ltb i c (omega arith), ne_eqb i c (λ e. omega arith), lt-ltb i (c + 5) (omega arith), a)

    pub value-head : consolidate_value st img p (copy_store_count (page_slot st p) + 5) ≡ position st.sizes st.head 1
    unfolding consolidate_value
    value-head =
        let c : ℕ = copy_store_count (page_slot st p) in
        rw (le-ltb (c + 5) c (omega arith), ne_eqb (c + 5) c (λ e. omega arith), le-ltb (c + 5) (c + 5) (omega arith))
