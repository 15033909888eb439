-- The slot that the code found, and the piece of a checkpoint that store i lies in: s, a and b are what the code found.
use Prim.Native.Nat.{ℕ, ◌+◌, ◌*◌, ◌/◌, ◌%◌, ◌<◌, ◌≤◌}
use mathlib.Core.Bool.{Bool, true, false, not}
use mathlib.Core.List.{List}
use mathlib.Core.Path.{◌≡◌, sym, ap, ◌∙◌}
use native.Mathlib.Omega.{arith}
use lib.Dec.{ltb, eqb}
use lib.ListN.{length, get_or, drop, length-drop}
use lib.Seq.{length-take-le}
use borrow.Author.Tests.{lt-ltb, le-ltb, ltb-true, ltb-false}
use Rattle.bounded.specs.Below.{those, count_below}
use Rattle.bounded.proofs.Those.{those-at, those-past, chosen, length-those}
use Rattle.bounded.proofs.Below.{ends}
use Rattle.bounded.proofs.Tests.{case_on}
use Rattle.layout.specs.declared.Sizes.{Sizes}
use Rattle.layout.specs.Layout.{Legal, tail_word, slot_word, record_word, image_length}
use Rattle.replay.specs.Table.{no_position}
use Rattle.state.specs.State.{State}
use Rattle.state.specs.declared.Op.TheVariants.{Checkpoint}
use Rattle.operations.specs.Operations.{recorded_slots}
use Rattle.refinement.specs.Checkpoint.{checkpoint_at_of, checkpoint_value_of}
use Rattle.refinement.specs.Stores.{store_at, store_value}
use Rattle.refinement.proofs.CheckpointPlaces.{default_none}
use Rattle.op_pieces.specs.declared.Piece.{Piece}
use Rattle.op_pieces.specs.Pieces.{Next, one_piece, slot_piece}
use Rattle.op_pieces.proofs.PieceLaws.{one-next, slot_next}
use Rattle.state_words.specs.Decoded.{start, size, part, decoded}

-- ---- the k-th number below n that passes a test, or n where there are fewer

module _ (f : ℕ → Bool) (n k i left : ℕ) (passed : count_below i f + left ≡ k) where
  pub found : i < n → f i ≡ true → left ≡ 0 → i ≡ get_or (those n f) k n
  found l t z =
      let e : count_below i f ≡ k = omega arith in
      sym (those-at f n i n l t) ∙ ap (λ (j : ℕ). get_or (those n f) j n) e

  pub ended : i ≤ n → n ≤ i → n ≡ get_or (those n f) k n
  ended a b = sym (those-past f n k n (omega (arith, ends (λ j. count_below j f) n i a b)))

module _ (z : Sizes) (last : List ℕ) (j s : ℕ) (e : s ≡ get_or (recorded_slots z last) j z.slots) where
  abbrev recorded : ℕ → Bool
  recorded k = not (eqb (get_or last k 0) no_position)

  -- it is a slot exactly where there are more than j
  pub recorded-is : s < z.slots → j < length (recorded_slots z last)
  unfolding recorded_slots
  recorded-is l =
      case_on (ltb j (length (recorded_slots z last)))
      (λ t. ltb-true j (length (recorded_slots z last)) t)
      (λ t.
      let many = length (recorded_slots z last) in
      let m : many ≤ j = ltb-false j many t in
      let q : s ≡ z.slots = e ∙ those-past recorded z.slots j z.slots (omega (arith, m, length-those recorded z.slots)) in
      absurd (omega (arith, q, l)))

  pub recorded-past : z.slots ≤ s → length (recorded_slots z last) ≤ j
  unfolding recorded_slots
  recorded-past l =
      case_on (ltb j (length (recorded_slots z last)))
      (λ t.
      let m : j < length (recorded_slots z last) = ltb-true j (length (recorded_slots z last)) t in
      let b = (chosen recorded z.slots j z.slots (omega (arith, m, length-those recorded z.slots))).below in
      absurd (omega (arith, e, b, l)))
      (λ t. ltb-false j (length (recorded_slots z last)) t)

-- there are 16 last positions
pub lasts-long : (c : List ℕ) → length c ≡ 1280 → length (decoded c).table.last ≡ 16
unfolding decoded part start size
lasts-long c n =
    let more : 16 ≤ length (drop 104 c) = omega (arith, length-drop 104 c) in
    length-take-le 16 (drop 104 c) more

-- ---- the pieces

module _ (z : Sizes) (st : State) (sizes : z ≡ st.sizes) (i s : ℕ) (img : List ℕ) (p : Piece) (e : s ≡ get_or (recorded_slots z st.table.last) (i / 3) z.slots) where
  abbrev IsNext : Type 0
  IsNext = Next (λ m. store_at st Checkpoint) (λ m. store_value st m Checkpoint) i (image_length z) img p

  pub slot-piece : (a b : ℕ) → Legal z → image_length z ≤ length img → s < z.slots
      → a ≡ record_word z (get_or st.table.last s no_position) + 1 → b ≡ slot_word z s → p ≡ slot_piece b img a (i % 3) → IsNext
  unfolding checkpoint_at_of checkpoint_value_of
  slot-piece a b h whole low f g q =
      let last : List ℕ = st.table.last in
      let some = recorded-is z last (i / 3) s e low in
      let x = 3 * length (recorded_slots z last) in
      let it : s ≡ get_or (recorded_slots z last) (i / 3) 0 = e ∙ default_none (recorded_slots z last) (i / 3) z.slots 0 some in
      let below : (d : ℕ) → i % 3 + d < 3 → ltb (i + d) x ≡ true = λ d k. lt-ltb (i + d) x (omega (arith, k, some)) in
      let quot : (d : ℕ) → i % 3 + d < 3 → (i + d) / 3 ≡ i / 3 = λ d k. omega (arith, k) in
      let rest : (d : ℕ) → i % 3 + d < 3 → (i + d) % 3 ≡ i % 3 + d = λ d k. omega (arith, k) in
      rw (q, ← sizes)
      (slot_next _ _ i (image_length z) img b a (i % 3) whole (omega arith) (omega (arith, g)) (λ d k u v w. omega (arith, f, g, u, v, w))
      (λ d m k. rw (below d k, quot d k, rest d k, g, it))
      (λ d m k. rw (below d k, quot d k, rest d k, f, it)))

  pub tail-piece : (head : ℕ) → head ≡ st.head → z.slots ≤ s → p ≡ one_piece tail_word head → IsNext
  unfolding checkpoint_at_of checkpoint_value_of
  tail-piece head eh l q =
      let x = 3 * length (recorded_slots z st.table.last) in
      let past : ltb i x ≡ false = le-ltb i x (omega (arith, recorded-past z st.table.last (i / 3) s e l)) in
      rw (q, ← sizes) (one-next _ _ i (image_length z) img tail_word head (omega arith) (rw past) (rw (past, eh)))
