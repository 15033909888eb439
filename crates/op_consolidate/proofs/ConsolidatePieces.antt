-- The piece of a consolidation that store i lies in, and the state after its last store. The other numbers and lists are what the code found or put.
use Prim.Native.Nat.{ℕ, ◌+◌, ◌-◌, ◌*◌, ◌/◌, ◌%◌, ◌<◌, ◌≤◌}
use mathlib.Core.Bool.{true, false}
use mathlib.Core.List.{List}
use mathlib.Core.Path.{◌≡◌, sym, ap, ◌∙◌}
use native.Mathlib.Omega.{arith}
use lib.Dec.{ltb, leb, eqb}
use lib.ListN.{length, get_or, set}
use borrow.Author.Tests.{lt-ltb, le-ltb, eq-eqb, ne_eqb}
use Rattle.bounded.proofs.Tests.{case_on}
use Rattle.masks.specs.Lines.{count_lines}
use Rattle.words.specs.Words.{part, words_at}
use Rattle.layout.specs.declared.Sizes.{Sizes}
use Rattle.layout.specs.Layout.{Legal, frames, head_word, page_word, record_word, line_word, image_length}
use Rattle.layout.proofs.LayoutLaws.{record-end, line-apart}
use Rattle.image.proofs.LineLaws.{frame-line}
use Rattle.journal.specs.declared.Slot.{Slot}
use Rattle.journal.specs.declared.Record.{Record}
use Rattle.journal.specs.Records.{position}
use Rattle.journal.specs.Slots.{free_slot}
use Rattle.journal.proofs.SlotWords.{Owning}
use Rattle.replay.specs.declared.Table.{Table}
use Rattle.replay.specs.Table.{slot_in, with_slot, with_last}
use Rattle.state.specs.State.{State}
use Rattle.state.specs.declared.Op.TheVariants.{Consolidate}
use Rattle.operations.specs.Operations.{Ranged, slot_for, copy_count}
use Rattle.refinement.specs.Consolidate.{copy_to, copy_from, copy_lines, copy_store_count, freeing_record, consolidation_at, consolidation_value, consolidate_at, consolidate_value, consolidate_map}
use Rattle.refinement.specs.Stores.{store_at, store_value, completed}
use Rattle.refinement.specs.Settled.{settled, with_map as put_map}
use Rattle.refinement.proofs.ConsolidatePlaces.{copy_line, consolidate-table}
use Rattle.op_pieces.specs.declared.Piece.{Piece}
use Rattle.op_pieces.specs.Pieces.{Next, one_piece, record_piece, line_piece, copy_piece}
use Rattle.op_pieces.proofs.PieceLaws.{one-next, record-next, copy-next}
use Rattle.state_words.specs.Decoded.{with_table, with_head, with_nothing, with_map}

-- the lines go to another frame than they come from
pub copy_apart : (z : Sizes) (t : Slot) → Owning z t → copy_to t ≡ copy_from t → ⊥
copy_apart z t o e =
    case_on (leb (count_lines t.bitmap) 32)
    (λ f. o.apart (rw f at e))
    (λ f. o.apart (sym (rw f at e)))

-- ---- the piece that store i lies in; c lines are copied, and r is the piece, as the code found them

module _ (z : Sizes) (head : ℕ) (t : Slot) (e : Record) (p i c : ℕ) (counted : c ≡ copy_count t.bitmap) (img : List ℕ) (r : Piece) where
  abbrev IsNext : Type 0
  IsNext = Next (λ m. consolidation_at z head t p) (λ m. consolidation_value z head t e m) i (image_length z) img r

  pub line-piece : (l a b : ℕ) (f : ℕ) (frame : List ℕ) → image_length z ≤ length img → i < 8 * c → copy_from t < frames z → copy_to t < frames z → (copy_to t ≡ copy_from t → ⊥)
      → l ≡ get_or (copy_lines t) (i / 8) 64 → a ≡ copy_to t → b ≡ line_word z a l → f ≡ copy_from t → frame ≡ part img (8 * line_word z f 0) 4096
      → r ≡ copy_piece b frame (64 * l) (i % 8) → IsNext
  line-piece l a b f frame whole h from_low to_low apart m ea eb ef cut q =
      let low : l < 64 = rw m (copy_line t (i / 8) (omega arith)) in
      let F = copy_from t in
      let g : frame ≡ part img (8 * line_word z F 0) 4096 = rw ef at cut in
      let q2 : r ≡ copy_piece b img (8 * line_word z F l) (i % 8) = q ∙ ap (λ (u : List ℕ). line_piece b (words_at u 0 8) (i % 8)) (frame-line img z F from_low whole g l low) in
      let to : b ≡ line_word z (copy_to t) l = eb ∙ ap (λ (x : ℕ). line_word z x l) ea in
      let below : (d : ℕ) → i % 8 + d < 8 → ltb (i + d) (copy_store_count t) ≡ true = λ d k. lt-ltb (i + d) (copy_store_count t) (omega (arith, k)) in
      let quot : (d : ℕ) → i % 8 + d < 8 → (i + d) / 8 ≡ i / 8 = λ d k. omega (arith, k) in
      let rest : (d : ℕ) → i % 8 + d < 8 → (i + d) % 8 ≡ i % 8 + d = λ d k. omega (arith, k) in
      rw q2
      (copy-next _ _ i (image_length z) img b (line_word z F l) (i % 8) whole (omega arith) (omega (arith, to)) (omega arith)
      (λ d k u v w. apart (line-apart z (copy_to t) l d F l k low low u v (sym (ap (λ (x : ℕ). x + d) to) ∙ w)).0)
      (λ d k. rw (below d k, quot d k, rest d k, to, m))
      (λ d u k. rw (below d k, quot d k, rest d k, m)))

  pub page-piece : (a b : ℕ) → p < z.pages → i ≡ 8 * c → a ≡ copy_to t → b ≡ page_word p → r ≡ one_piece b a → IsNext
  page-piece a b low h ea eb q =
      let x = copy_store_count t in
      let y = le-ltb i x (omega arith) in
      let w = eq-eqb i x (omega arith) in
      rw q (one-next _ _ i (image_length z) img b a (omega (arith, eb)) (rw (y, w, eb)) (rw (y, w, ea)))

  pub record-piece : (b : ℕ) → Legal z → 8 * c < i → i < 8 * c + 5 → b ≡ record_word z head → r ≡ record_piece b e (i - (8 * c + 1)) → IsNext
  record-piece b h l m eb q =
      let x = copy_store_count t in
      let k = i - (8 * c + 1) in
      let y : (d : ℕ) → k + d < 4 → ltb (i + d) x ≡ false = λ d n. le-ltb (i + d) x (omega (arith, n)) in
      let w : (d : ℕ) → k + d < 4 → eqb (i + d) x ≡ false = λ d n. ne_eqb (i + d) x (λ o. omega (arith, n, o)) in
      let v : (d : ℕ) → k + d < 4 → ltb (i + d) (x + 5) ≡ true = λ d n. lt-ltb (i + d) (x + 5) (omega (arith, n)) in
      let u : (d : ℕ) → k + d < 4 → i + d - (x + 1) ≡ k + d = λ d n. omega (arith, n) in
      rw q
      (record-next _ _ i (image_length z) img b e k (omega arith) (omega (arith, eb, record-end z h head))
      (λ d o n. rw (y d n, w d n, v d n, u d n, eb))
      (λ d o n. rw (y d n, w d n, v d n, u d n)))

  pub head-piece : (a : ℕ) → 8 * c + 5 ≤ i → a ≡ position z head 1 → r ≡ one_piece head_word a → IsNext
  head-piece a h ea q =
      let x = copy_store_count t in
      let y = le-ltb i x (omega arith) in
      let w = ne_eqb i x (λ o. omega (arith, o)) in
      let v = le-ltb i (x + 5) (omega arith) in
      rw q (one-next _ _ i (image_length z) img head_word a (omega arith) (rw (y, w, v)) (rw (y, w, v, ea)))

-- ---- the slot and the record of a page

module _ (z : Sizes) (head : ℕ) (st : State) (p s : ℕ) (u : Slot) (e : Record) (sizes : z ≡ st.sizes) (at : head ≡ st.head) (a : s ≡ slot_for st p) (b : u ≡ slot_in st.table s)
    (c : e ≡ record { first = head; slot = s; now = free_slot (copy_from u) }) where
  pub freeing-made : e ≡ freeing_record st p 0
  unfolding freeing_record
  freeing-made = rw (b, a, at) at c

  pub slot-made : (i bound : ℕ) (img : List ℕ) (r : Piece) → Next (λ m. consolidation_at z head u p) (λ m. consolidation_value z head u e m) i bound img r
      → Next (λ m. store_at st (Consolidate p)) (λ m. store_value st m (Consolidate p)) i bound img r
  unfolding consolidate_at consolidate_value
  slot-made i bound img r q = rw (freeing-made, b, a, sizes, at) at q

-- ---- the state after the last store: five changes one after the other

-- the state with another head, map and table, and nothing pending
abbrev done_with : State → ℕ → List ℕ → Table → State
done_with st head m u = put_map (settled st head st.tail st.next u st.writers) m

pub consolidated : (st s0 s1 s2 s3 s4 : State) (z : Sizes) (head p s g f q : ℕ) (t v : Slot) → Ranged st → z ≡ st.sizes → head ≡ st.head → s ≡ slot_for st p → t ≡ slot_in st.table s
    → g ≡ copy_to t → s0 ≡ with_map st (set st.map p g) → f ≡ copy_from t → v ≡ free_slot f → s1 ≡ with_table s0 (with_slot s0.table s v) → s2 ≡ with_table s1 (with_last s1.table s head)
    → q ≡ position z head 1 → s3 ≡ with_head s2 q → s4 ≡ with_nothing s3 → s4 ≡ completed st (Consolidate p)
unfolding freeing_record
consolidated st s0 s1 s2 s3 s4 z head p s g f q t v h ez eh es et eg e0 ef ev e1 e2 eq e3 e4 =
    e4 ∙ ap with_nothing (e3 ∙ ap (λ (u : State). with_head u q) (e2 ∙ ap (λ (u : State). with_table u (with_last u.table s head)) (e1 ∙ ap (λ (u : State). with_table u (with_slot u.table s v)) e0)))
    ∙ rw (eq, ev, ef, eg, et, es, eh, ez) (ap (λ (u : Table). done_with st (position st.sizes st.head 1) (consolidate_map st p) u) (consolidate-table st p h))
