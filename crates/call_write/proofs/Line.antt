-- A narrow writer's write started: one piece holds all of its stores. p is the write, z and at are what the code read.
use Prim.Native.Nat.{ℕ, ◌+◌, ◌*◌, ◌<◌, ◌≤◌}
use mathlib.Core.Bool.{true}
use mathlib.Core.List.{List}
use mathlib.Core.Path.{◌≡◌, refl, sym, ap, ap₂, ◌∙◌}
use native.Mathlib.Omega.{arith}
use lib.ListN.{length}
use borrow.Author.Tests.{eq-eqb, ne_eqb}
use Rattle.bounded.proofs.Below.{up_none}
use Rattle.layout.specs.declared.Sizes.{Sizes}
use Rattle.layout.specs.Layout.{Legal, line_word, image_length}
use Rattle.replay.specs.Table.{slots_shaped}
use Rattle.state.specs.State.{State}
use Rattle.state.specs.declared.Places.{Places}
use Rattle.state.specs.declared.Pending.{Pending}
use Rattle.state.specs.declared.Op.{Op}
use Rattle.state.specs.declared.Op.TheVariants.{Write}
use Rattle.operations.specs.Operations.{needs}
use Rattle.operations.proofs.Taken.{ArgsGood, write-taken}
use Rattle.refinement.specs.Write.{write_slot, frame_to_write, write_done}
use Rattle.refinement.specs.Stores.{store_at, store_value, stores_made, state_after, with_made}
use Rattle.refinement.proofs.Going.{ranges-of, shapes-of}
use Rattle.op_pieces.specs.declared.Piece.{Piece}
use Rattle.op_pieces.specs.Pieces.{Next, line_piece, piece_stores}
use Rattle.op_pieces.proofs.PieceLaws.{next-as}
use Rattle.op_pieces.proofs.Turns.{piece-turn}
use Rattle.op_writer.specs.Due.{Due}
use Rattle.op_writer.proofs.Wider.{wider}
use Rattle.op_write.proofs.Held.{write-next}
use Rattle.state_pending.specs.Put.{with_pending as put}
use Rattle.op_stores.specs.declared.Until.{Until}
use Rattle.op_stores.specs.declared.Until.TheVariants.{Asked, Fence, End}
use Rattle.op_stores.specs.Asks.{Asks}
use Rattle.op_stores.specs.Started.{fence_in, budget_in, budget}
use Rattle.op_stores.proofs.Starting.{put-left, put-needs}

module _ (z : Sizes) (at : Places) (st : State) (img : List ℕ) (p : Pending) (h : Asks z at st img p) (w q l o n : ℕ) (e : p.op ≡ Write w q l o n) where
  pub good : ArgsGood st.sizes w q l o n
  good = (write-taken st w q l o n (rw e at h.rows)).args

  -- what its piece leans on
  pub leans : Legal z × (at.next < z.slots) × (slots_shaped z st.table ≡ true)
  leans = let r = ranges-of st h.ok in rw (h.sizes, h.places) (r.legal, r.next_low, shapes-of st h.ok)

  eight : needs st p.op ≡ 8
  unfolding needs
  eight = rw e

  pub counted : ◌≡◌ {A = ℕ} 8 (needs st p.op)
  counted = sym eight

  -- all of its stores or none
  pub whole : (u : Until) → (budget_in u p.op 0 8 ≡ 0 → ⊥) → budget_in u p.op 0 8 ≡ 8
  whole Asked f = absurd (f refl)
  whole Fence f = ap (λ (x : Op). fence_in x 0 8) e
  whole End f = refl

  budget-is : (u : Until) → budget u (put st p) ≡ budget_in u p.op 0 8
  budget-is u = ap₂ (λ (m k : ℕ). budget_in u p.op m k) h.none_made (put-left z at st img p h ∙ eight)

  -- the piece that holds them is due
  module _ (piece : Piece) (ep : piece ≡ line_piece (line_word z (frame_to_write z st.table at.next q l) l) p.line 0) (inside : 8 * (piece.at + 8) ≤ image_length z) where
    next : Next (λ m. store_at (put st p) p.op) (λ m. store_value (put st p) m p.op) (p.made + 0) (length img) img piece
    next =
        let k : (d : ℕ) → p.made + 0 + d ≡ 0 + d = λ d. omega (arith, h.none_made) in
        wider _ _ _ _ _ _ _
        (next-as _ _ (λ m. store_at (put st p) p.op) (λ m. store_value (put st p) m p.op) 0 (p.made + 0) (image_length z) img piece
        (write-next (put st p) q l 0 img z at.next p.line piece h.sizes (ap (λ (a : Places). a.next) h.places) refl (omega arith) ep inside)
        (λ d m. rw (k d, e)) (λ d m. rw (k d, e)))
        h.long

    pub line-due : Due (put st p) img piece 8
    line-due =
        record {
          i = 0;
          start = img;
          landed = up_none _ _;
          next = next;
          inside = rw ep (omega arith);
          within = omega (arith, h.none_made, put-needs z at st img p h, eight);
        }

    pub line_made : (u : Until) (bs : List ℕ) → budget_in u p.op 0 8 ≡ 8 → bs ≡ piece_stores piece 8 img → bs ≡ stores_made (put st p) (budget u (put st p)) img
    line_made u bs k b =
        rw (budget-is u, k)
        (piece-turn (λ m. store_at (put st p) p.op) (λ m. store_value (put st p) m p.op) p.made 0 8 (length img) piece img img bs (up_none _ _) next (rw ep (omega arith)) b)

  pub line-done : (u : Until) (after : State) → budget_in u p.op 0 8 ≡ 8 → after ≡ write_done (put st p) w q l → after ≡ state_after (put st p) (budget u (put st p))
  unfolding write_slot
  line-done u after k a =
      let last : p.made + 8 ≡ needs (put st p) p.op = omega (arith, h.none_made, put-needs z at st img p h, eight) in
      rw (budget-is u, k, eq-eqb (p.made + 8) (needs (put st p) p.op) last, e) a

  -- none is made
  pub none_made : (u : Until) → budget_in u p.op 0 8 ≡ 0 → (img ≡ stores_made (put st p) (budget u (put st p)) img) × (put st p ≡ state_after (put st p) (budget u (put st p)))
  none_made u k =
      let zero : p.made + 0 ≡ p.made = omega arith in
      let more : p.made + 0 ≡ needs (put st p) p.op → ⊥ = λ x. omega (arith, x, h.none_made, put-needs z at st img p h, eight) in
      (rw (budget-is u, k) (up_none _ _), rw (budget-is u, k, ne_eqb (p.made + 0) (needs (put st p) p.op) more) (ap (with_made (put st p)) (sym zero)))
