use Prim.Native.Nat.{ℕ, ◌+◌, ◌<◌}
use mathlib.Core.List.{List}
use mathlib.Core.Path.{◌≡◌, refl, ap, ◌∙◌}
use native.Mathlib.Omega.{arith}
use Rattle.state.specs.State.{State}
use Rattle.operations.specs.Operations.{needs as needs_of}
use Rattle.refinement.specs.Stores.{store_at, store_value}
use Rattle.op_pieces.specs.declared.Piece.{Piece}
use Rattle.op_pieces.specs.Pieces.{Next}
use Rattle.state_words.specs.Decoded.{decoded}
use Rattle.op_stores.proofs.Leaning.{made-low, first-place, pending-here}
use Rattle.op_stores.proofs.telling.look_ahead.Lts
use Rattle.op_stores.proofs.telling.look_ahead.Tie
use Rattle.op_stores.proofs.telling.look_ahead.Reads
use Rattle.op_stores.proofs.telling.look_ahead.Goals as goal

abbrev At-Start : Type 0
At-Start = Lts.Start Tie.the-claims Reads.Pre Reads.Post Tie.handed_clauses

abbrev st : At-Start → State
st s = decoded s.args.words.now

-- the words of a piece lie side by side
beside : (st : State) (bound : ℕ) (img : List ℕ) (p : Piece)
    → Next (λ m. store_at st st.pending.op) (λ m. store_value st m st.pending.op) st.pending.made bound img p
    → (d : ℕ) → p.from + d < p.count
    → store_at st st.pending.op (st.pending.made + d) ≡ store_at st st.pending.op st.pending.made + d
beside st bound img p n d l =
    let first = first-place st st.pending.op st.pending.made bound img p refl refl n in
    let e : p.at + (p.from + d) ≡ p.at + p.from + d = omega arith in
    n.place d l ∙ e ∙ ap (λ (a : ℕ). a + d) first

pub next_piece-p-requires : goal.next_piece-p-requires
next_piece-p-requires c =
    let low = made-low c.args.z c.args.at (st c.before.before.before.before) c.requires.0 in
    let all : needs_of (st c.before.before.before.before) c.op_in-op.result ≡ needs_of (st c.before.before.before.before) (st c.before.before.before.before).pending.op = ap (needs_of (st c.before.before.before.before)) c.op_in-op.ensures in
    (c.requires.0, c.op_in-op.ensures, omega (arith, c.made_in-made.ensures, all, low), c.requires.1)

pub left_in-left-requires : goal.left_in-left-requires
left_in-left-requires c = c.requires.0

pub before_fence-before-requires : goal.before_fence-before-requires
before_fence-before-requires c =
    omega (arith, c.left_in-left.ensures, made-low c.args.z c.args.at (st c.before.before.before.before.before.before) c.requires.0)

pub overflow_sub-p : goal.overflow_sub-p
overflow_sub-p c = let h = c.next_piece-p.ensures in omega (arith, h.some)

pub returns : goal.returns
returns c =
    let place = first-place (st c.before.before.before.before.before.before.before.before.before.before) _ _ _ c.args.image.now _ c.op_in-op.ensures c.made_in-made.ensures c.next_piece-p.ensures in
    let h = pending-here (st c.before.before.before.before.before.before.before.before.before.before) _ _ _ c.args.image.now _ c.op_in-op.ensures c.made_in-made.ensures c.next_piece-p.ensures in
    let low = made-low c.args.z c.args.at (st c.before.before.before.before.before.before.before.before.before.before) c.requires.0 in
    record {
      at = place;
      beside = record {
        some = omega (arith, c.smaller-beside.ensures, c.left_in-left.ensures, h.some, low);
        few = omega (arith, c.smaller-beside.ensures, c.left_in-left.ensures);
        places = λ d l. beside (st c.before.before.before.before.before.before.before.before.before.before) _ c.args.image.now _ h d (omega (arith, c.smaller-beside.ensures, l, h.some));
      };
      before = c.before_fence-before.ensures ∙ rw (c.op_in-op.ensures, c.made_in-made.ensures, c.left_in-left.ensures);
      left = c.left_in-left.ensures;
    }
