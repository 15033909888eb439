-- When a piece may be stored: it is the turn of the operation that is pending.
use Rattle.std.specs.Prelude.{ℕ, ◌+◌, ◌≤◌, List, ◌≡◌, length}
use Rattle.state.specs.State.{State}
use Rattle.operations.specs.Operations.{needs}
use Rattle.refinement.specs.Stores.{store_at, store_value, stores_made}
use Rattle.op_pieces.specs.declared.Piece.{Piece}
use Rattle.op_pieces.specs.Pieces.{Next}

-- i stores of the pending operation, after those made before, have been made on some image and gave this one; n words of the piece are the next of its stores
pub record Due (st : State) (img : List ℕ) (p : Piece) (n : ℕ) : Type 0 where
  pub i : ℕ
  pub start : List ℕ
  pub landed : img ≡ stores_made st i start
  pub next : Next (λ m. store_at st st.pending.op) (λ m. store_value st m st.pending.op) (st.pending.made + i) (length img) img p
  pub inside : p.from + n ≤ p.count
  pub within : st.pending.made + (i + n) ≤ needs st st.pending.op
