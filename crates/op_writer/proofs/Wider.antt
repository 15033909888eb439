-- A piece inside the bytes that an image needs is inside the image.
use Prim.Native.Nat.{ℕ, ◌≤◌}
use mathlib.Core.List.{List}
use native.Mathlib.Omega.{arith}
use Rattle.op_pieces.specs.declared.Piece.{Piece}
use Rattle.op_pieces.specs.Pieces.{Next}

pub wider : (at value : List ℕ → ℕ → ℕ) (i bound more : ℕ) (img : List ℕ) (p : Piece) → Next at value i bound img p → bound ≤ more → Next at value i more img p
wider at value i bound more img p h l = record { some = h.some; most = h.most; inside = omega (arith, h.inside, l); place = h.place; bytes = h.bytes }
