-- The piece of a commit that store i lies in: e and a are its record and that record's first word, c the count of slots, as the code found them.
use Prim.Native.Nat.{ℕ, ◌+◌, ◌*◌, ◌/◌, ◌%◌, ◌<◌, ◌≤◌}
use mathlib.Core.Bool.{true, false}
use mathlib.Core.List.{List}
use mathlib.Core.Path.{◌≡◌}
use native.Mathlib.Omega.{arith}
use lib.Dec.{ltb}
use lib.ListN.{length}
use borrow.Author.Tests.{lt-ltb, le-ltb}
use Rattle.layout.specs.declared.Sizes.{Sizes}
use Rattle.layout.specs.Layout.{Legal, head_word, record_word, image_length}
use Rattle.layout.proofs.LayoutLaws.{record-end}
use Rattle.journal.specs.declared.Record.{Record}
use Rattle.journal.specs.Records.{position}
use Rattle.replay.specs.declared.Table.{Table}
use Rattle.state.specs.Held.{held_slots}
use Rattle.refinement.specs.Commit.{commit_record_of, commit_at_of, commit_value_of}
use Rattle.op_pieces.specs.declared.Piece.{Piece}
use Rattle.op_pieces.specs.Pieces.{Next, one_piece, record_piece}
use Rattle.op_pieces.proofs.PieceLaws.{one-next, record-next}

module _ (z : Sizes) (head : ℕ) (t : Table) (held : List ℕ) (w i c : ℕ) (counted : c ≡ length (held_slots z held w)) (img : List ℕ) where
  pub record-piece : (a : ℕ) (e : Record) (p : Piece) → Legal z → i < 4 * c → e ≡ commit_record_of z head t held w (i / 4) → a ≡ record_word z (position z head (i / 4))
      → p ≡ record_piece a e (i % 4) → Next (λ m. commit_at_of z head held w) (λ m. commit_value_of z head t held w) i (image_length z) img p
  unfolding commit_at_of commit_value_of
  record-piece a e p h l f g q =
      let below : (d : ℕ) → i % 4 + d < 4 → ltb (i + d) (4 * length (held_slots z held w)) ≡ true = λ d k. lt-ltb (i + d) (4 * length (held_slots z held w)) (omega (arith, k)) in
      let quot : (d : ℕ) → i % 4 + d < 4 → (i + d) / 4 ≡ i / 4 = λ d k. omega (arith, k) in
      let rest : (d : ℕ) → i % 4 + d < 4 → (i + d) % 4 ≡ i % 4 + d = λ d k. omega (arith, k) in
      rw q
      (record-next _ _ i (image_length z) img a e (i % 4) (omega arith) (omega (arith, g, record-end z h (position z head (i / 4))))
      (λ d m k. rw (below d k, quot d k, rest d k, g))
      (λ d m k. rw (below d k, quot d k, rest d k, f)))

  pub head-piece : (q : ℕ) (p : Piece) → 4 * c ≤ i → q ≡ position z head c → p ≡ one_piece head_word q
      → Next (λ m. commit_at_of z head held w) (λ m. commit_value_of z head t held w) i (image_length z) img p
  unfolding commit_at_of commit_value_of
  head-piece q p l g f =
      let past : ltb i (4 * length (held_slots z held w)) ≡ false = le-ltb i (4 * length (held_slots z held w)) (omega arith) in
      rw f (one-next _ _ i (image_length z) img head_word q (omega arith) (rw past) (rw (past, g, counted)))
