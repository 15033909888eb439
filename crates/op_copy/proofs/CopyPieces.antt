-- The piece of a wide commit that store i lies in: f, b and a are the frame, the line's first word and the entry's, as the code found them.
use Prim.Native.Nat.{ℕ, ◌+◌, ◌-◌, ◌*◌, ◌/◌, ◌%◌, ◌<◌, ◌≤◌}
use mathlib.Core.Bool.{false}
use mathlib.Core.List.{List}
use mathlib.Core.Path.{◌≡◌}
use native.Mathlib.Omega.{arith}
use lib.Dec.{ltb, eqb}
use lib.ListN.{length, get_or}
use borrow.Author.Tests.{eq-eqb, ne_eqb, lt-ltb, le-ltb}
use Rattle.layout.specs.declared.Sizes.{Sizes}
use Rattle.layout.specs.Layout.{frames, line_word, entry_word, count_word, image_length}
use Rattle.entries.specs.Entries.{key_line}
use Rattle.replay.specs.declared.Table.{Table}
use Rattle.refinement.specs.Wide.{copied_frame, copy_at_of, copy_value_of}
use Rattle.op_pieces.specs.declared.Piece.{Piece}
use Rattle.op_pieces.specs.Pieces.{Next, one_piece, copy_piece}
use Rattle.op_pieces.proofs.PieceLaws.{one-next, copy-next}

module _ (h : ℕ → ℕ) (z : Sizes) (t : Table) (count : ℕ) (keys img : List ℕ) (i : ℕ) (r : Piece) where
  abbrev Copies : Type 0
  Copies = Next (λ m. copy_at_of h z t count keys) (copy_value_of z count) i (image_length z) img r

  pub count-piece : i ≡ 0 → r ≡ one_piece count_word count → Copies
  unfolding copy_at_of copy_value_of
  count-piece e q = rw q (one-next _ _ i (image_length z) img count_word count (omega arith) (rw (eq-eqb i 0 e)) (rw (eq-eqb i 0 e)))

  module _ (some : i ≡ 0 → ⊥) where
    pub none-piece : 8 * count < i → r ≡ one_piece count_word 0 → Copies
    unfolding copy_at_of copy_value_of
    none-piece l q =
        let x = ne_eqb i 0 some in
        let y = lt-ltb (8 * count) i l in
        rw q (one-next _ _ i (image_length z) img count_word 0 (omega arith) (rw (x, y)) (rw (x, y)))

    pub copied-piece : (f b a : ℕ) → i ≤ 8 * count → count ≤ z.entries → copied_frame h z t (get_or keys ((i - 1) / 8) 0) < frames z → image_length z ≤ length img
        → f ≡ copied_frame h z t (get_or keys ((i - 1) / 8) 0) → b ≡ line_word z f (key_line (get_or keys ((i - 1) / 8) 0)) → a ≡ entry_word z ((i - 1) / 8)
        → r ≡ copy_piece b img (8 * (a + 1)) ((i - 1) % 8) → Copies
    unfolding copy_at_of copy_value_of
    copied-piece f b a l few frame whole ef eb ea q =
        let key : ℕ = get_or keys ((i - 1) / 8) 0 in
        let k : ℕ = (i - 1) % 8 in
        let low : f < frames z = rw ef frame in
        let line : key_line key < 64 = omega arith in
        let inside : 8 * (b + 8) ≤ image_length z = omega (arith, eb) in
        let x : (d : ℕ) → eqb (i + d) 0 ≡ false = λ d. ne_eqb (i + d) 0 (λ o. some (omega (arith, o))) in
        let y : (d : ℕ) → k + d < 8 → ltb (8 * count) (i + d) ≡ false = λ d n. le-ltb (8 * count) (i + d) (omega (arith, n, some)) in
        let quot : (d : ℕ) → k + d < 8 → (i + d - 1) / 8 ≡ (i - 1) / 8 = λ d n. omega (arith, n, some) in
        let rest : (d : ℕ) → k + d < 8 → (i + d - 1) % 8 ≡ k + d = λ d n. omega (arith, n, some) in
        rw q
        (copy-next _ _ i (image_length z) img b (a + 1) k whole (omega arith) inside (omega (arith, ea, few, some))
        (λ d c u v o. omega (arith, o, eb, ea, low, line, u))
        (λ d n. rw (x d, y d n, quot d n, rest d n, ← ef, eb))
        (λ d m n. rw (x d, y d n, quot d n, rest d n, ea)))
