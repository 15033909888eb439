-- A piece that is the next stores of an operation, put: those stores are made.
use Prim.Native.Nat.{ℕ, zero, suc, ◌+◌, ◌*◌, ◌<◌, ◌≤◌}
use mathlib.Core.List.{List}
use mathlib.Core.Path.{◌≡◌, refl, sym, ap, ap₂, ◌∙◌}
use native.Mathlib.Omega.{arith}
use lib.ListN.{length}
use Rattle.bounded.specs.Below.{up_to}
use Rattle.bounded.proofs.Below.{up_more, up-ext}
use Rattle.words.specs.Words.{store}
use Rattle.words.proofs.WordLaws.{length-store, word-store-other}
use Rattle.words.specs.Words.{word}
use Rattle.op_pieces.specs.declared.Piece.{Piece}
use Rattle.op_pieces.specs.Pieces.{piece_stores, stores_from, Next}

module _ (at value : List ℕ → ℕ → ℕ) where
  pub piece-made : (i bound : ℕ) (img : List ℕ) (p : Piece) → Next at value i bound img p → (n : ℕ) → p.from + n ≤ p.count
      → piece_stores p n img ≡ stores_from at value i n img
  unfolding up_to
  piece-made i bound img p h zero l = refl
  piece-made i bound img p h (suc n) l =
      let y : List ℕ = piece_stores p n img in
      ap₂ (λ (a v : ℕ). store y a v) (sym (h.place n (omega arith))) (sym (h.bytes n (omega arith)))
      ∙ ap (λ (u : List ℕ). store u (at u (i + n)) (value u (i + n))) (piece-made i bound img p h n (omega arith))

  -- after i stores, n more
  pub piece-turn : (from i n bound : ℕ) (p : Piece) (x y m : List ℕ) → y ≡ stores_from at value from i x → Next at value (from + i) bound y p → p.from + n ≤ p.count
      → m ≡ piece_stores p n y → m ≡ stores_from at value from (i + n) x
  piece-turn from i n bound p x y m a h l q =
      let f : ℕ → List ℕ → List ℕ = λ d u. store u (at u (from + d)) (value u (from + d)) in
      q ∙ piece-made (from + i) bound y p h n l
      ∙ up-ext (λ d u. store u (at u (from + i + d)) (value u (from + i + d))) (λ d. f (i + d)) n y (λ d u k. let e : from + i + d ≡ from + (i + d) = omega arith in ap (λ (j : ℕ). store u (at u j) (value u j)) e)
      ∙ ap (λ (u : List ℕ). up_to n (λ d. f (i + d)) u) a
      ∙ sym (up_more f i n x)

-- the image is as long as before
pub length-piece : (p : Piece) (img : List ℕ) → 8 * (p.at + p.count) ≤ length img → (n : ℕ) → p.from + n ≤ p.count → length (piece_stores p n img) ≡ length img
unfolding up_to
length-piece p img h zero l = refl
length-piece p img h (suc n) l =
    let m : length (piece_stores p n img) ≡ length img = length-piece p img h n (omega arith) in
    length-store (piece_stores p n img) (p.at + (p.from + n)) _ (omega arith) ∙ m

-- a word beside the piece is as before
pub word-beside : (p : Piece) (img : List ℕ) → 8 * (p.at + p.count) ≤ length img → (j : ℕ) → ((d : ℕ) → d < p.count → p.at + d ≡ j → ⊥)
    → (n : ℕ) → p.from + n ≤ p.count → word (piece_stores p n img) j ≡ word img j
unfolding up_to
word-beside p img h j ne zero l = refl
word-beside p img h j ne (suc n) l =
    let m : length (piece_stores p n img) ≡ length img = length-piece p img h n (omega arith) in
    word-store-other (piece_stores p n img) (p.at + (p.from + n)) _ j (omega arith) (ne (p.from + n) (omega arith))
    ∙ word-beside p img h j ne n (omega arith)
