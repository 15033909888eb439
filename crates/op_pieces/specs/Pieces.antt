-- A piece put into an image, and what makes it the next stores of an operation.
use Rattle.std.specs.Prelude.{ℕ, ◌+◌, ◌*◌, ◌^◌, ◌<◌, ◌≤◌, List, [], ◌∷◌, ◌≡◌, get_or}
use Rattle.bounded.specs.Below.{up_to}
use Rattle.words.specs.Words.{part, word, store, words_at}
use Rattle.layout.specs.declared.Sizes.{Sizes}
use Rattle.layout.specs.Layout.{line_word}
use Rattle.journal.specs.declared.Record.{Record}
use Rattle.journal.specs.Records.{word_of_record}
use Rattle.op_pieces.specs.declared.Piece.{Piece}

-- the image after the next n words of a piece, rising
abbrev pub piece_stores : Piece → ℕ → List ℕ → List ℕ
piece_stores p n img = up_to n (λ d m. store m (p.at + (p.from + d)) (get_or p.words (p.from + d) 0)) img

-- the stores of an operation: the word and the value of each, by the image as it then is; n of them from store i on
abbrev pub stores_from : (List ℕ → ℕ → ℕ) → (List ℕ → ℕ → ℕ) → ℕ → ℕ → List ℕ → List ℕ
stores_from at value i n img = up_to n (λ d m. store m (at m (i + d)) (value m (i + d))) img

-- piece p is the next stores from store i on, inside the first so many bytes: once d of its words are stored, store i + d is the next one
pub record Next (at value : List ℕ → ℕ → ℕ) (i bound : ℕ) (img : List ℕ) (p : Piece) : Type 0 where
  pub some : p.from < p.count
  pub most : p.count ≤ 8
  pub inside : 8 * (p.at + p.count) ≤ bound
  pub place : (d : ℕ) → p.from + d < p.count → at (piece_stores p d img) (i + d) ≡ p.at + (p.from + d)
  pub bytes : (d : ℕ) → p.from + d < p.count → value (piece_stores p d img) (i + d) ≡ get_or p.words (p.from + d) 0

-- ---- the pieces that there are: one word; the four of a record, from word k on; the eight of a line; the three that stand from word a of an image
-- on; the eight that stand from byte o on
abbrev pub one_piece : ℕ → ℕ → Piece
one_piece at v = record { at = at; from = 0; count = 1; words = v ∷ 0 ∷ 0 ∷ 0 ∷ 0 ∷ 0 ∷ 0 ∷ 0 ∷ [] }

abbrev pub record_piece : ℕ → Record → ℕ → Piece
record_piece at e k =
    record { at = at; from = k; count = 4; words = word_of_record e 0 ∷ word_of_record e 1 ∷ word_of_record e 2 ∷ word_of_record e 3 ∷ 0 ∷ 0 ∷ 0 ∷ 0 ∷ [] }

abbrev pub line_piece : ℕ → List ℕ → ℕ → Piece
line_piece at line k = record { at = at; from = k; count = 8; words = line }

abbrev pub slot_piece : ℕ → List ℕ → ℕ → ℕ → Piece
slot_piece at img a k =
    record { at = at; from = k; count = 3; words = word img a ∷ word img (a + 1) ∷ word img (a + 2) ∷ 0 ∷ 0 ∷ 0 ∷ 0 ∷ 0 ∷ [] }

abbrev pub copy_piece : ℕ → List ℕ → ℕ → ℕ → Piece
copy_piece at bytes o k = record { at = at; from = k; count = 8; words = words_at (part bytes o 64) 0 8 }

-- n words of a line, from word k on, put as line l of frame f
abbrev pub line_stores : Sizes → ℕ → ℕ → List ℕ → ℕ → ℕ → List ℕ → List ℕ
line_stores z f l line k n img = up_to n (λ i m. store m (line_word z f l + (k + i)) (get_or line (k + i) 0)) img

-- a record's parts fit its words
abbrev pub Fits : Record → Type 0
Fits e = (e.first < 2 ^ 32) × (e.slot < 2 ^ 32) × (e.now.original < 2 ^ 32) × (e.now.spare < 2 ^ 32)
