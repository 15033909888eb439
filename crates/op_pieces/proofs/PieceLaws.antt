-- What each kind of piece has to be, to be the next stores of an operation.
use Prim.Native.Nat.{ℕ, zero, suc, ◌+◌, ◌*◌, ◌<◌, ◌≤◌}
use mathlib.Core.List.{List}
use mathlib.Core.Path.{◌≡◌, refl, sym, ap, ◌∙◌}
use native.Mathlib.Omega.{arith}
use lib.ListN.{length, get_or}
use Rattle.bounded.specs.Below.{up_to}
use Rattle.bounded.proofs.Tab.{get_or-tab}
use Rattle.words.specs.Words.{part, word_at, word}
use Rattle.words.proofs.WordLaws.{word-part}
use Rattle.words.proofs.Runs.{words-tab}
use Rattle.journal.specs.declared.Record.{Record}
use Rattle.journal.specs.Records.{word_of_record}
use Rattle.op_pieces.specs.declared.Piece.{Piece}
use Rattle.op_pieces.specs.Pieces.{piece_stores, Next, one_piece, record_piece, line_piece, slot_piece, copy_piece}
use Rattle.op_pieces.proofs.Turns.{word-beside}

-- ---- the words of a piece

record-words : (at : ℕ) (e : Record) (k j : ℕ) → j < 4 → get_or (record_piece at e k).words j 0 ≡ word_of_record e j
record-words at e k zero h = refl
record-words at e k (suc zero) h = refl
record-words at e k (suc (suc zero)) h = refl
record-words at e k (suc (suc (suc zero))) h = refl
record-words at e k (suc (suc (suc (suc j)))) h = absurd (omega arith)

slot-words : (at : ℕ) (img : List ℕ) (a k j : ℕ) → j < 3 → get_or (slot_piece at img a k).words j 0 ≡ word img (a + j)
slot-words at img a k zero h = let e : a ≡ a + 0 = omega arith in ap (word img) e
slot-words at img a k (suc zero) h = refl
slot-words at img a k (suc (suc zero)) h = refl
slot-words at img a k (suc (suc (suc j))) h = absurd (omega arith)

copy-words : (at : ℕ) (img : List ℕ) (a k j : ℕ) → 8 * (a + 8) ≤ length img → j < 8 → get_or (copy_piece at img (8 * a) k).words j 0 ≡ word img (a + j)
copy-words at img a k j l h =
    let e : 8 * a + (0 + 8 * j) ≡ 8 * (a + j) = omega arith in
    ap (λ (t : List ℕ). get_or t j 0) (words-tab (part img (8 * a) 64) 0 8)
    ∙ get_or-tab 8 (λ i. word_at (part img (8 * a) 64) (0 + 8 * i)) j 0 h
    ∙ word-part img (8 * a) 64 (0 + 8 * j) (omega arith) (omega arith)
    ∙ ap (word_at img) e

-- ---- the next stores of an operation, from store i on

module _ (at value : List ℕ → ℕ → ℕ) (i bound : ℕ) (img : List ℕ) (a : ℕ) where
  pub one-next : (v : ℕ) → 8 * (a + 1) ≤ bound → at img i ≡ a → value img i ≡ v → Next at value i bound img (one_piece a v)
  unfolding up_to
  one-next v h p q = record {
    some = omega arith;
    most = omega arith;
    inside = h;
    place = λ d l. let z : d ≡ 0 = omega (arith, l) in let e : i + 0 ≡ i = omega arith in let b : a ≡ a + (0 + 0) = omega arith in rw z (ap (at img) e ∙ p ∙ b);
    bytes = λ d l. let z : d ≡ 0 = omega (arith, l) in let e : i + 0 ≡ i = omega arith in rw z (ap (value img) e ∙ q);
  }

  -- by what holds of any image
  pub record-next : (e : Record) (k : ℕ) → k < 4 → 8 * (a + 4) ≤ bound
      → ((d : ℕ) (m : List ℕ) → k + d < 4 → at m (i + d) ≡ a + (k + d)) → ((d : ℕ) (m : List ℕ) → k + d < 4 → value m (i + d) ≡ word_of_record e (k + d))
      → Next at value i bound img (record_piece a e k)
  record-next e k l h p q = record {
    some = l;
    most = omega arith;
    inside = h;
    place = λ d b. p d _ b;
    bytes = λ d b. q d _ b ∙ sym (record-words a e k (k + d) b);
  }

  pub line-next : (line : List ℕ) (k : ℕ) → k < 8 → 8 * (a + 8) ≤ bound
      → ((d : ℕ) (m : List ℕ) → k + d < 8 → at m (i + d) ≡ a + (k + d)) → ((d : ℕ) (m : List ℕ) → k + d < 8 → value m (i + d) ≡ get_or line (k + d) 0)
      → Next at value i bound img (line_piece a line k)
  line-next line k l h p q = record { some = l; most = omega arith; inside = h; place = λ d b. p d _ b; bytes = λ d b. q d _ b }

  -- words read from elsewhere: those that are still to be read stay
  module _ (s k : ℕ) (short : bound ≤ length img) where
    pub slot_next : k < 3 → 8 * (a + 3) ≤ bound → ((d c : ℕ) → d < 3 → c < 3 → a + d ≡ s + c → ⊥)
        → ((d : ℕ) (m : List ℕ) → k + d < 3 → at m (i + d) ≡ a + (k + d)) → ((d : ℕ) (m : List ℕ) → k + d < 3 → value m (i + d) ≡ word m (s + (k + d)))
        → Next at value i bound img (slot_piece a img s k)
    slot_next l h n p q = record {
      some = l;
      most = omega arith;
      inside = h;
      place = λ d b. p d _ b;
      bytes = λ d b. q d _ b ∙ word-beside (slot_piece a img s k) img (omega (arith, h, short)) (s + (k + d)) (λ c x. n c (k + d) x b) d (omega (arith, b)) ∙ sym (slot-words a img s k (k + d) b);
    }

    pub copy-next : k < 8 → 8 * (a + 8) ≤ bound → 8 * (s + 8) ≤ bound → ((d c : ℕ) → d < 8 → c < 8 → a + d ≡ s + c → ⊥)
        → ((d : ℕ) → k + d < 8 → at (piece_stores (copy_piece a img (8 * s) k) d img) (i + d) ≡ a + (k + d)) → ((d : ℕ) (m : List ℕ) → k + d < 8 → value m (i + d) ≡ word m (s + (k + d)))
        → Next at value i bound img (copy_piece a img (8 * s) k)
    copy-next l h r n p q = record {
      some = l;
      most = omega arith;
      inside = h;
      place = p;
      bytes = λ d b. q d _ b ∙ word-beside (copy_piece a img (8 * s) k) img (omega (arith, h, short)) (s + (k + d)) (λ c x. n c (k + d) x b) d (omega (arith, b)) ∙ sym (copy-words a img s k (k + d) (omega (arith, r, short)) b);
    }

-- the stores from store j on of one operation are those from store i on of another
pub next-as : (at value at' value' : List ℕ → ℕ → ℕ) (j i bound : ℕ) (img : List ℕ) (p : Piece) → Next at value j bound img p
    → ((d : ℕ) (m : List ℕ) → at' m (i + d) ≡ at m (j + d)) → ((d : ℕ) (m : List ℕ) → value' m (i + d) ≡ value m (j + d)) → Next at' value' i bound img p
next-as at value at' value' j i bound img p h a v =
    record { some = h.some; most = h.most; inside = h.inside; place = λ d l. a d _ ∙ h.place d l; bytes = λ d l. v d _ ∙ h.bytes d l }
