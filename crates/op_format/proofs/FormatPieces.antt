-- The pieces of a format: p is what the code made.
use Prim.Native.Nat.{ℕ, ◌+◌, ◌-◌, ◌<◌, ◌≤◌, min}
use mathlib.Core.List.{List, [], ◌∷◌}
use mathlib.Core.Path.{◌≡◌, sym, ap, ◌∙◌}
use native.Mathlib.Omega.{arith}
use Rattle.bounded.specs.Tab.{tab}
use Rattle.bounded.proofs.Tab.{get_or-tab}
use Rattle.layout.specs.declared.Sizes.{Sizes}
use Rattle.layout.specs.Layout.{Legal, layout_of, layout_word, image_words, image_length}
use Rattle.fresh.specs.Fresh.{fresh_word, format_at, format_value}
use Rattle.fresh.proofs.FreshStores.{first-at, first-value, last-at, low-at, high-at, later-value, fresh-layout}
use Rattle.op_pieces.specs.declared.Piece.{Piece}
use Rattle.op_pieces.specs.Pieces.{Next, one_piece}
use Rattle.op_pieces.proofs.PieceLaws.{one-next}

-- eight words of a fresh image, as the code makes them
pub eight-fresh : (z : Sizes) (a : ℕ) {w0 w1 w2 w3 w4 w5 w6 w7 : ℕ} → w0 ≡ fresh_word z a → w1 ≡ fresh_word z (a + 1) → w2 ≡ fresh_word z (a + 2) → w3 ≡ fresh_word z (a + 3) → w4 ≡ fresh_word z (a + 4)
    → w5 ≡ fresh_word z (a + 5) → w6 ≡ fresh_word z (a + 6) → w7 ≡ fresh_word z (a + 7) → w0 ∷ w1 ∷ w2 ∷ w3 ∷ w4 ∷ w5 ∷ w6 ∷ w7 ∷ [] ≡ tab 8 (λ k. fresh_word z (a + k))
unfolding tab
eight-fresh z a e0 e1 e2 e3 e4 e5 e6 e7 =
    let f : ℕ → ℕ = λ k. fresh_word z (a + k) in
    let e : a ≡ a + 0 = omega arith in
    rw (e0, e1, e2, e3, e4, e5, e6, e7) (ap (λ (v : ℕ). fresh_word z v ∷ f 1 ∷ f 2 ∷ f 3 ∷ f 4 ∷ f 5 ∷ f 6 ∷ f 7 ∷ []) e)

module _ (z : Sizes) (g : Legal z) (i : ℕ) (p : Piece) where
  abbrev IsNext : Type 0
  IsNext = (img : List ℕ) → Next (λ m. format_at z) (λ m. format_value z) i (image_length z) img p

  pub first_piece : i ≡ 0 → p ≡ one_piece layout_word 0 → IsNext
  first_piece e q img = rw (q, e) (one-next (λ m. format_at z) (λ m. format_value z) 0 (image_length z) img layout_word 0 (omega arith) (first-at z) (first-value z))

  pub last-piece : i ≡ image_words z → p ≡ one_piece layout_word (layout_of z) → IsNext
  last-piece e q img =
      rw (q, e)
      (one-next (λ m. format_at z) (λ m. format_value z) (image_words z) (image_length z) img layout_word (layout_of z) (omega arith) (last-at z)
      (later-value z (image_words z) (omega arith) ∙ ap (fresh_word z) (last-at z) ∙ fresh-layout z g))

  -- words that lie side by side: store i + d goes to the word that many past the piece's first
  side_by_side : (at from count : ℕ) (words : List ℕ) → p ≡ record { at = at; from = from; count = count; words = words } → from < count → count ≤ 8 → at + count ≤ image_words z
      → words ≡ tab 8 (λ k. fresh_word z (at + k)) → 0 < i → ((d : ℕ) → from + d < count → format_at z (i + d) ≡ at + (from + d)) → IsNext
  side_by_side at from count words q some most inside w later place img =
      rw (q, w)
      (record {
        some = some;
        most = most;
        inside = omega arith;
        place = place;
        bytes =
            λ d l.
            later-value z (i + d) (omega arith) ∙ ap (fresh_word z) (place d l) ∙ sym (get_or-tab 8 (λ k. fresh_word z (at + k)) (from + d) 0 (omega (arith, l, most)));
      })

  pub low-piece : (words : List ℕ) → 0 < i → i < 4 → p ≡ record { at = 0; from = i - 1; count = 3; words = words } → words ≡ tab 8 (λ k. fresh_word z (0 + k)) → IsNext
  low-piece words a b q w =
      side_by_side 0 (i - 1) 3 words q (omega arith) (omega arith) (omega arith) w a
      (λ d l. low-at z (i + d) (omega arith) (omega (arith, l, a)) (omega arith) ∙ (let e : i + d - 1 ≡ 0 + (i - 1 + d) = omega (arith, a) in e))

  pub high-piece : (n : ℕ) (words : List ℕ) → 4 ≤ i → i < image_words z → n ≡ min 8 (image_words z - i) → p ≡ record { at = i; from = 0; count = n; words = words }
      → words ≡ tab 8 (λ k. fresh_word z (i + k)) → IsNext
  high-piece n words a b e q w =
      side_by_side i 0 n words q (omega arith) (omega arith) (omega arith) w (omega arith)
      (λ d l. high-at z (i + d) (omega arith) (omega (arith, l, e)) ∙ (let f : i + d ≡ i + (0 + d) = omega arith in f))
