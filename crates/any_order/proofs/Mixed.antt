-- What a cut may leave: the image with leftovers replaced. A word that all images since the last fence have in common has its eight bytes in common.
use Prim.Native.Nat.{ℕ, ◌+◌, ◌-◌, ◌*◌, ◌<◌, ◌≤◌}
use mathlib.Core.List.{List, [], ◌∷◌}
use mathlib.Core.Logic.{◌⊎◌, ⊎_elim}
use mathlib.Core.Path.{◌≡◌, sym, ap, ◌∙◌, subst}
use native.Mathlib.Omega.{arith}
use lib.ListN.{length, drop, get_or, length-drop}
use lib.Seq.{get_or-take, get_or-drop, ext_get_or}
use Rattle.layout.specs.Layout.{image_length}
use Rattle.words.specs.Words.{Bytes, part, le_of, bytes_of, word_at, word}
use Rattle.words.proofs.Parts.{length_part}
use Rattle.words.proofs.WordLaws.{bytes_word}
use Rattle.refinement.specs.Stores.{World}
use Rattle.leftovers.specs.Leftovers.{Replaced}
use Rattle.any_order.specs.AnyOrder.{StoodAt}
use Rattle.any_order.proofs.Mixable.{All, all_map}

-- ---- bytes of a word

pub part-byte : (l : List ℕ) (a n k : ℕ) → k < n → get_or (part l a n) k 0 ≡ get_or l (a + k) 0
unfolding part
part-byte l a n k h = get_or-take n (drop a l) k 0 h ∙ get_or-drop a l k 0

pub byte-of-word : (x y : List ℕ) (a : ℕ) → Bytes x → Bytes y → 8 * a + 8 ≤ length x → 8 * a + 8 ≤ length y → word x a ≡ word y a → (k : ℕ) → k < 8 → get_or x (8 * a + k) 0 ≡ get_or y (8 * a + k) 0
byte-of-word x y a bx by lx ly e k h =
    sym (part-byte x (8 * a) 8 k h)
    ∙ ap (λ (l : List ℕ). get_or l k 0) (sym (bytes_word x (8 * a) bx lx) ∙ ap (bytes_of 8) e ∙ bytes_word y (8 * a) by ly)
    ∙ part-byte y (8 * a) 8 k h

pub word-of-bytes : (x y : List ℕ) (a : ℕ) → 8 * a + 8 ≤ length x → 8 * a + 8 ≤ length y → ((k : ℕ) → k < 8 → get_or x (8 * a + k) 0 ≡ get_or y (8 * a + k) 0) → word x a ≡ word y a
unfolding word_at
word-of-bytes x y a lx ly h =
    let nx = length_part x (8 * a) 8 lx in
    let ny = length_part y (8 * a) 8 ly in
    ap le_of
    (ext_get_or 0 (part x (8 * a) 8) (part y (8 * a) 8) (nx ∙ sym ny)
    (λ k l. let m : k < 8 = omega (arith, l, nx) in part-byte x (8 * a) 8 k m ∙ h k m ∙ sym (part-byte y (8 * a) 8 k m)))

-- ---- a byte that has stood in one of the images

pub stood : (P : ℕ → Type 0) (i : ℕ) (since : List (List ℕ)) → All (λ x. P (get_or x i 0)) since → (b : ℕ) → StoodAt since i b → P b
stood P i [] h b q = absurd q
stood P i (x ∷ xs) h b q = ⊎_elim (λ e. subst P (sym e) h.0) (λ r. stood P i xs h.1 b r) q

module _ (since : List (List ℕ)) (image : List ℕ) (torn : (i : ℕ) → StoodAt since i (get_or image i 0)) where
  pub mixed-replaced : (v : World) → Bytes v.image → image_length v.st.sizes ≤ length v.image → length image ≡ length v.image → All (Replaced v) since → Replaced v image
  mixed-replaced v bytes whole long h =
      record {
        bytes = λ i. stood (λ b. b < 256) i since (all_map (λ x R. R.bytes i) since h) (get_or image i 0) (torn i);
        as_long = long;
        kept =
            λ a l n.
            let fits : 8 * a + 8 ≤ length v.image = omega (arith, l, whole) in
            word-of-bytes image v.image a (omega (arith, fits, long)) fits
            (λ k m.
            stood (λ b. b ≡ get_or v.image (8 * a + k) 0) (8 * a + k) since
            (all_map (λ x R. byte-of-word x v.image a R.bytes bytes (omega (arith, fits, R.as_long)) fits (R.kept a l n) k m) since h)
            (get_or image (8 * a + k) 0) (torn (8 * a + k)));
      }

  -- the bytes past the image
  pub mixed-past : (n : ℕ) (img : List ℕ) → length image ≡ length img → All (λ x. drop n x ≡ drop n img) since → drop n image ≡ drop n img
  mixed-past n img long h =
      ext_get_or 0 (drop n image) (drop n img) (length-drop n image ∙ ap (λ (k : ℕ). k - n) long ∙ sym (length-drop n img))
      (λ i l.
      get_or-drop n image i 0
      ∙ stood (λ b. b ≡ get_or img (n + i) 0) (n + i) since
      (all_map (λ x e. sym (get_or-drop n x i 0) ∙ ap (λ (y : List ℕ). get_or y i 0) e ∙ get_or-drop n img i 0) since h) (get_or image (n + i) 0) (torn (n + i))
      ∙ sym (get_or-drop n img i 0))
