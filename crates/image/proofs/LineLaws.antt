-- Lines of the frames: as parts of a frame, by their words, and with data laid over them.
use mathlib.Core.Path.{◌≡◌, sym, ap, ◌∙◌}
use mathlib.Core.Bool.{false, not}
use mathlib.Core.List.{List, ◌++◌}
use mathlib.Core.Logic.{◌⊎◌}
use Prim.Native.Nat.{ℕ, ◌+◌, ◌-◌, ◌*◌, ◌≤◌, ◌<◌}
use native.Mathlib.Omega.{arith}
use lib.Dec.{eqb}
use lib.ListN.{length, take, drop, get_or, length-take, length-drop}
use lib.Seq.{length-take-le, get_or-take, take_all, ext_get_or}
use borrow.Author.Tests.{eqb-true, eq-eqb, not-false}
use Rattle.bounded.specs.Tab.{tab}
use Rattle.bounded.proofs.Below.{none-at, none_made}
use Rattle.bounded.proofs.Tab.{tab-ext}
use Rattle.bounded.proofs.Tests.{case_on}
use Rattle.layout.specs.declared.Sizes.{Sizes}
use Rattle.words.specs.Words.{part, over, word_at, word, Bytes, flat}
use Rattle.layout.specs.Layout.{frames, line_word, image_length}
use Rattle.image.specs.Lines.{line_bytes, merged, differ, merge_changes, line_words}
use Rattle.words.proofs.Bytes.{bytes_take}
use Rattle.words.proofs.Parts.{length_part, part-part, length_over, bytes-over, get_d_over, get_or-over-other, over-whole, over-back, copied}
use Rattle.words.proofs.WordLaws.{word-part}
use Rattle.words.proofs.Runs.{length-words, flat-words, words-tab}

-- ---- a frame's bytes, cut out of the image

module _ (img : List ℕ) (z : Sizes) (f : ℕ) (in-frames : f < frames z) (whole : image_length z ≤ length img)
    {frame : List ℕ} (cut : frame ≡ part img (8 * line_word z f 0) 4096) where
  pub length-frame : length frame ≡ 4096
  length-frame = rw cut (length_part img (8 * line_word z f 0) 4096 (omega arith))

  pub frame-word : (l k : ℕ) → l < 64 → k < 8 → word_at frame (64 * l + 8 * k) ≡ word img (line_word z f l + k)
  frame-word l k p q =
      let e : 8 * line_word z f 0 + (64 * l + 8 * k) ≡ 8 * (line_word z f l + k) = omega arith in
      rw cut (word-part img (8 * line_word z f 0) 4096 (64 * l + 8 * k) (omega arith) (omega arith) ∙ ap (word_at img) e)

  pub frame-line : (l : ℕ) → l < 64 → part frame (64 * l) 64 ≡ line_bytes img z f l
  frame-line l p =
      let e : 8 * line_word z f 0 + 64 * l ≡ 8 * line_word z f l = omega arith in
      rw cut (part-part img (8 * line_word z f 0) 4096 (64 * l) 64 (omega arith) (omega arith) ∙ ap (λ (a : ℕ). part img a 64) e)

-- ---- a line by its eight words

pub length-line : (img : List ℕ) (z : Sizes) (f l : ℕ) → f < frames z → l < 64 → image_length z ≤ length img → length (line_bytes img z f l) ≡ 64
length-line img z f l p q h = length_part img (8 * line_word z f l) 64 (omega arith)

-- the 64 bytes from word a on
pub eight-words : (img : List ℕ) (a : ℕ) → Bytes img → 8 * a + 64 ≤ length img → part img (8 * a) 64 ≡ flat (tab 8 (λ k. word img (a + k)))
eight-words img a b h =
    sym (flat-words img b 8 (8 * a) (omega arith))
    ∙ ap flat
    (words-tab img (8 * a) 8
    ∙ tab-ext 8 (λ k. word_at img (8 * a + 8 * k)) (λ k. word img (a + k))
    (λ k _. let e : 8 * a + 8 * k ≡ 8 * (a + k) = omega arith in ap (word_at img) e))

pub eight-ext : (x y : List ℕ) (a c : ℕ) → Bytes x → Bytes y → 8 * a + 64 ≤ length x → 8 * c + 64 ≤ length y
    → ((k : ℕ) → k < 8 → word x (a + k) ≡ word y (c + k)) → part x (8 * a) 64 ≡ part y (8 * c) 64
eight-ext x y a c bx by hx hy e =
    eight-words x a bx hx ∙ ap flat (tab-ext 8 (λ k. word x (a + k)) (λ k. word y (c + k)) e) ∙ sym (eight-words y c by hy)

pub line-words : (img : List ℕ) (z : Sizes) (f l : ℕ) → Bytes img → f < frames z → l < 64 → image_length z ≤ length img
    → line_bytes img z f l ≡ flat (tab 8 (λ k. word img (line_word z f l + k)))
line-words img z f l b p q h = eight-words img (line_word z f l) b (omega arith)

-- lines whose eight words agree, of one image or of two, are the same
pub line-ext : (x y : List ℕ) (z : Sizes) (f l g m : ℕ) → Bytes x → Bytes y → f < frames z → l < 64 → g < frames z → m < 64
    → image_length z ≤ length x → image_length z ≤ length y
    → ((k : ℕ) → k < 8 → word x (line_word z f l + k) ≡ word y (line_word z g m + k)) → line_bytes x z f l ≡ line_bytes y z g m
line-ext x y z f l g m bx by p q r s hx hy e = eight-ext x y (line_word z f l) (line_word z g m) bx by (omega arith) (omega arith) e

-- the bytes of a line's words are the line
pub flat_line : (line : List ℕ) → Bytes line → length line ≡ 64 → flat (line_words line) ≡ line
unfolding part
flat_line line b e = flat-words line b 8 0 (omega arith) ∙ take_all 64 line (omega arith)

-- ---- lists that differ at no place are the same

pub differ-none : (n : ℕ) (xs ys : List ℕ) → length xs ≡ n → length ys ≡ n → differ n xs ys ≡ false → xs ≡ ys
differ-none n xs ys h k e =
    ext_get_or 0 xs ys (h ∙ sym k)
    (λ i m. eqb-true (get_or xs i 0) (get_or ys i 0) (not-false (eqb (get_or xs i 0) (get_or ys i 0)) (none-at (λ j. not (eqb (get_or xs j 0) (get_or ys j 0))) n i (omega (arith, m, h)) e)))

pub differ_same : (n : ℕ) (xs ys : List ℕ) → xs ≡ ys → differ n xs ys ≡ false
differ_same n xs ys e =
    none_made (λ i. not (eqb (get_or xs i 0) (get_or ys i 0))) n (λ i m. ap not (eq-eqb (get_or xs i 0) (get_or ys i 0) (ap (λ (l : List ℕ). get_or l i 0) e)))

-- lines differ where their words do
pub differ-words : (xs ys : List ℕ) → Bytes xs → Bytes ys → length xs ≡ 64 → length ys ≡ 64 → differ 8 (line_words xs) (line_words ys) ≡ differ 64 xs ys
differ-words xs ys bx by h k =
    case_on (differ 64 xs ys)
    (λ t.
    case_on (differ 8 (line_words xs) (line_words ys))
    (λ u. u ∙ sym t)
    (λ u.
    let e : xs ≡ ys = sym (flat_line xs bx h) ∙ ap flat (differ-none 8 (line_words xs) (line_words ys) (length-words xs 8 0) (length-words ys 8 0) u) ∙ flat_line ys by k in
    u ∙ sym (differ_same 64 xs ys e)))
    (λ t. differ_same 8 (line_words xs) (line_words ys) (ap line_words (differ-none 64 xs ys h k t)) ∙ sym t)

-- ---- a line with data laid over it

pub bytes-merged : (line : List ℕ) (offset n : ℕ) (bytes : List ℕ) → Bytes line → Bytes bytes → Bytes (merged line offset n bytes)
bytes-merged line offset n bytes h k = bytes-over line offset (take n bytes) h (bytes_take n bytes k)

module _ (line : List ℕ) (offset n : ℕ) (bytes : List ℕ) (sized : length line ≡ 64) (fits : offset + n ≤ 64) (given : n ≤ length bytes) where
  laid-length : length (take n bytes) ≡ n
  laid-length = length-take-le n bytes given

  laid-fits : offset + length (take n bytes) ≤ length line
  laid-fits = omega (arith, laid-length)

  pub length_merged : length (merged line offset n bytes) ≡ 64
  length_merged = length_over line offset (take n bytes) laid-fits ∙ sized

  -- the data's byte where it was laid, else the line's
  pub get_or-merged : (i : ℕ) → offset ≤ i → i < offset + n → get_or (merged line offset n bytes) i 0 ≡ get_or bytes (i - offset) 0
  get_or-merged i h k =
      get_d_over line offset (take n bytes) laid-fits i h (omega (arith, laid-length)) ∙ get_or-take n bytes (i - offset) 0 (omega arith)

  pub get_or-merged-other : (i : ℕ) → (offset + n ≤ i) ⊎ (i < offset) → get_or (merged line offset n bytes) i 0 ≡ get_or line i 0
  get_or-merged-other i h = get_or-over-other line offset (take n bytes) laid-fits i (rw laid-length h)

  -- where no byte changed, the line is as it was
  pub merge-same : merge_changes line offset n bytes ≡ false → merged line offset n bytes ≡ line
  unfolding merge_changes
  merge-same e = differ-none 64 (merged line offset n bytes) line length_merged sized e

  -- told by the words of the line and of the merged one
  pub merge-words : Bytes line → Bytes bytes → differ 8 (line_words (merged line offset n bytes)) (line_words line) ≡ merge_changes line offset n bytes
  unfolding merge_changes
  merge-words h k = differ-words (merged line offset n bytes) line (bytes-merged line offset n bytes h k) h length_merged sized

  -- what is left of a buffer to which the line and then, from offset on, the data were copied
  pub merge-back : (d : List ℕ) {w y : List ℕ} → length d ≡ 64 → w ≡ over d 0 line
      → y ≡ take (length (take (n - 0) bytes)) (take (n - 0) bytes) ++ drop (length (take (n - 0) bytes)) (take (offset + n - offset) (drop offset w))
      → take offset w ++ (y ++ drop (offset + n - offset) (drop offset w)) ≡ merged line offset n bytes
  merge-back d {w} {y} e p q =
      let s : n - 0 ≡ n = omega arith in
      let w' : w ≡ line = p ∙ over-whole d line (sized ∙ sym e) in
      let lw : length w ≡ 64 = ap length w' ∙ sized in
      let ls : length (take (n - 0) bytes) ≡ n = simp length-take (omega arith) in
      let ld : length (take (offset + n - offset) (drop offset w)) ≡ length (take (n - 0) bytes) = simp (length-take, length-drop) (omega arith) in
      let y' : y ≡ take n bytes = q ∙ copied (take (n - 0) bytes) (take (offset + n - offset) (drop offset w)) ld ∙ ap (λ (m : ℕ). take m bytes) s in
      over-back w offset (offset + n) y' (omega (arith, laid-length)) ∙ ap (λ (t : List ℕ). over t offset (take n bytes)) w'
