-- A line's words in the image are those of its bytes.
use Prim.Native.Nat.{ℕ, ◌+◌, ◌*◌, ◌<◌, ◌≤◌}
use mathlib.Core.List.{List}
use mathlib.Core.Path.{◌≡◌, sym, ap, ◌∙◌}
use native.Mathlib.Omega.{arith}
use lib.ListN.{length}
use Rattle.layout.specs.declared.Sizes.{Sizes}
use Rattle.layout.specs.Layout.{frames, line_word, image_length}
use Rattle.layout.proofs.LayoutLaws.{line-end}
use Rattle.words.specs.Words.{word_at, word}
use Rattle.words.proofs.WordLaws.{word-part}
use Rattle.image.specs.Lines.{line_bytes}

pub first_word : (img : List ℕ) (z : Sizes) (f l : ℕ) → f < frames z → l < 64 → image_length z ≤ length img → word img (line_word z f l + 0) ≡ word_at (line_bytes img z f l) 0
first_word img z f l lf ll h =
    let e : 8 * (line_word z f l + 0) ≡ 8 * line_word z f l + 0 = omega arith in
    ap (word_at img) e ∙ sym (word-part img (8 * line_word z f l) 64 0 (omega arith) (omega (arith, line-end z f l lf ll, h)))
