use mathlib.Core.Path.{◌∙◌}
use native.Mathlib.Omega.{arith}
use Rattle.image.proofs.LineLaws.{length-frame, frame-word}
use borrow.Author.Rules.{rules}
use Rattle.image.proofs.read_line_word.Goals as goal

-- A word of the frame's part is the word of the image.
pub frame_line_word-requires : goal.frame_line_word-requires
frame_line_word-requires c =
    let x = c.args in
    (length-frame x.image.now x.z x.f (omega arith) (omega arith) c.frame.ensures, search rules, search rules)

pub returns : goal.returns
returns c =
    let x = c.args in
    c.frame_line_word.ensures
    ∙ frame-word x.image.now x.z x.f (omega arith) (omega arith) c.frame.ensures x.l x.k (omega arith) (omega arith)
