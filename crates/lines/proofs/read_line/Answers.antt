use mathlib.Core.Path.{◌≡◌, ap}
use native.Mathlib.Omega.{arith}
use lib.ListN.{length}
use Rattle.words.specs.Words.{over}
use Rattle.image.proofs.LineLaws.{length-frame, frame-line}
use borrow.Author.Rules.{rules}
use Rattle.lines.proofs.read_line.Goals as goal

-- The words of the line are a part of the frame's part.
pub copy_words-requires : goal.copy_words-requires
copy_words-requires c =
    let x = c.args in
    let n : length c.frame.result.now ≡ 4096 = length-frame x.image.now x.z x.f (omega arith) (omega arith) c.frame.ensures in
    (omega arith, search rules)

pub returns : goal.returns
returns c =
    let x = c.args in
    let e = frame-line x.image.now x.z x.f (omega arith) (omega arith) c.frame.ensures x.l (omega arith) in
    rw c.copy_words.ensures (ap (over x.target.now 0) e)
