use mathlib.Core.Path.{◌≡◌}
use native.Mathlib.Omega.{arith}
use lib.ListN.{length}
use Rattle.image.proofs.LineLaws.{length-frame, frame-line}
use borrow.Author.Rules.{rules}
use Rattle.lines.proofs.merged_line.Goals as goal

-- The line is a part of the frame's part.
pub merged_at-requires : goal.merged_at-requires
merged_at-requires c =
    let x = c.args in
    let n : length c.frame.result.now ≡ 4096 = length-frame x.image.now x.z x.f (omega arith) (omega arith) c.frame.ensures in
    (omega arith, search rules, search rules)

pub returns : goal.returns
returns c =
    let x = c.args in
    let e = frame-line x.image.now x.z x.f (omega arith) (omega arith) c.frame.ensures x.l (omega arith) in
    rw (← e) c.merged_at.ensures
