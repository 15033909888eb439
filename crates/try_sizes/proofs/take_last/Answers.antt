use mathlib.Core.Path.{sym}
use native.Mathlib.Omega.{arith}
use lib.Seq.{length-take-le}
use Rattle.try_sizes.proofs.Going.{closes-none, closes-some}
use Rattle.try_sizes.proofs.take_last.Goals as goal

pub returns-then-kept-le2 : goal.returns-then-kept-le2
returns-then-kept-le2 c = closes-none c.requires.line_len c.if-kept-le2.true

pub slice_bounds-take_line-end : goal.slice_bounds-take_line-end
slice_bounds-take_line-end c =
    sym (length-take-le c.args.s.kept c.args.line.now (omega (arith, c.requires.kept_bound, c.requires.line_len)))

pub returns : goal.returns
returns c =
    let made = c.take_line in
    let size = c.requires.line_len in
    closes-some size c.if-kept-le2.false made.result _ _ made.ensures
