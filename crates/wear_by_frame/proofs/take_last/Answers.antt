use mathlib.Core.Path.{sym}
use native.Mathlib.Omega.{arith}
use lib.Seq.{length-take-le}
use Rattle.wear_by_frame.proofs.Going.{closes-none, closes-some}
use Rattle.wear_by_frame.proofs.take_last.Goals as goal

pub returns-then-kept-eq0 : goal.returns-then-kept-eq0
returns-then-kept-eq0 c = closes-none c.requires.counts_len.1 c.if-kept-eq0.true

pub slice_bounds-take_line-end : goal.slice_bounds-take_line-end
slice_bounds-take_line-end c =
    sym (length-take-le c.args.s.kept c.args.line.now (omega (arith, c.requires.sound.fits, c.requires.counts_len.1)))

pub returns : goal.returns
returns c =
    let made = c.take_line in
    closes-some c.requires.counts_len.1 c.if-kept-eq0.false made.result _ _ _ made.ensures
