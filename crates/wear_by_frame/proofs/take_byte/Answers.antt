use mathlib.Core.Path.{sym}
use native.Mathlib.Omega.{arith}
use lib.Seq.{length-take-le}
use Rattle.wear_by_frame.proofs.Going.{takes-newline, takes-full, takes-byte}
use Rattle.wear_by_frame.proofs.take_byte.Goals as goal

pub slice_bounds-take_line-end-then-b-eq10 : goal.slice_bounds-take_line-end-then-b-eq10
slice_bounds-take_line-end-then-b-eq10 c =
    sym (length-take-le c.args.s.kept c.args.line.now (omega (arith, c.requires.sound.fits, c.requires.counts_len.1)))

pub returns-then-b-eq10 : goal.returns-then-b-eq10
returns-then-b-eq10 c =
    let made = c.take_line-next in
    takes-newline c.requires.counts_len.1 c.args.b c.if-b-eq10.true made.result _ _ _ made.ensures

pub returns-then-kept-ge1024 : goal.returns-then-kept-ge1024
returns-then-kept-ge1024 c = takes-full c.requires.counts_len.1 c.args.b c.if-b-eq10.false c.if-kept-ge1024.true c.requires.sound

pub returns : goal.returns
returns c = takes-byte c.requires.counts_len.1 c.args.b c.if-b-eq10.false c.if-kept-ge1024.false c.requires.sound
