use mathlib.Core.Path.{sym}
use native.Mathlib.Omega.{arith}
use lib.Seq.{length-take-le}
use Rattle.number_text.proofs.Puts.{each_none, each_at, each_turn, each-end}
use Rattle.state_text.proofs.Lengths.{held-short}
use Rattle.state_text.proofs.Rows.{row-part}
use Rattle.state_text.specs.Numbers.{held_numbers}
use Rattle.state_words.specs.Decoded.{decoded}
use Rattle.state_text.proofs.put_held.Goals as goal

pub loop-w-init : goal.loop-w-init
loop-w-init c = let a = c.args in each_none a.out.now a.at (held_numbers (decoded a.words.now).writers.held a.n)

pub slice_bounds-row-end : goal.slice_bounds-row-end
slice_bounds-row-end c = omega (arith, c.requires.0)

pub slice_bounds-put_numbers-end : goal.slice_bounds-put_numbers-end
slice_bounds-put_numbers-end c = sym (length-take-le _ _ (omega (arith, c.held_by-row.ensures.long, c.requires.0)))

pub put_numbers-next-requires : goal.put_numbers-next-requires
put_numbers-next-requires c =
    let l = c.loop-w in
    let row = c.held_by-row in
    let held = (decoded c.args.words.now).writers.held in
    let k = length-take-le c.args.n row.result (omega (arith, row.ensures.long, c.requires.0)) in
    let here = each_at (held_numbers held c.args.n) l.w l.invariant 16 (held-short held c.args.n c.requires.0) in
    omega (arith, here, k, l.auto.out, c.requires.0, c.requires.1, c.loop-w-test.true)

pub loop-w-preserved : goal.loop-w-preserved
loop-w-preserved c =
    let l = c.loop-w in
    let row = c.held_by-row in
    let held = (decoded c.args.words.now).writers.held in
    let f = held_numbers held c.args.n in
    let here = each_at f l.w l.invariant 16 (held-short held c.args.n c.requires.0) in
    let same = row-part held row.result l.w c.args.n c.requires.0 row.ensures.row in
    each_turn f l.w l.invariant (rw same at c.put_numbers-next.ensures) (omega (arith, here, c.requires.1, c.loop-w-test.true))

pub returns : goal.returns
returns c =
    let l = c.loop-w in
    each-end (held_numbers (decoded c.args.words.now).writers.held c.args.n) l.w l.invariant 4 l.auto.w-end c.loop-w-test.false
