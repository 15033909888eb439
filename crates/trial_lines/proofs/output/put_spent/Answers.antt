use native.Mathlib.Omega.{arith}
use Rattle.decimals.proofs.Printing.{decimal-le}
use Rattle.number_text.proofs.Puts.{put_then}
use Rattle.trial_lines.proofs.output.put_spent.Goals as goal

pub put_after-next-requires-2 : goal.put_after-next-requires-2
put_after-next-requires-2 c =
    let one = c.put_after-next in
    let few = decimal-le c.args.s.written in
    omega arith

pub put_after-next-requires-3 : goal.put_after-next-requires-3
put_after-next-requires-3 c =
    let one = c.put_after-next in
    let two = c.put_after-next-2 in
    let few = decimal-le c.args.s.written in
    let more = decimal-le c.args.s.journal in
    omega arith

pub put_after-requires : goal.put_after-requires
put_after-requires c =
    let one = c.put_after-next in
    let two = c.put_after-next-2 in
    let three = c.put_after-next-3 in
    let few = decimal-le c.args.s.written in
    let more = decimal-le c.args.s.journal in
    let most = decimal-le c.args.s.copies in
    omega arith

pub returns : goal.returns
returns c =
    let one = c.put_after-next in
    let two = c.put_after-next-2 in
    let three = c.put_after-next-3 in
    let four = c.put_after in
    let few = decimal-le c.args.s.written in
    let more = decimal-le c.args.s.journal in
    let most = decimal-le c.args.s.copies in
    put_then one.ensures (put_then two.ensures (put_then three.ensures four.ensures (omega arith)) (omega arith)) (omega arith)
