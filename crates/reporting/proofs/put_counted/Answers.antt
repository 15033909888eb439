use native.Mathlib.Omega.{arith}
use Rattle.decimals.proofs.Printing.{decimal-le}
use Rattle.number_text.proofs.Puts.{put_then}
use Rattle.printing.proofs.Puts.{as-put}
use Rattle.reporting.proofs.Texts.{start-text}
use Rattle.reporting.proofs.put_counted.Goals as goal

pub put_after-next-requires : goal.put_after-next-requires
put_after-next-requires c =
    let start = c.put_start-next in
    let e = start-text c.args.n c.args.letter c.args.count in
    omega arith

pub put_byte-requires : goal.put_byte-requires
put_byte-requires c =
    let start = c.put_start-next in
    let last = c.put_after-next in
    let e = start-text c.args.n c.args.letter c.args.count in
    let d = decimal-le c.args.last in
    omega arith

pub returns : goal.returns
returns c =
    let start = c.put_start-next in
    let last = c.put_after-next in
    let end = c.put_byte in
    let e = start-text c.args.n c.args.letter c.args.count in
    let d = decimal-le c.args.last in
    put_then start.ensures (put_then last.ensures (as-put (end.ensures.target_after, end.ensures.value)) (omega arith)) (omega arith)
