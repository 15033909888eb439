use native.Mathlib.Omega.{arith}
use Rattle.decimals.proofs.Printing.{decimal-le}
use Rattle.number_text.proofs.Puts.{put_then}
use Rattle.printing.proofs.Puts.{as-put}
use Rattle.reporting.proofs.put_start.Goals as goal

pub put_byte-next-requires : goal.put_byte-next-requires
put_byte-next-requires c =
    let number = c.put_decimal-next in
    let d = decimal-le c.args.n in
    omega arith

pub put_byte-next-requires-2 : goal.put_byte-next-requires-2
put_byte-next-requires-2 c =
    let number = c.put_decimal-next in
    let comma = c.put_byte-next in
    let d = decimal-le c.args.n in
    omega arith

pub put_after-next-requires : goal.put_after-next-requires
put_after-next-requires c =
    let number = c.put_decimal-next in
    let comma = c.put_byte-next in
    let call = c.put_byte-next-2 in
    let d = decimal-le c.args.n in
    omega arith

pub put_after-requires : goal.put_after-requires
put_after-requires c =
    let number = c.put_decimal-next in
    let comma = c.put_byte-next in
    let call = c.put_byte-next-2 in
    let answer = c.put_after-next in
    let d = decimal-le c.args.n in
    let z = decimal-le 0 in
    omega arith

pub returns : goal.returns
returns c =
    let number = c.put_decimal-next in
    let comma = c.put_byte-next in
    let call = c.put_byte-next-2 in
    let answer = c.put_after-next in
    let count = c.put_after in
    let d = decimal-le c.args.n in
    let z = decimal-le 0 in
    let k = decimal-le c.args.count in
    put_then (as-put (number.ensures.target_after, number.ensures.value))
    (put_then (as-put (comma.ensures.target_after, comma.ensures.value))
    (put_then (as-put (call.ensures.target_after, call.ensures.value))
    (put_then answer.ensures count.ensures (omega arith))
    (omega arith))
    (omega arith))
    (omega arith)
