use native.Mathlib.Omega.{arith}
use Rattle.decimals.proofs.Printing.{decimal-le}
use Rattle.number_text.proofs.Puts.{put_then}
use Rattle.sequence_lines.proofs.put_marked.Goals as goal

pub put_byte-requires : goal.put_byte-requires
put_byte-requires c =
    let digits = c.put_decimal-next in
    let few = decimal-le c.args.v in
    omega arith

pub returns : goal.returns
returns c =
    let digits = c.put_decimal-next in
    let mark = c.put_byte in
    put_then (record { laid = digits.ensures.target_after; place = digits.ensures.value })
    (record { laid = mark.ensures.target_after; place = mark.ensures.value })
    (omega (arith, c.requires, digits.ensures.value, decimal-le c.args.v))
