use native.Mathlib.Omega.{arith}
use Rattle.decimals.proofs.Printing.{decimal-le}
use Rattle.number_text.proofs.Puts.{put_then}
use Rattle.wear_lines.proofs.output.put_line.Goals as goal

pub put_byte-requires : goal.put_byte-requires
put_byte-requires c =
    let one = c.put_decimal-next in
    let few = decimal-le c.args.v in
    omega arith

pub returns : goal.returns
returns c =
    let two = c.put_byte in
    let one = c.put_decimal-next in
    let few = decimal-le c.args.v in
    put_then (record { laid = one.ensures.target_after; place = one.ensures.value }) (record { laid = two.ensures.target_after; place = two.ensures.value }) (omega arith)
