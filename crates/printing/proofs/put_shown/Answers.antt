use native.Mathlib.Omega.{arith}
use Rattle.decimals.specs.Decimal.{digits_of}
use Rattle.decimals.proofs.Printing.{decimal-le}
use Rattle.number_text.proofs.Puts.{put_then}
use Rattle.printing.proofs.put_shown.Goals as goal

pub put_three-next-requires-2 : goal.put_three-next-requires-2
put_three-next-requires-2 c =
    let call = c.put_three-next in
    omega arith

pub put_after-next-requires : goal.put_after-next-requires
put_after-next-requires c =
    let call = c.put_three-next in
    let none = c.put_three-next-2 in
    omega arith

pub put_byte-requires : goal.put_byte-requires
put_byte-requires c =
    let call = c.put_three-next in
    let none = c.put_three-next-2 in
    let byte = c.put_after-next in
    let byte_le = decimal-le c.args.byte in
    omega arith

pub returns : goal.returns
unfolding digits_of
returns c =
    let call = c.put_three-next in
    let none = c.put_three-next-2 in
    let byte = c.put_after-next in
    let end = c.put_byte in
    let byte_le = decimal-le c.args.byte in
    put_then call.ensures
    (put_then none.ensures
    (put_then byte.ensures
    (record { laid = end.ensures.target_after; place = end.ensures.value })
    (omega arith))
    (omega arith))
    (omega arith)
