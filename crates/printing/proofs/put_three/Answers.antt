use native.Mathlib.Omega.{arith}
use Rattle.number_text.proofs.Puts.{put_then}
use Rattle.printing.proofs.put_three.Goals as goal

pub put_byte-next-requires-2 : goal.put_byte-next-requires-2
put_byte-next-requires-2 c =
    let first = c.put_byte-next in
    omega arith

pub put_byte-requires : goal.put_byte-requires
put_byte-requires c =
    let first = c.put_byte-next in
    let second = c.put_byte-next-2 in
    omega arith

pub returns : goal.returns
returns c =
    let first = c.put_byte-next in
    let second = c.put_byte-next-2 in
    let third = c.put_byte in
    put_then (record { laid = first.ensures.target_after; place = first.ensures.value })
    (put_then (record { laid = second.ensures.target_after; place = second.ensures.value })
    (record { laid = third.ensures.target_after; place = third.ensures.value })
    (omega arith))
    (omega arith)
