use native.Mathlib.Omega.{arith}
use Rattle.number_text.proofs.Puts.{put_then}
use Rattle.number_text.proofs.put_after.Goals as goal

pub returns : goal.returns
returns c =
    let mark = c.put_byte-next in
    let digits = c.put_decimal in
    put_then (record { laid = mark.ensures.target_after; place = mark.ensures.value })
    (record { laid = digits.ensures.target_after; place = digits.ensures.value })
    (omega arith)
