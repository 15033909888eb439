use native.Mathlib.Omega.{arith}
use Rattle.decimals.proofs.Printing.{decimal-le}
use Rattle.number_text.proofs.Puts.{put_then}
use Rattle.printing.proofs.put_answered.Goals as goal

pub put_decimal-next-requires : goal.put_decimal-next-requires
put_decimal-next-requires c =
    let call = c.put_three-next in
    omega arith

pub put_after-next-requires : goal.put_after-next-requires
put_after-next-requires c =
    let call = c.put_three-next in
    let answer = c.put_decimal-next in
    let answer_le = decimal-le c.args.number in
    omega arith

pub put_three-requires : goal.put_three-requires
put_three-requires c =
    let call = c.put_three-next in
    let answer = c.put_decimal-next in
    let stores = c.put_after-next in
    let answer_le = decimal-le c.args.number in
    let stores-le = decimal-le c.args.stores in
    omega arith

pub returns : goal.returns
returns c =
    let call = c.put_three-next in
    let answer = c.put_decimal-next in
    let stores = c.put_after-next in
    let dash = c.put_three in
    let answer_le = decimal-le c.args.number in
    let stores-le = decimal-le c.args.stores in
    put_then call.ensures
    (put_then (record { laid = answer.ensures.target_after; place = answer.ensures.value })
    (put_then stores.ensures
    dash.ensures
    (omega arith))
    (omega arith))
    (omega arith)
