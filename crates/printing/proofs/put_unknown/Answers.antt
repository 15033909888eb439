use native.Mathlib.Omega.{arith}
use Rattle.decimals.specs.Decimal.{digits_of}
use Rattle.number_text.proofs.Puts.{put_then}
use Rattle.printing.proofs.put_unknown.Goals as goal

pub put_three-next-requires-2 : goal.put_three-next-requires-2
put_three-next-requires-2 c =
    let call = c.put_three-next in
    omega arith

pub put_three-requires : goal.put_three-requires
put_three-requires c =
    let call = c.put_three-next in
    let answer = c.put_three-next-2 in
    omega arith

pub returns : goal.returns
unfolding digits_of
returns c =
    let call = c.put_three-next in
    let answer = c.put_three-next-2 in
    let dash = c.put_three in
    put_then call.ensures
    (put_then answer.ensures
    dash.ensures
    (omega arith))
    (omega arith)
