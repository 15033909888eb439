use native.Mathlib.Omega.{arith}
use Rattle.decimals.proofs.Printing.{decimal-le}
use Rattle.number_text.proofs.Puts.{put_then}
use Rattle.trial_lines.proofs.Taken.{length-spent}
use Rattle.trial_lines.proofs.output.put_counts.Goals as goal

pub put_after-next-requires : goal.put_after-next-requires
put_after-next-requires c =
    let one = c.put_decimal-next in
    let few = decimal-le c.args.t.done in
    omega arith

pub put_spent-next-requires : goal.put_spent-next-requires
put_spent-next-requires c =
    let one = c.put_decimal-next in
    let two = c.put_after-next in
    let few = decimal-le c.args.t.done in
    let more = decimal-le c.args.t.abandoned in
    omega arith

pub put_byte-requires : goal.put_byte-requires
put_byte-requires c =
    let one = c.put_decimal-next in
    let two = c.put_after-next in
    let three = c.put_spent-next in
    let few = decimal-le c.args.t.done in
    let more = decimal-le c.args.t.abandoned in
    let most = length-spent c.args.t.spent in
    omega arith

pub returns : goal.returns
returns c =
    let one = c.put_decimal-next in
    let two = c.put_after-next in
    let three = c.put_spent-next in
    let four = c.put_byte in
    let few = decimal-le c.args.t.done in
    let more = decimal-le c.args.t.abandoned in
    let most = length-spent c.args.t.spent in
    record {
      text = λ words img.
          put_then (record { laid = one.ensures.target_after; place = one.ensures.value })
          (put_then two.ensures
          (put_then three.ensures (record { laid = four.ensures.target_after; place = four.ensures.value }) (omega arith)) (omega arith)) (omega arith);
    }
