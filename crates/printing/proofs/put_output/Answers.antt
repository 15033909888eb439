use native.Mathlib.Omega.{arith}
use Rattle.decimals.proofs.Printing.{decimal-le}
use Rattle.number_text.proofs.Puts.{put_then}
use Rattle.printing.specs.Output.{output_line}
use Rattle.printing.proofs.put_output.Goals as goal

pub put_fields-requires : goal.put_fields-requires
put_fields-requires c =
    let number = c.put_decimal-next in
    let number-le = decimal-le c.args.n in
    omega arith

pub returns : goal.returns
unfolding output_line
returns c =
    let number = c.put_decimal-next in
    let fields = c.put_fields in
    let number-le = decimal-le c.args.n in
    put_then (record { laid = number.ensures.target_after; place = number.ensures.value })
    fields.ensures
    (omega arith)
