use native.Mathlib.Omega.{arith}
use Rattle.number_text.proofs.Puts.{put-none, put_then}
use Rattle.reasons.specs.Sentence.{field}
use Rattle.reasons.proofs.put_field.Goals as goal

pub returns-then-not-has : goal.returns-then-not-has
unfolding field
returns-then-not-has c =
    let x = c.args in
    rw c.if-not-has.true (put-none x.out.now x.at)

pub returns : goal.returns
unfolding field
returns c =
    let x = c.args in
    rw c.if-not-has.false (put_then c.put_text-next.ensures (record { laid = c.put_decimal.ensures.target_after; place = c.put_decimal.ensures.value }) (omega arith))
