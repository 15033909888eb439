use native.Mathlib.Omega.{arith}
use Prim.Native.Nat.{◌≤◌}
use borrow.Author.Rules.{rules}
use Rattle.number_text.proofs.Puts.{put_then}
use Rattle.wording.specs.Words.{codes}
use Rattle.wording.proofs.Wording.{name-fits}
use Rattle.reasons.specs.Sentence.{opening}
use Rattle.reasons.proofs.Lengths.{two_digits}
use Rattle.reasons.proofs.put_opening.Goals as goal

-- The five parts one after the other; each ends where the longest would.
pub put_text-next-requires : goal.put_text-next-requires
put_text-next-requires c = omega (arith, c.put_name-next.ensures.place, (name-fits c.args.call).short)

pub put_decimal-next-requires : goal.put_decimal-next-requires
put_decimal-next-requires c =
    let named : c.put_name-next.result ≤ 11 = omega (arith, c.put_name-next.ensures.place, (name-fits c.args.call).short) in
    omega (arith, named, c.put_text-next.ensures.place)

pub put_text-next-requires-2 : goal.put_text-next-requires-2
put_text-next-requires-2 c =
    let named : c.put_name-next.result ≤ 11 = omega (arith, c.put_name-next.ensures.place, (name-fits c.args.call).short) in
    let refused : c.put_text-next.result ≤ 21 = omega (arith, named, c.put_text-next.ensures.place) in
    omega (arith, refused, c.put_decimal-next.ensures.value, two_digits c.args.number (omega arith))

pub put_reason-requires : goal.put_reason-requires
put_reason-requires c =
    let named : c.put_name-next.result ≤ 11 = omega (arith, c.put_name-next.ensures.place, (name-fits c.args.call).short) in
    let refused : c.put_text-next.result ≤ 21 = omega (arith, named, c.put_text-next.ensures.place) in
    let numbered : c.put_decimal-next.result ≤ 23 = omega (arith, refused, c.put_decimal-next.ensures.value, two_digits c.args.number (omega arith)) in
    (search rules, omega (arith, numbered, c.put_text-next-2.ensures.place))

pub returns : goal.returns
unfolding opening codes
returns c =
    let named : c.put_name-next.result ≤ 11 = omega (arith, c.put_name-next.ensures.place, (name-fits c.args.call).short) in
    let refused : c.put_text-next.result ≤ 21 = omega (arith, named, c.put_text-next.ensures.place) in
    let numbered : c.put_decimal-next.result ≤ 23 = omega (arith, refused, c.put_decimal-next.ensures.value, two_digits c.args.number (omega arith)) in
    let closed : c.put_text-next-2.result ≤ 26 = omega (arith, numbered, c.put_text-next-2.ensures.place) in
    put_then c.put_name-next.ensures
    (put_then c.put_text-next.ensures
    (put_then (record { laid = c.put_decimal-next.ensures.target_after; place = c.put_decimal-next.ensures.value })
    (put_then c.put_text-next-2.ensures c.put_reason.ensures (omega (arith, closed)))
    (omega (arith, numbered)))
    (omega (arith, refused)))
    (omega (arith, named))
