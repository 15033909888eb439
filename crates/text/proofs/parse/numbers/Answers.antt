use mathlib.Core.Path.{refl, sym, ◌∙◌}
use mathlib.Core.List.{[]}
use Prim.Native.Nat.{◌+◌}
use native.Mathlib.Omega.{arith}
use lib.ListN.{get_or, drop, length-set}
use Rattle.bounded.proofs.Tests.{held}
use Rattle.text.specs.Fields.{fields}
use Rattle.text.proofs.Reading.{State, going, going_start, going-comma, going-full, going_end, going-digit, going-bad}
use Rattle.text.proofs.Reading.{at-comma, at_byte, at-end, some-fields, Digit, digit, closes-room}
use mathlib.Core.Path.{ap}
use mathlib.Core.Bool.{not}
use Rattle.text.proofs.parse.numbers.Goals as goal

-- ---- the needs
pub loop-b-init : goal.loop-b-init
loop-b-init c =
    let x = c.args in (
      record { short = omega arith; small = omega arith; sized = refl },
      going_start x.digits x.letter (fields x.text.now) (some-fields x.text.now),
    )

pub returns-then-not-closes_field : goal.returns-then-not-closes_field
returns-then-not-closes_field c =
    let s : State = record { digits = c.args.digits; letter = c.args.letter; numbers = c.loop-b.numbers; count = c.loop-b.count; n = c.loop-b.n; v = c.loop-b.v } in
    c.other_form.ensures
    ∙ sym
    (c.loop-b.invariant.1
    ∙ ap (going s) (at-comma c.args.text.now c.loop-b.b-index c.loop-b-test.true c.if-b-eq44.true)
    ∙ going-full s (fields (drop (c.loop-b.b-index + 1) c.args.text.now)) (sym c.closes_field.ensures ∙ c.if-not-closes_field.true))

pub offset_bounds-numbers-count : goal.offset_bounds-numbers-count
offset_bounds-numbers-count c = omega (arith, closes-room c.loop-b.n c.loop-b.count (held _ _ c.closes_field.ensures (ap not c.if-not-closes_field.false)))

pub bounds-numbers-count : goal.bounds-numbers-count
bounds-numbers-count c = closes-room c.loop-b.n c.loop-b.count (held _ _ c.closes_field.ensures (ap not c.if-not-closes_field.false))

pub overflow_add-count : goal.overflow_add-count
overflow_add-count c = omega (arith, closes-room c.loop-b.n c.loop-b.count (held _ _ c.closes_field.ensures (ap not c.if-not-closes_field.false)))

pub loop-b-preserved-then-b-eq44 : goal.loop-b-preserved-then-b-eq44
loop-b-preserved-then-b-eq44 c =
    let s : State = record { digits = c.args.digits; letter = c.args.letter; numbers = c.loop-b.numbers; count = c.loop-b.count; n = c.loop-b.n; v = c.loop-b.v } in
    let a = c.loop-b.invariant in (
      record { short = omega arith; small = omega arith; sized = length-set s.numbers s.count s.v ∙ a.0.sized },
      a.1
          ∙ ap (going s) (at-comma c.args.text.now c.loop-b.b-index c.loop-b-test.true c.if-b-eq44.true)
          ∙ going-comma s a.0 (held _ _ c.closes_field.ensures (ap not c.if-not-closes_field.false)) (fields (drop (c.loop-b.b-index + 1) c.args.text.now)) (some-fields (drop (c.loop-b.b-index + 1) c.args.text.now)),
    )

pub returns-then-not-takes_digit : goal.returns-then-not-takes_digit
returns-then-not-takes_digit c =
    let s : State = record { digits = c.args.digits; letter = c.args.letter; numbers = c.loop-b.numbers; count = c.loop-b.count; n = c.loop-b.n; v = c.loop-b.v } in
    let t = sym c.takes_digit.ensures ∙ c.if-not-takes_digit.true in
    c.other_form-then-not-takes_digit.ensures
    ∙ sym
    (c.loop-b.invariant.1
    ∙ ap (going s) (at_byte c.args.text.now c.loop-b.b-index c.loop-b-test.true c.if-b-eq44.false)
    ∙ going-bad s (get_or c.args.text.now c.loop-b.b-index 0) (fields (drop (c.loop-b.b-index + 1) c.args.text.now)) (some-fields (drop (c.loop-b.b-index + 1) c.args.text.now)) t)

pub overflow_mul-v : goal.overflow_mul-v
overflow_mul-v c = omega (arith, (digit _ _ _ _ (held _ _ c.takes_digit.ensures (ap not c.if-not-takes_digit.false))).small)

pub overflow_sub-v : goal.overflow_sub-v
overflow_sub-v c = omega (arith, (digit _ _ _ _ (held _ _ c.takes_digit.ensures (ap not c.if-not-takes_digit.false))).low)

pub overflow_cast-v : goal.overflow_cast-v
overflow_cast-v c = omega (arith, c.type_inv.text c.loop-b.b-index)

pub overflow_add-v : goal.overflow_add-v
overflow_add-v c = omega (arith, (digit _ _ _ _ (held _ _ c.takes_digit.ensures (ap not c.if-not-takes_digit.false))).small)

pub overflow_add-n : goal.overflow_add-n
overflow_add-n c = omega (arith, (digit _ _ _ _ (held _ _ c.takes_digit.ensures (ap not c.if-not-takes_digit.false))).fewer)

pub loop-b-preserved : goal.loop-b-preserved
loop-b-preserved c =
    let s : State = record { digits = c.args.digits; letter = c.args.letter; numbers = c.loop-b.numbers; count = c.loop-b.count; n = c.loop-b.n; v = c.loop-b.v } in
    let a = c.loop-b.invariant in
    let d : Digit s.digits s.n s.v (get_or c.args.text.now c.loop-b.b-index 0) = digit _ _ _ _ (held _ _ c.takes_digit.ensures (ap not c.if-not-takes_digit.false)) in (
      record { short = omega (arith, d.fewer); small = d.small; sized = a.0.sized },
      a.1
          ∙ ap (going s) (at_byte c.args.text.now c.loop-b.b-index c.loop-b-test.true c.if-b-eq44.false)
          ∙ going-digit s (get_or c.args.text.now c.loop-b.b-index 0) (fields (drop (c.loop-b.b-index + 1) c.args.text.now)) (some-fields (drop (c.loop-b.b-index + 1) c.args.text.now)) (held _ _ c.takes_digit.ensures (ap not c.if-not-takes_digit.false)),
    )

-- ---- after the loop no byte is left
pub returns-then-not-closes_field-2 : goal.returns-then-not-closes_field-2
returns-then-not-closes_field-2 c =
    let s : State = record { digits = c.args.digits; letter = c.args.letter; numbers = c.loop-b.numbers; count = c.loop-b.count; n = c.loop-b.n; v = c.loop-b.v } in
    c.other_form-then-not-closes_field-2.ensures
    ∙ sym
    (c.loop-b.invariant.1 ∙ ap (going s) (at-end c.args.text.now c.loop-b.b-index c.loop-b-test.false)
    ∙ going-full s [] (sym c.closes_field-2.ensures ∙ c.if-not-closes_field-2.true))

pub offset_bounds-numbers-count-2 : goal.offset_bounds-numbers-count-2
offset_bounds-numbers-count-2 c = omega (arith, closes-room c.loop-b.n c.loop-b.count (held _ _ c.closes_field-2.ensures (ap not c.if-not-closes_field-2.false)))

pub bounds-numbers-count-2 : goal.bounds-numbers-count-2
bounds-numbers-count-2 c = closes-room c.loop-b.n c.loop-b.count (held _ _ c.closes_field-2.ensures (ap not c.if-not-closes_field-2.false))

pub overflow_add-result : goal.overflow_add-result
overflow_add-result c = omega (arith, closes-room c.loop-b.n c.loop-b.count (held _ _ c.closes_field-2.ensures (ap not c.if-not-closes_field-2.false)))

pub returns : goal.returns
returns c =
    let s : State = record { digits = c.args.digits; letter = c.args.letter; numbers = c.loop-b.numbers; count = c.loop-b.count; n = c.loop-b.n; v = c.loop-b.v } in
    sym (c.loop-b.invariant.1 ∙ ap (going s) (at-end c.args.text.now c.loop-b.b-index c.loop-b-test.false) ∙ going_end s c.loop-b.invariant.0 (held _ _ c.closes_field-2.ensures (ap not c.if-not-closes_field-2.false)))
