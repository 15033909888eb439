-- With the fixed moduli an event is that of request L2: row 26 does not apply, and each modulus that it reads is the table's.
use Prim.Native.Nat.{ℕ, ◌<◌}
use mathlib.Core.Bool.{Bool, true, false, cond}
use mathlib.Core.List.{List}
use mathlib.Core.Path.{◌≡◌, refl, ap, ◌∙◌}
use native.Mathlib.Omega.{arith}
use lib.Dec.{ltb}
use lib.ListN.{length, replicate}
use Rattle.bounded.specs.Rows.{refusal}
use Rattle.bounded.proofs.Tests.{case_on}
use Rattle.layout.specs.Layout.{image_length}
use Rattle.meters.specs.Meters.{modulus_of, fixed_modulus, fixed_moduli, event_known, moves_credit, first_meter, own_meter, event_needs, rolled, first_number, credit_bad, amount_bad}
use Rattle.meters.proofs.MeterLaws.{fixed-ok, fixed-modulus, of-count, own_range}
use Rattle.state.specs.State.{State}
use Rattle.state.specs.declared.Op.TheVariants.{Event}
use Rattle.state.specs.Wide.{some_wide}
use Rattle.operations.specs.Operations.{is_idle}
use Rattle.validity.specs.Validity.{state_ok}
use Rattle.refinement.specs.Outcome.{answered}
use Rattle.refinement.specs.Settled.{with_lines}
use Rattle.refinement.specs.Calls.{meter_in, meter_line, event_line, event_second, event_call_rows, event_of}
use Rattle.refinement.specs.FixedEvent.{fixed_rolled, fixed_first, fixed_amount_bad, fixed_event_rows, fixed_line, fixed_second, fixed_event_of, EventAsFixed}

credit-modulus : modulus_of fixed_moduli 0 ≡ 100000000
unfolding fixed_modulus
credit-modulus = fixed-modulus 0 (omega arith)

module _ (st : State) (img : List ℕ) (k m a : ℕ) where
  -- a known event
  module _ (known : event_known k m ≡ true) where
    own-modulus : modulus_of fixed_moduli (own_meter k m) ≡ fixed_modulus (own_meter k m)
    own-modulus = fixed-modulus (own_meter k m) (own_range k m known).1

    amount-same : (x : ℕ) → amount_bad fixed_moduli k m x a ≡ fixed_amount_bad k m x a
    unfolding amount_bad credit_bad
    amount-same x = rw (own-modulus, credit-modulus)

    first-same : (x : ℕ) → first_number fixed_moduli k m x a ≡ fixed_first k m x a
    first-same x = case_on (moves_credit k) (λ t. rw t) (λ t. let l : m < 24 = omega (arith, (of-count k m known t).most) in rw (t, fixed-modulus m l))

    rows_same : refusal (event_call_rows st img fixed_moduli k m a) ≡ refusal (fixed_event_rows st img k m a)
    rows_same = rw (fixed-ok, amount-same (meter_in st img (first_meter k m)))

    line_same : event_line st img fixed_moduli k m a ≡ fixed_line st img k m a
    line_same = ap (meter_line st img (first_meter k m)) (first-same (meter_in st img (first_meter k m)))

    second-same : event_second st img fixed_moduli k m a ≡ fixed_second st img k m a
    second-same = rw own-modulus

    known_same : event_of st img fixed_moduli k m a ≡ fixed_event_of st img k m a
    unfolding event_of
    known_same = λ i. answered (rows_same i) st (event_needs k) (with_lines st (Event k m a) (line_same i) (second-same i))

  -- any other is turned back by 20, or by a row before it
  unknown-same : event_known k m ≡ false → event_of st img fixed_moduli k m a ≡ fixed_event_of st img k m a
  unfolding event_of
  unknown-same u =
      case_on (state_ok st)
      (λ s.
      case_on (ltb (length img) (image_length st.sizes))
      (λ l. rw (s, l))
      (λ l.
      case_on (is_idle st.pending.op)
      (λ p. case_on (some_wide st.wide.writer) (λ w. rw (s, l, p, w)) (λ w. rw (s, l, p, w, u)))
      (λ p. rw (s, l, p))))
      (λ s. rw s)

pub event-as-fixed : EventAsFixed
event-as-fixed st img k m a = case_on (event_known k m) (known_same st img k m a) (unknown-same st img k m a)
