-- What a refused call met can be composed, and so reads back as it is (`reads-back` of reason_reading).
use mathlib.Core.Path.{◌≡◌}
use mathlib.Core.Bool.{Bool, true, false, cond, ◌&&◌}
use Prim.Native.Nat.{ℕ, ◌^◌, ◌<◌, ◌≤◌}
use native.Mathlib.Omega.{arith}
use lib.Dec.{eqb, ltb, leb}
use Rattle.bounded.proofs.Below.{first-le}
use Rattle.bounded.proofs.Tests.{or_left, or_right, row_keeps}
use Rattle.state.specs.State.{State}
use Rattle.meters.specs.Meters.{first_meter, own_meter}
use Rattle.wording.specs.Calls.{event, can_return, takes_writer, takes_page, takes_line, meets_writer, one_of, one_more}
use Rattle.reason_reading.specs.Reading.{Composable}
use Rattle.refusals.specs.Met.{holds_line, holds_slot, slot_met, line_holder, page_holder, event_holder, holder_met, reason_met}

none : (has : Bool) (v : ℕ) → has ≡ false → cond has v 0 ≡ 0
none has v e = rw e

fits : (has : Bool) (v : ℕ) → v < 2 ^ 64 → cond has v 0 < 2 ^ 64
fits true v h = h
fits false v h = omega arith

at_most : (b : Bool) (v : ℕ) → v ≤ 4 → cond b v 4 ≤ 4
at_most true v h = h
at_most false v h = omega arith

line-le : (st : State) (w p l : ℕ) → line_holder st w p l ≤ 4
unfolding line_holder
line-le st w p l =
    let s = slot_met st.sizes st.table.page p in
    at_most (ltb s 16 && leb l 63) _ (first-le (holds_line st.writers.held w s l) 4)

event-le : (st : State) (k m : ℕ) → event_holder st k m ≤ 4
unfolding event_holder
event-le st k m = omega (arith, line-le st 1 0 (first_meter k m), line-le st 1 0 (own_meter k m))

module _ (st : State) (c n w p l k m : ℕ) where
  holder-le : holder_met st c n w p l k m ≤ 4
  unfolding holder_met page_holder
  holder-le =
      let s = slot_met st.sizes st.table.page p in
      row_keeps (λ (v : ℕ). v ≤ 4) (eqb n 14) _ _
      (row_keeps (λ (v : ℕ). v ≤ 4) (eqb c event) _ _ (event-le st k m) (line-le st w p l))
      (row_keeps (λ (v : ℕ). v ≤ 4) (eqb n 18) _ 0 (at_most (ltb s 16) _ (first-le (holds_slot st.writers.held s) 4)) (omega arith))

  no-holder : meets_writer n ≡ false → holder_met st c n w p l k m ≡ 0
  unfolding holder_met meets_writer one_of one_more
  no-holder e = rw (or_left (eqb n 14) (eqb n 18) e, or_right (eqb n 14) (eqb n 18) e)

  pub met-composable : can_return c n ≡ true → w < 2 ^ 64 → p < 2 ^ 64 → l < 2 ^ 64 → Composable (reason_met st c n w p l k m)
  unfolding reason_met
  met-composable e a b d =
      record {
        returns = e;
        no-writer = none (takes_writer c) w;
        no-page = none (takes_page c) p;
        no_line = none (takes_line c) l;
        no-holder = no-holder;
        writer-fits = fits (takes_writer c) w a;
        page-fits = fits (takes_page c) p b;
        line-fits = fits (takes_line c) l d;
        holder-fits = omega (arith, holder-le);
      }
