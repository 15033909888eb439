use mathlib.Core.Path.{◌≡◌, sym, ap, ◌∙◌}
use mathlib.Core.Bool.{not, true}
use Prim.Native.Nat.{◌≤◌}
use native.Mathlib.Omega.{arith}
use Rattle.bounded.proofs.Tests.{held}
use Rattle.number_text.proofs.Puts.{put_then}
use Rattle.wording.specs.Calls.{call_count, number_count, can_return}
use Rattle.wording.proofs.Returns.{Known, known}
use Rattle.reasons.specs.Sentence.{sentence}
use Rattle.reasons.proofs.Lengths.{opening-le}
use Rattle.reasons.proofs.Composing.{too_short, cannot, taken}
use Rattle.reasons.proofs.compose.Goals as goal
use Rattle.reasons.proofs.compose.Goals.{then-target-lt200-via-then-target-lt200, then-target-lt200-via-else-target-lt200+then-not-can_return}

-- Either row, or the opening and then the closing.
pub returns-then-target-lt200 : goal.returns-then-target-lt200
returns-then-target-lt200 c =
    let x = c.args in
    elim c.then-target-lt200.branch [
      | then-target-lt200-via-then-target-lt200 w ↦
          let h = too_short x.reason x.target.now w.if-target-lt200.true in
          record { value = h.0; target_after = h.1 }
      | then-target-lt200-via-else-target-lt200+then-not-can_return w ↦
          let h = cannot x.reason x.target.now w.if-target-lt200.false (sym w.can_return.ensures ∙ w.if-not-can_return.true) in
          record { value = h.0; target_after = h.1 }
    ]

pub put_opening-next-requires : goal.put_opening-next-requires
put_opening-next-requires c =
    let r = c.args.reason in
    let can : can_return r.call r.number ≡ true = held _ _ c.can_return.ensures (ap not c.if-not-can_return.false) in
    let p : Known call_count number_count r.call r.number = known r.call r.number can in
    (p.call, p.number, omega arith)

pub put_closing-requires : goal.put_closing-requires
put_closing-requires c =
    let r = c.args.reason in
    let can : can_return r.call r.number ≡ true = held _ _ c.can_return.ensures (ap not c.if-not-can_return.false) in
    let p : Known call_count number_count r.call r.number = known r.call r.number can in
    omega (arith, c.put_opening-next.ensures.place, opening-le r.call r.number p.number)

pub returns : goal.returns
unfolding sentence
returns c =
    let x = c.args in
    let r = x.reason in
    let can : can_return r.call r.number ≡ true = held _ _ c.can_return.ensures (ap not c.if-not-can_return.false) in
    let p : Known call_count number_count r.call r.number = known r.call r.number can in
    let opened : c.put_opening-next.result ≤ 74 = omega (arith, c.put_opening-next.ensures.place, opening-le r.call r.number p.number) in
    let h = taken r x.target.now (omega arith) can (put_then c.put_opening-next.ensures c.put_closing.ensures (omega (arith, opened))) in
    record { value = h.0; target_after = h.1 }
