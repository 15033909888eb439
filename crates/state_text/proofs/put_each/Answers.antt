use Prim.Native.Nat.{◌≤◌}
use mathlib.Core.Path.{◌≡◌, ◌∙◌}
use native.Mathlib.Omega.{arith}
use lib.ListN.{length}
use Rattle.number_text.proofs.Puts.{each_none, each_turn, each-end, length-blanked}
use Rattle.state_text.proofs.Rooms.{next_row, row_left}
use Rattle.state_text.proofs.put_each.Goals as goal

pub loop-i-init : goal.loop-i-init
loop-i-init g c = (omega arith, λ f same. each_none c.args.out.now c.args.at f)

pub put_numbers-next-requires : goal.put_numbers-next-requires
put_numbers-next-requires g c =
    let l = c.loop-i in
    let row = c.numbers-row in
    let narrow : length c.as_slice.result.now ≤ c.args.width = rw c.as_slice.ensures (c.requires.narrow l.i row.result c.loop-i-test.true row.ensures) in
    omega (arith, l.invariant.0, l.auto.out, c.requires.room, narrow, row_left c.args.width l.i c.args.n c.loop-i-test.true)

pub loop-i-preserved : goal.loop-i-preserved
loop-i-preserved g c =
    let l = c.loop-i in
    let row = c.numbers-row in
    let p = c.put_numbers-next in
    let test = c.loop-i-test.true in
    let w = c.args.width in
    let narrow : length c.as_slice.result.now ≤ w = rw c.as_slice.ensures (c.requires.narrow l.i row.result test row.ensures) in (
      omega (arith, l.invariant.0, p.ensures.place, length-blanked c.as_slice.result.now, narrow, next_row w l.i),
      λ f same.
          let here : c.as_slice.result.now ≡ f l.i = c.as_slice.ensures ∙ same l.i row.result test row.ensures in
          each_turn f l.i (l.invariant.1 f same) (rw here at p.ensures) (omega (arith, l.invariant.0, c.requires.room, row_left w l.i c.args.n test)),
    )

pub returns : goal.returns
returns g c = λ f same.
    let l = c.loop-i in
    each-end f l.i (l.invariant.1 f same) c.args.n l.auto.i-end c.loop-i-test.false
