use Prim.Native.Nat.{◌≤◌, min}
use mathlib.Core.Path.{◌≡◌}
use native.Mathlib.Omega.{arith}
use Rattle.number_text.proofs.Puts.{put_then, put_as, blanked-three}
use Rattle.pending_text.specs.Numbers.{pending_numbers}
use Rattle.state.specs.State.{State}
use Rattle.state_text.proofs.Lengths.{writers-text, wide-text}
use Rattle.state_text.specs.Numbers.{writer_numbers, wide_numbers}
use Rattle.state_words.specs.Decoded.{decoded}
use Rattle.state_text.proofs.put_work.Lts
use Rattle.state_text.proofs.put_work.Tie
use Rattle.state_text.proofs.put_work.Reads
use Rattle.state_text.proofs.put_work.Goals as goal

abbrev At-Start : Type 0
At-Start = Lts.Start Tie.the-claims Reads.Pre Reads.Post

abbrev At-After-smaller : Type 0
At-After-smaller = Lts.After-smaller Tie.the-claims Reads.Pre Reads.Post

abbrev st : At-Start → State
st s = decoded s.args.words.now

-- at most 16 slots are printed
low : (c : At-After-smaller) → c.smaller.result ≤ 16
low c = omega (arith, c.smaller.ensures)

pub put_writers-next-requires : goal.put_writers-next-requires
put_writers-next-requires c = (low c, omega (arith, c.requires))

pub put_wide-next-requires : goal.put_wide-next-requires
put_wide-next-requires c =
    let writers = c.put_writers-next in
    omega (arith, c.requires, writers-text (st c.before.before.before.before.before.before.before.before).writers c.smaller.result (low c.before.before.before.before))

pub put_pending-requires : goal.put_pending-requires
put_pending-requires c =
    let writers = c.put_writers-next in
    let wide = c.put_wide-next in
    omega (arith, c.requires, writers-text (st c.before.before.before.before.before.before.before.before.before.before.before.before).writers c.smaller.result (low c.before.before.before.before.before.before.before.before), wide-text (st c.before.before.before.before.before.before.before.before.before.before.before.before))

pub returns : goal.returns
returns c =
    let writers = c.put_writers-next in
    let wide = c.put_wide-next in
    let rest = c.put_pending in
    let k = c.smaller.result in
    let f = writers-text (st c.before.before.before.before.before.before.before.before.before.before.before.before.before.before.before.before).writers k (low c.before.before.before.before.before.before.before.before.before.before.before.before) in
    let g = wide-text (st c.before.before.before.before.before.before.before.before.before.before.before.before.before.before.before.before) in
    let few : k ≡ min (st c.before.before.before.before.before.before.before.before.before.before.before.before.before.before.before.before).sizes.slots 16 = rw c.sizes_in-z.ensures at c.smaller.ensures in
    let ws = writer_numbers (st c.before.before.before.before.before.before.before.before.before.before.before.before.before.before.before.before).writers k in
    let text = blanked-three ws (wide_numbers (st c.before.before.before.before.before.before.before.before.before.before.before.before.before.before.before.before)) (pending_numbers (st c.before.before.before.before.before.before.before.before.before.before.before.before.before.before.before.before).pending) in
    rw (← few)
    (put_as text
    (put_then writers.ensures (put_then wide.ensures rest.ensures (omega (arith, c.requires))) (omega (arith, c.requires))))
