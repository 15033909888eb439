use Prim.Native.Nat.{ℕ, ◌≤◌, min}
use mathlib.Core.List.{List, ◌++◌}
use mathlib.Core.Path.{◌≡◌, ap}
use native.Mathlib.Omega.{arith}
use lib.ListN.{length}
use Rattle.decimals.proofs.Printing.{decimal-le}
use Rattle.number_text.proofs.Puts.{put_then, put_as, blanked-three, length-blanked}
use Rattle.number_text.specs.Text.{each, field}
use Rattle.state.specs.State.{State}
use Rattle.state_text.proofs.Lengths.{slots-text}
use Rattle.state_text.specs.Numbers.{header_numbers, slot_numbers, entry_number}
use Rattle.state_words.specs.Decoded.{decoded}
use Rattle.state_text.proofs.put_places.Lts
use Rattle.state_text.proofs.put_places.Tie
use Rattle.state_text.proofs.put_places.Reads
use Rattle.state_text.proofs.put_places.Goals as goal

abbrev At-Start : Type 0
At-Start = Lts.Start Tie.the-claims Reads.Pre Reads.Post

abbrev At-After-header_numbers-header : Type 0
At-After-header_numbers-header = Lts.After-header_numbers Tie.the-claims Reads.Pre Reads.Post

abbrev At-After-smaller : Type 0
At-After-smaller = Lts.After-smaller Tie.the-claims Reads.Pre Reads.Post

abbrev st : At-Start → State
st s = decoded s.args.words.now

-- six numbers past P
six : (c : At-After-header_numbers-header) → length c.header_numbers-header.result ≡ 6
six c = ap length c.header_numbers-header.ensures

-- at most 16 slots are printed
low : (c : At-After-smaller) → c.smaller.result ≤ 16
low c = omega (arith, c.smaller.ensures)

pub put_numbers-next-requires : goal.put_numbers-next-requires
put_numbers-next-requires c =
    let page = c.put_after-next in
    omega (arith, c.requires, six c.before.before, decimal-le c.sizes_in-z.result.pages)

pub put_slots-next-requires : goal.put_slots-next-requires
put_slots-next-requires c =
    let page = c.put_after-next in
    let header = c.put_numbers-next in
    let d = decimal-le c.sizes_in-z.result.pages in
    (low c, omega (arith, c.requires, six c.before.before.before.before.before.before.before, length-blanked c.header_numbers-header.result))

pub put_map-requires : goal.put_map-requires
put_map-requires c =
    let page = c.put_after-next in
    let header = c.put_numbers-next in
    let slots = c.put_slots-next in
    let d = decimal-le c.sizes_in-z.result.pages in
    let e = length-blanked c.header_numbers-header.result in
    let f = slots-text (st c.before.before.before.before.before.before.before.before.before.before.before.before.before.before.before.before.before.before.before).table c.smaller.result (low c.before.before.before.before.before) in
    (omega (arith, c.smaller-2.ensures), omega (arith, c.requires, six c.before.before.before.before.before.before.before.before.before.before.before.before))

pub returns : goal.returns
returns c =
    let z = c.sizes_in-z in
    let page = c.put_after-next in
    let nums = c.header_numbers-header in
    let header = c.put_numbers-next in
    let slots = c.put_slots-next in
    let d = decimal-le z.result.pages in
    let d2 = decimal-le (st c.before.before.before.before.before.before.before.before.before.before.before.before.before.before.before.before.before.before.before.before.before.before.before).sizes.pages in
    let e = length-blanked nums.result in
    let k = c.smaller.result in
    let f = slots-text (st c.before.before.before.before.before.before.before.before.before.before.before.before.before.before.before.before.before.before.before.before.before.before.before).table k (low c.before.before.before.before.before.before.before.before.before) in
    let n = c.smaller-2.result in
    let few : k ≡ min (st c.before.before.before.before.before.before.before.before.before.before.before.before.before.before.before.before.before.before.before.before.before.before.before).sizes.slots 16 = rw z.ensures at c.smaller.ensures in
    let less : n ≡ min (st c.before.before.before.before.before.before.before.before.before.before.before.before.before.before.before.before.before.before.before.before.before.before.before).sizes.pages 1024 = rw z.ensures at c.smaller-2.ensures in
    let text = blanked-three (header_numbers (st c.before.before.before.before.before.before.before.before.before.before.before.before.before.before.before.before.before.before.before.before.before.before.before)) (each k (slot_numbers (st c.before.before.before.before.before.before.before.before.before.before.before.before.before.before.before.before.before.before.before.before.before.before.before).table)) (each n (entry_number (st c.before.before.before.before.before.before.before.before.before.before.before.before.before.before.before.before.before.before.before.before.before.before.before).map)) in
    rw (← few, ← less)
    (put_as (ap (λ (t : List ℕ). field (st c.before.before.before.before.before.before.before.before.before.before.before.before.before.before.before.before.before.before.before.before.before.before.before).sizes.pages ++ t) text)
    (put_then (rw z.ensures at page.ensures)
    (put_then (rw nums.ensures at header.ensures)
    (put_then slots.ensures c.put_map.ensures (omega (arith, c.requires, six c.before.before.before.before.before.before.before.before.before.before.before.before.before.before.before.before)))
    (omega (arith, c.requires, six c.before.before.before.before.before.before.before.before.before.before.before.before.before.before.before.before)))
    (omega (arith, c.requires))))
