use Prim.Native.Nat.{min}
use mathlib.Core.Path.{◌≡◌, ap, sym}
use native.Mathlib.Omega.{arith}
use lib.ListN.{length}
use Rattle.number_text.proofs.Puts.{put_then, put_as, blanked-append, length-blanked}
use Rattle.number_text.specs.Text.{each}
use Rattle.state_text.specs.Numbers.{turn_numbers, key_number}
use Rattle.state_words.specs.Decoded.{decoded}
use Rattle.state_text.proofs.put_wide.Goals as goal

pub put_keys-requires : goal.put_keys-requires
put_keys-requires c =
    let nums = c.turn_numbers-turn in
    let first = c.put_numbers-next in
    let three : length nums.result ≡ 3 = ap length nums.ensures in
    (omega (arith, c.smaller-n.ensures), omega (arith, c.requires, length-blanked nums.result))

pub returns : goal.returns
returns c =
    let nums = c.turn_numbers-turn in
    let first = c.put_numbers-next in
    let rest = c.put_keys in
    let st = decoded c.args.words.now in
    let n = c.smaller-n.result in
    let few : n ≡ min st.wide.count 64 = rw c.places_in-places.ensures at c.smaller-n.ensures in
    let three : length nums.result ≡ 3 = ap length nums.ensures in
    let long = length-blanked nums.result in
    rw (← few)
    (put_as (sym (blanked-append (turn_numbers st) (each n (key_number st.wide.keys))))
    (put_then (rw nums.ensures at first.ensures) rest.ensures (omega arith)))
