use mathlib.Core.Path.{◌≡◌, ap, sym, ◌∙◌}
use native.Mathlib.Omega.{arith}
use lib.ListN.{length}
use Rattle.number_text.proofs.Puts.{put_then, put_as, blanked-append, length-blanked}
use Rattle.number_text.specs.Text.{each}
use Rattle.state_text.proofs.Lengths.{length-open}
use Rattle.state_text.specs.Numbers.{open_numbers, held_numbers}
use Rattle.state_words.specs.Decoded.{decoded}
use Rattle.state_text.proofs.put_writers.Goals as goal

pub put_held-requires : goal.put_held-requires
put_held-requires c =
    let nums = c.open_numbers-opened in
    let first = c.put_numbers-next in
    let four : length nums.result ≡ 4 = ap length nums.ensures ∙ length-open (decoded c.args.words.now).writers in
    omega (arith, c.requires, length-blanked nums.result)

pub returns : goal.returns
returns c =
    let nums = c.open_numbers-opened in
    let first = c.put_numbers-next in
    let rest = c.put_held in
    let ws = (decoded c.args.words.now).writers in
    let four : length nums.result ≡ 4 = ap length nums.ensures ∙ length-open ws in
    let long = length-blanked nums.result in
    put_as (sym (blanked-append (open_numbers ws) (each 4 (held_numbers ws.held c.args.n)))) (put_then (rw nums.ensures at first.ensures) rest.ensures (omega arith))
