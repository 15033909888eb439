use mathlib.Core.Path.{◌≡◌, sym, ◌∙◌}
use native.Mathlib.Omega.{arith}
use lib.ListN.{length}
use Rattle.sequence_lines.proofs.Parted.{followed-place, line-put}
use Rattle.sequence_lines.proofs.put_parts.Goals as goal

pub put_followed-next-requires-2 : goal.put_followed-next-requires-2
put_followed-next-requires-2 c =
    let filled = c.fill in
    let played = c.play-played in
    let one = c.put_followed-next in
    omega (arith, c.requires.answers_len, c.requires.numbers_in_bounds, filled.auto.numbers, played.auto.answers, one.auto.out, followed-place filled.new.numbers one.ensures)

pub put_end-next-requires : goal.put_end-next-requires
put_end-next-requires c =
    let filled = c.fill in
    let played = c.play-played in
    let one = c.put_followed-next in
    let two = c.put_followed-next-2 in
    omega (arith, c.requires.answers_len, c.requires.numbers_in_bounds, filled.auto.numbers, played.auto.answers, one.auto.out, two.auto.out, followed-place filled.new.numbers one.ensures, followed-place played.new.answers two.ensures)

pub returns : goal.returns
returns c =
    let filled = c.fill in
    let played = c.play-played in
    let one = c.put_followed-next in
    let two = c.put_followed-next-2 in
    let end = c.put_end-next in
    let calls = filled.new.numbers in
    let answers = played.new.answers in
    let same : length answers ≡ length calls = played.auto.answers ∙ c.requires.answers_len ∙ sym filled.auto.numbers in
    rw (← filled.ensures)
    (line-put calls answers c.args.k played.result played.ensures.played played.ensures.answers same one.ensures two.ensures end.ensures one.auto.out (omega (arith, c.requires.numbers_in_bounds, filled.auto.numbers)))
