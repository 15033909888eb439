use native.Mathlib.Omega.{arith}
use Rattle.number_text.proofs.Puts.{put_then}
use Rattle.state_text.proofs.Lengths.{places-text}
use Rattle.state_words.specs.Decoded.{decoded}
use Rattle.state_text.proofs.put_state.Goals as goal

pub put_work-requires : goal.put_work-requires
put_work-requires c =
    let places = c.put_places-next in
    omega (arith, c.requires, places-text (decoded c.args.words.now))

pub returns : goal.returns
returns c =
    let places = c.put_places-next in
    put_then places.ensures c.put_work.ensures (omega (arith, c.requires, places-text (decoded c.args.words.now)))
