use mathlib.Core.Path.{refl}
use Rattle.state_words.specs.Decoded.{decoded}
use Rattle.image_calls.specs.Calls.{sizes_in}
use Rattle.image_calls.proofs.Replaced.{has-formatted}
use Rattle.image_calls.proofs.format.Goals as goal

pub returns-then-line : goal.returns-then-line
returns-then-line c =
    let s = c.args in
    let started = rw c.sizes_in.ensures at c.format-answer.ensures.started in
    let both = has-formatted _ _ (decoded s.words.now) _ c.format-answer.result c.if-line.true c.answered.ensures (sizes_in s.line) s.image.now _ started in record {
      turn = both.0;
      bytes = both.1;
    }

pub returns : goal.returns
returns c = rw c.if-line.false (record { turn = refl; bytes = refl })
