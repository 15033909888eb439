use mathlib.Core.Path.{sym, ◌∙◌}
use Rattle.state_words.specs.Decoded.{decoded}
use Rattle.calling.specs.WriteLine.{write_by}
use Rattle.call_turns.proofs.Turned.{has-started}
use Rattle.transaction_calls.proofs.write.Goals as goal

pub returns : goal.returns
returns c =
    let s = c.args in
    let img = s.image.now in
    let st = decoded s.words.now in
    let o = write_by st img s.line.count s.line.numbers in
    let form = sym c.has_data.ensures ∙ c.if-not-has_data.false in
    let both = has-started _ _ st _ c.write_until-answer.result form c.answered.ensures _ o img s.whole _ c.until_by.ensures c.write_until-answer.ensures.started in record {
      turn = both.0;
      bytes = both.1;
    }
