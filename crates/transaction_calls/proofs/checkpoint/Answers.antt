use Rattle.workbench.proofs.Formed.{has-numbers}
use Rattle.state_words.specs.Decoded.{decoded}
use Rattle.refinement.specs.Calls.{checkpoint_of}
use Rattle.call_turns.proofs.Turned.{has-started}
use Rattle.transaction_calls.proofs.checkpoint.Goals as goal

pub returns : goal.returns
returns c =
    let s = c.args in
    let img = s.image.now in
    let st = decoded s.words.now in
    let (form, e) = has-numbers 0 s.line _ c.in_ok-numbers.ensures in
    let o = checkpoint_of st img in
    let both = has-started _ _ st _ c.checkpoint-answer.result form c.answered.ensures _ o img s.whole _ c.until_by.ensures c.checkpoint-answer.ensures.started in record {
      turn = both.0;
      bytes = both.1;
    }
