use native.Mathlib.Omega.{arith}
use Rattle.workbench.proofs.Formed.{has-numbers, nth-number}
use Rattle.workbench.specs.Turns.{arg}
use Rattle.state_words.specs.Decoded.{decoded}
use Rattle.refinement.specs.Calls.{commit_of}
use Rattle.call_turns.proofs.Turned.{has-started}
use Rattle.transaction_calls.proofs.commit.Goals as goal

pub returns : goal.returns
returns c =
    let s = c.args in
    let img = s.image.now in
    let st = decoded s.words.now in
    let (form, e) = has-numbers 1 s.line _ c.in_ok-w.ensures in
    let first = nth-number 1 s.line _ 0 (omega arith) e in
    let o = commit_of st img (arg s.line 0) in
    let started = rw first at c.commit-answer.ensures.started in
    let both = has-started _ _ st _ c.commit-answer.result form c.answered.ensures _ o img s.whole _ c.until_by.ensures started in record {
      turn = both.0;
      bytes = both.1;
    }
