use native.Mathlib.Omega.{arith}
use Rattle.workbench.proofs.Formed.{has-numbers, nth-number}
use Rattle.call_turns.proofs.Turned.{has-asked}
use Rattle.transaction_calls.proofs.prepared.confirm.Goals as goal

pub returns : goal.returns
returns c =
    let (form, e) = has-numbers 1 c.args.line _ c.in_ok-w.ensures in
    let first = nth-number 1 c.args.line _ 0 (omega arith) e in
    let both = has-asked _ _ _ _ c.confirm-answer.result form c.answered.ensures _ _ _ (rw first at c.confirm-answer.ensures.started) in record {
      turn = both.0;
      bytes = both.1;
    }
