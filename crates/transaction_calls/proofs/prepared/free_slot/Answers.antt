use Rattle.workbench.proofs.Formed.{has-numbers}
use Rattle.call_turns.proofs.Turned.{has-asked}
use Rattle.transaction_calls.proofs.prepared.free_slot.Goals as goal

pub returns : goal.returns
returns c =
    let (form, e) = has-numbers 0 c.args.line _ c.in_ok-numbers.ensures in
    let both = has-asked _ _ _ _ c.free_slot-answer.result form c.answered.ensures _ _ _ c.free_slot-answer.ensures.started in record {
      turn = both.0;
      bytes = both.1;
    }
