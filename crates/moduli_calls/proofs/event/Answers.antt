use native.Mathlib.Omega.{arith}
use Rattle.state_words.specs.Decoded.{decoded}
use Rattle.refinement.specs.Calls.{event_of}
use Rattle.workbench.specs.Turns.{arg}
use Rattle.workbench.specs.Moduli.{lent_moduli}
use Rattle.workbench.proofs.Formed.{has-numbers, nth-number}
use Rattle.call_turns.proofs.Turned.{has-asked}
use Rattle.moduli_calls.proofs.event.Goals as goal

pub returns : goal.returns
returns c =
    let s = c.args in
    let img = s.image.now in
    let st = decoded s.words.now in
    let line = s.line in
    let o = event_of st img (lent_moduli s.table) (arg line 0) (arg line 1) (arg line 2) in
    let (form, e) = has-numbers 3 line _ c.in_ok-kind.ensures in
    let kind = nth-number 3 line _ 0 (omega arith) e in
    let meter = nth-number 3 line _ 1 (omega arith) e in
    let amount = nth-number 3 line _ 2 (omega arith) e in
    let started = rw (kind, meter, amount, c.lent.ensures) at c.event-answer.ensures.started in
    let both = has-asked _ _ st _ c.event-answer.result form c.answered.ensures _ o img started in record {
      turn = both.0;
      bytes = both.1;
    }
