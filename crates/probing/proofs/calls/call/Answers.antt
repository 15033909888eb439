use mathlib.Core.Path.{refl, ap}
use borrow.Author.Rules.{rules}
use borrow.Author.Tests.{ne_eqb}
use Rattle.workbench.specs.Turns.{shown}
use Rattle.probing.specs.Calls.{call_turn, call_bytes, place_bytes}
use Rattle.probing.proofs.calls.call.Goals as goal

pub returns-in-70 : goal.returns-in-70
unfolding call_turn call_bytes place_bytes
returns-in-70 c = let e = c.format.ensures in rw c.in-70.is record {
  turn = e.turn;
  bytes = e.bytes;
}

pub returns-in-77 : goal.returns-in-77
unfolding call_turn call_bytes place_bytes
returns-in-77 c = rw c.in-77.is record {
  turn = c.mount.ensures;
  bytes = refl;
}

pub returns-in-83 : goal.returns-in-83
unfolding call_turn call_bytes place_bytes
returns-in-83 c = let e = c.step.ensures in rw c.in-83.is record {
  turn = e.turn;
  bytes = e.bytes;
}

pub returns-in-78 : goal.returns-in-78
unfolding call_turn call_bytes place_bytes
returns-in-78 c = let e = c.run.ensures in rw c.in-78.is record {
  turn = e.turn;
  bytes = e.bytes;
}

pub returns-in-110 : goal.returns-in-110
unfolding call_turn call_bytes place_bytes
returns-in-110 c = rw c.in-110.is record {
  turn = ap (shown _) c.next_store.ensures;
  bytes = refl;
}

pub returns-in-82 : goal.returns-in-82
unfolding call_turn call_bytes place_bytes
returns-in-82 c = rw c.in-82.is record {
  turn = ap (shown _) c.read.ensures;
  bytes = refl;
}

pub returns-in-69 : goal.returns-in-69
unfolding call_turn call_bytes place_bytes
returns-in-69 c = rw c.in-69.is record {
  turn = ap (shown _) c.recall.ensures;
  bytes = refl;
}

pub returns-in_default : goal.returns-in_default
unfolding call_turn call_bytes
returns-in_default c =
    let no-70 = ne_eqb c.args.line.letter 70 (search rules) in
    let no-77 = ne_eqb c.args.line.letter 77 (search rules) in
    let no-83 = ne_eqb c.args.line.letter 83 (search rules) in
    let no-78 = ne_eqb c.args.line.letter 78 (search rules) in
    let no-110 = ne_eqb c.args.line.letter 110 (search rules) in
    let no-82 = ne_eqb c.args.line.letter 82 (search rules) in
    let no-69 = ne_eqb c.args.line.letter 69 (search rules) in
    rw (no-70, no-77, no-83, no-78, no-110, no-82, no-69) record {
      turn = c.ask.ensures.turn;
      bytes = c.ask.ensures.bytes;
    }
