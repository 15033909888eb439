use mathlib.Core.Path.{refl, ◌∙◌}
use borrow.Author.Rules.{rules}
use borrow.Author.Tests.{ne_eqb}
use lib.Dec.{eqb}
use Rattle.state_words.specs.Decoded.{decoded}
use Rattle.refinement.specs.Calls.{commit_of, consolidate_of, checkpoint_of}
use Rattle.calling.specs.WriteLine.{has_data, write_by}
use Rattle.workbench.specs.Turns.{arg}
use Rattle.call_turns.proofs.Turned.{asked-bytes}
use Rattle.probing.specs.Calls.{ask_turn, place_bytes}
use Rattle.probing.proofs.calls.ask.Goals as goal

pub returns-in-66 : goal.returns-in-66
unfolding ask_turn place_bytes
returns-in-66 c = rw c.in-66.is record {
  turn = c.begin.ensures;
  bytes = refl;
}

pub returns-in-65 : goal.returns-in-65
unfolding ask_turn place_bytes
returns-in-65 c = rw c.in-65.is record {
  turn = c.abort.ensures;
  bytes = refl;
}

pub returns-in-86 : goal.returns-in-86
unfolding ask_turn place_bytes
returns-in-86 c = rw c.in-86.is record {
  turn = c.begin_wide.ensures;
  bytes = refl;
}

pub returns-in-87 : goal.returns-in-87
unfolding ask_turn place_bytes
returns-in-87 c =
    let e = c.write.ensures in
    let a = c.args in
    let line = a.line in
    let img = a.image.now in
    let st = decoded a.words.now in
    let none = asked-bytes (has_data line.count line.numbers) (write_by st img line.count line.numbers) img in
    rw c.in-87.is record {
      turn = e.turn;
      bytes = e.bytes ∙ none;
    }

pub returns-in-67 : goal.returns-in-67
unfolding ask_turn place_bytes
returns-in-67 c =
    let e = c.commit.ensures in
    let a = c.args in
    let line = a.line in
    let img = a.image.now in
    let st = decoded a.words.now in
    rw c.in-67.is record {
      turn = e.turn;
      bytes = e.bytes ∙ asked-bytes (eqb line.count 1) (commit_of st img (arg line 0)) img;
    }

pub returns-in-68 : goal.returns-in-68
unfolding ask_turn place_bytes
returns-in-68 c =
    let e = c.consolidate.ensures in
    let a = c.args in
    let line = a.line in
    let img = a.image.now in
    let st = decoded a.words.now in
    rw c.in-68.is record {
      turn = e.turn;
      bytes = e.bytes ∙ asked-bytes (eqb line.count 1) (consolidate_of st img (arg line 0)) img;
    }

pub returns-in-88 : goal.returns-in-88
unfolding ask_turn place_bytes
returns-in-88 c = let e = c.free_slot.ensures in rw c.in-88.is record {
  turn = e.turn;
  bytes = e.bytes;
}

pub returns-in-80 : goal.returns-in-80
unfolding ask_turn place_bytes
returns-in-80 c =
    let e = c.checkpoint.ensures in
    let a = c.args in
    let line = a.line in
    let img = a.image.now in
    let st = decoded a.words.now in
    rw c.in-80.is record {
      turn = e.turn;
      bytes = e.bytes ∙ asked-bytes (eqb line.count 0) (checkpoint_of st img) img;
    }

pub returns-in-73 : goal.returns-in-73
unfolding ask_turn place_bytes
returns-in-73 c = let e = c.prepare.ensures in rw c.in-73.is record {
  turn = e.turn;
  bytes = e.bytes;
}

pub returns-in-74 : goal.returns-in-74
unfolding ask_turn place_bytes
returns-in-74 c = let e = c.confirm.ensures in rw c.in-74.is record {
  turn = e.turn;
  bytes = e.bytes;
}

pub returns-in-90 : goal.returns-in-90
unfolding ask_turn place_bytes
returns-in-90 c = rw c.in-90.is record {
  turn = c.withdraw.ensures;
  bytes = refl;
}

pub returns-in-75 : goal.returns-in-75
unfolding ask_turn place_bytes
returns-in-75 c = let e = c.event.ensures in rw c.in-75.is record {
  turn = e.turn;
  bytes = e.bytes;
}

pub returns-in_default : goal.returns-in_default
unfolding ask_turn
returns-in_default c =
    let no-66 = ne_eqb c.args.line.letter 66 (search rules) in
    let no-65 = ne_eqb c.args.line.letter 65 (search rules) in
    let no-86 = ne_eqb c.args.line.letter 86 (search rules) in
    let no-87 = ne_eqb c.args.line.letter 87 (search rules) in
    let no-67 = ne_eqb c.args.line.letter 67 (search rules) in
    let no-68 = ne_eqb c.args.line.letter 68 (search rules) in
    let no-88 = ne_eqb c.args.line.letter 88 (search rules) in
    let no-80 = ne_eqb c.args.line.letter 80 (search rules) in
    let no-73 = ne_eqb c.args.line.letter 73 (search rules) in
    let no-74 = ne_eqb c.args.line.letter 74 (search rules) in
    let no-90 = ne_eqb c.args.line.letter 90 (search rules) in
    let no-75 = ne_eqb c.args.line.letter 75 (search rules) in
    let e = c.perform.ensures in
    rw (no-66, no-65, no-86, no-87, no-67, no-68, no-88, no-80, no-73, no-74, no-90, no-75) record {
      turn = e.turn;
      bytes = e.bytes;
    }
