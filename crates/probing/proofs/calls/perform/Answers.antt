use mathlib.Core.Path.{refl}
use borrow.Author.Rules.{rules}
use borrow.Author.Tests.{ne_eqb}
use Rattle.probing.specs.Calls.{place_turn, place_bytes}
use Rattle.probing.proofs.calls.perform.Goals as goal

pub returns-in-98 : goal.returns-in-98
unfolding place_turn place_bytes
returns-in-98 c = rw c.in-98.is record {
  turn = c.begin.ensures;
  bytes = refl;
}

pub returns-in-97 : goal.returns-in-97
unfolding place_turn place_bytes
returns-in-97 c = rw c.in-97.is record {
  turn = c.abort.ensures;
  bytes = refl;
}

pub returns-in-118 : goal.returns-in-118
unfolding place_turn place_bytes
returns-in-118 c = rw c.in-118.is record {
  turn = c.begin_wide.ensures;
  bytes = refl;
}

pub returns-in-119 : goal.returns-in-119
unfolding place_turn place_bytes
returns-in-119 c = let e = c.write.ensures in rw c.in-119.is record {
  turn = e.turn;
  bytes = e.bytes;
}

pub returns-in-99 : goal.returns-in-99
unfolding place_turn place_bytes
returns-in-99 c = let e = c.commit.ensures in rw c.in-99.is record {
  turn = e.turn;
  bytes = e.bytes;
}

pub returns-in-100 : goal.returns-in-100
unfolding place_turn place_bytes
returns-in-100 c = let e = c.consolidate.ensures in rw c.in-100.is record {
  turn = e.turn;
  bytes = e.bytes;
}

pub returns-in-112 : goal.returns-in-112
unfolding place_turn place_bytes
returns-in-112 c = let e = c.checkpoint.ensures in rw c.in-112.is record {
  turn = e.turn;
  bytes = e.bytes;
}

pub returns-in_default : goal.returns-in_default
unfolding place_turn place_bytes
returns-in_default c =
    let no-98 = ne_eqb c.args.line.letter 98 (search rules) in
    let no-97 = ne_eqb c.args.line.letter 97 (search rules) in
    let no-118 = ne_eqb c.args.line.letter 118 (search rules) in
    let no-119 = ne_eqb c.args.line.letter 119 (search rules) in
    let no-99 = ne_eqb c.args.line.letter 99 (search rules) in
    let no-100 = ne_eqb c.args.line.letter 100 (search rules) in
    let no-112 = ne_eqb c.args.line.letter 112 (search rules) in
    rw (no-98, no-97, no-118, no-119, no-99, no-100, no-112) record {
      turn = refl;
      bytes = refl;
    }
