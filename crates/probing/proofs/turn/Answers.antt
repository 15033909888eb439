use Prim.Native.Nat.{ℕ}
use mathlib.Core.List.{List, ◌++◌}
use mathlib.Core.Path.{◌≡◌, refl, sym, ap}
use borrow.Author.Rules.{rules}
use borrow.Author.Tests.{ne_eqb}
use lib.ListN.{take, drop, take-append-drop}
use Rattle.workbench.specs.Turns.{shown}
use Rattle.probing.specs.Calls.{call_bytes, place_bytes}
use Rattle.probing.specs.Lines.{turn_of, buffer_after, table_after}
use Rattle.probing.proofs.turn.Goals as goal

-- a buffer that no line changed, by the bytes lent and the others
kept : (lent : ℕ) (buffer : List ℕ) → buffer ≡ take lent buffer ++ drop lent buffer
kept lent buffer = sym (take-append-drop lent buffer)

pub returns-in-76 : goal.returns-in-76
unfolding turn_of buffer_after table_after call_bytes place_bytes
returns-in-76 c = rw c.in-76.is record {
  turn = ap (shown _) c.lend.ensures;
  bytes = kept c.args.lent c.args.buffer.now;
  table = refl;
}

pub returns-in-89 : goal.returns-in-89
unfolding turn_of buffer_after table_after
returns-in-89 c = let e = c.set_byte.ensures in rw c.in-89.is record {
  turn = ap (shown _) e.said;
  bytes = e.bytes;
  table = refl;
}

pub returns-in-85 : goal.returns-in-85
unfolding turn_of buffer_after table_after
returns-in-85 c = let e = c.set_word.ensures in rw c.in-85.is record {
  turn = ap (shown _) e.said;
  bytes = e.bytes;
  table = refl;
}

pub returns-in-84 : goal.returns-in-84
unfolding turn_of buffer_after table_after call_bytes place_bytes
returns-in-84 c = rw c.in-84.is record {
  turn = c.set_number.ensures;
  bytes = kept c.args.lent c.args.buffer.now;
  table = refl;
}

pub returns-in-79 : goal.returns-in-79
unfolding turn_of buffer_after table_after call_bytes place_bytes
returns-in-79 c = rw c.in-79.is record {
  turn = c.set_pending.ensures;
  bytes = kept c.args.lent c.args.buffer.now;
  table = refl;
}

pub returns-in-81 : goal.returns-in-81
unfolding turn_of buffer_after table_after call_bytes place_bytes
returns-in-81 c = rw c.in-81.is record {
  turn = c.set_line_byte.ensures;
  bytes = kept c.args.lent c.args.buffer.now;
  table = refl;
}

pub returns-in-109 : goal.returns-in-109
unfolding turn_of buffer_after table_after call_bytes place_bytes
returns-in-109 c = let e = c.set_modulus.ensures in rw c.in-109.is record {
  turn = ap (shown _) e.said;
  bytes = kept c.args.lent c.args.buffer.now;
  table = e.table;
}

pub returns-in-107 : goal.returns-in-107
unfolding turn_of buffer_after table_after call_bytes place_bytes
returns-in-107 c = let e = c.set_count.ensures in rw c.in-107.is record {
  turn = ap (shown _) e.said;
  bytes = kept c.args.lent c.args.buffer.now;
  table = e.table;
}

pub returns-in-108 : goal.returns-in-108
unfolding turn_of buffer_after table_after call_bytes place_bytes
returns-in-108 c =
    let e = c.load.ensures in
    rw c.in-108.is record {
      turn = ap (shown _) e.said;
      bytes = kept c.args.lent c.args.buffer.now;
      table = e.table;
    }

pub returns-in-71 : goal.returns-in-71
unfolding turn_of buffer_after table_after call_bytes place_bytes
returns-in-71 c = rw c.in-71.is record {
  turn = ap (shown _) c.show_numbers.ensures;
  bytes = kept c.args.lent c.args.buffer.now;
  table = refl;
}

pub returns-in-72 : goal.returns-in-72
unfolding turn_of buffer_after table_after call_bytes place_bytes
returns-in-72 c = rw c.in-72.is record {
  turn = ap (shown _) c.show_hash.ensures;
  bytes = kept c.args.lent c.args.buffer.now;
  table = refl;
}

pub returns-in_default : goal.returns-in_default
unfolding turn_of buffer_after table_after
returns-in_default c =
    let no-76 = ne_eqb c.args.line.letter 76 (search rules) in
    let no-89 = ne_eqb c.args.line.letter 89 (search rules) in
    let no-85 = ne_eqb c.args.line.letter 85 (search rules) in
    let no-84 = ne_eqb c.args.line.letter 84 (search rules) in
    let no-79 = ne_eqb c.args.line.letter 79 (search rules) in
    let no-81 = ne_eqb c.args.line.letter 81 (search rules) in
    let no-109 = ne_eqb c.args.line.letter 109 (search rules) in
    let no-107 = ne_eqb c.args.line.letter 107 (search rules) in
    let no-108 = ne_eqb c.args.line.letter 108 (search rules) in
    let no-71 = ne_eqb c.args.line.letter 71 (search rules) in
    let no-72 = ne_eqb c.args.line.letter 72 (search rules) in
    let e = c.call_lent.ensures in
    rw (no-76, no-89, no-85, no-84, no-79, no-81, no-109, no-107, no-108, no-71, no-72) record {
      turn = e.turn;
      bytes = e.bytes;
      table = refl;
    }
