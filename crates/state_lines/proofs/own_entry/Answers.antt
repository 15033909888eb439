use mathlib.Core.Path.{refl}
use borrow.Author.Tests.{eq-eqb, ne_eqb}
use lib.Dec.{eqb}
use Rattle.bounded.proofs.Tests.{row-no}
use Rattle.state_lines.proofs.own_entry.Goals as goal

pub returns-then-at-writer : goal.returns-then-at-writer
returns-then-at-writer c = let a = c.args in row-no (eqb a.at.wide a.writer) _ a.at.count a.at.count (ne_eqb a.at.wide a.writer c.if-at-writer.true) refl

pub returns : goal.returns
returns c = rw (eq-eqb _ _ c.if-at-writer.false) c.find_entry.ensures
