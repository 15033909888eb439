use mathlib.Core.Path.{sym, ap}
use lib.Seq.{length-take-le}
use borrow.Author.Tests.{ne_eqb}
use Rattle.workbench.specs.declared.Said.TheVariants.{Hash}
use Rattle.line_calls.proofs.said.Goals as goal

pub slice_bounds-hash-end : goal.slice_bounds-hash-end
slice_bounds-hash-end c =
    sym (length-take-le 64 c.args.target.now (c.requires c.if-number-eq0.true))

pub returns-then-number-eq0 : goal.returns-then-number-eq0
returns-then-number-eq0 c = rw c.if-number-eq0.true (ap Hash c.hash.ensures)

pub returns : goal.returns
returns c = rw (ne_eqb _ 0 c.if-number-eq0.false)
