use Prim.Native.Nat.{◌≤◌}
use mathlib.Core.Path.{ap}
use native.Mathlib.Omega.{arith}
use borrow.Author.Tests.{le-leb}
use Rattle.std.proofs.Common.{Some}
use Rattle.workbench.specs.Turns.{arg}
use Rattle.workbench.proofs.Formed.{has-numbers, nth-number}
use Rattle.line_calls.proofs.Targets.{take-zeros}
use Rattle.line_calls.proofs.read.Goals as goal

pub returns : goal.returns
returns c =
    let line = c.args.line in
    let (form, e) = has-numbers 4 line _ c.in_ok-t.ensures in
    let t = nth-number 4 line _ 3 (omega arith) e in
    let small : arg line 3 ≤ 128 = rw t at c.if-t-gt128.false in
    let zeros = take-zeros (arg line 3) 128 small in
    rw (form, le-leb _ 128 small) (ap Some (rw (t, zeros) at c.read_into.ensures))
