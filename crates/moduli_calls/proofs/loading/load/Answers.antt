use Prim.Native.Nat.{◌+◌, ◌≤◌}
use mathlib.Core.Path.{ap, ap₂, ◌∙◌}
use native.Mathlib.Omega.{arith}
use borrow.Author.Tests.{le-leb}
use lib.ListN.{length}
use Rattle.std.proofs.Common.{Some}
use Rattle.state_words.specs.Decoded.{decoded}
use Rattle.refinement.specs.Calls.{load_of}
use Rattle.workbench.specs.Turns.{arg}
use Rattle.workbench.proofs.Formed.{has-numbers, nth-number}
use Rattle.moduli_calls.specs.Calls.{loaded_said, table_by}
use Rattle.moduli_calls.proofs.Lent.{take-least, text-part}
use Rattle.moduli_calls.proofs.loading.load.Goals as goal

pub returns : goal.returns
returns c =
    let a = c.args in
    let (form, e) = has-numbers 2 a.line _ c.in_ok-at.ensures in
    let at = nth-number 2 a.line _ 0 (omega arith) e in
    let n = nth-number 2 a.line _ 1 (omega arith) e in
    let end = c.in_ok-end.ensures.1 in
    let found = c.in_ok-text.ensures.lookup.0 in
    let within : arg a.line 0 + arg a.line 1 ≤ length a.buffer.now = omega (arith, at, n, end, found.1) in
    let lent = take-least a.lent a.buffer.now c.min-k.result c.min-k.ensures in
    let text = found.2 ∙ text-part a.buffer.now _ _ _ _ _ at n end in
    let whole = ap₂ (load_of (decoded a.words.now)) lent text in
    rw (form, le-leb _ _ within) record {
      said = ap Some (c.load_text.ensures.said ∙ ap loaded_said whole);
      table = c.load_text.ensures.table ∙ ap (table_by a.table.now) whole;
    }
