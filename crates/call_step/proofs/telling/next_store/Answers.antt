use borrow.Author.Rules.{rules}
use mathlib.Core.Path.{◌≡◌}
use Rattle.std.specs.Prelude.{Err}
use Rattle.call_step.proofs.telling.next_store.Goals as goal

pub returns-in_err-told : goal.returns-in_err-told
returns-in_err-told c =
    let same : c.from_residual.result ≡ Err c.in_err-told.field-0.0 = search rules in
    rw same c.in_err-told.ensures

pub returns : goal.returns
returns c = let h = c.in_ok-told.ensures in (h.0, h.1)
