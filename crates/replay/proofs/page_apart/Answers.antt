use mathlib.Core.Bool.{not}
use mathlib.Core.Path.{◌≡◌, ap, ◌∙◌}
use borrow.Author.Rules.{rules}
use borrow.Author.Tests.{ne_eqb}
use native.Mathlib.Omega.{arith}
use lib.Dec.{eqb}
use lib.ListN.{get_or, take}
use Rattle.std.specs.List.{list_any}
use Rattle.bounded.proofs.Tests.{or-goes}
use Rattle.layout.proofs.Slices.{none-first}
use Rattle.journal.specs.Slots.{no_page}
use Rattle.replay.proofs.page_apart.Goals as goal

pub returns-else-p : goal.returns-else-p
returns-else-p c =
    let x = c.args in
    let e : c.contains.result ≡ list_any (λ q. eqb q (get_or x.page.now x.s 0)) (take x.s x.page.now) = search rules in
    or-goes _ _ _ (ne_eqb (get_or x.page.now x.s 0) no_page c.if-p.false) (ap not e ∙ none-first _ _ _ (omega arith))
