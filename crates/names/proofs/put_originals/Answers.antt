use mathlib.Core.Path.{ap, ◌∙◌, ◌≡◌}
use lib.ListN.{length}
use borrow.Author.Rules.{rules}
use borrow.Author.Tests.{lt-ltb, le-ltb}
use Rattle.bounded.proofs.Below.{up_none, up_turn, up_ends}
use Rattle.bounded.proofs.Tests.{row-yes, row-no}
use Rattle.names.specs.Homes.{original_put}
use Rattle.names.proofs.Homes.{length-put-original}
use Rattle.names.proofs.put_originals.Goals as goal
use Rattle.names.proofs.put_originals.Goals.{then-p-z, else-p-z}

pub loop-s-init : goal.loop-s-init
loop-s-init c = (search rules, up_none _ _)

pub loop-s-preserved : goal.loop-s-preserved
loop-s-preserved c =
    let x = c.args in
    let e : c.if-p-z.homes ≡ original_put x.z x.page.now x.original.now c.loop-s.s c.loop-s.homes =
    elim c.if-p-z.branch [
      | then-p-z w ↦ w.homes-is ∙ row-yes _ _ _ (lt-ltb _ _ w.if-p-z.true)
      | else-p-z w ↦ row-no _ _ _ _ (le-ltb _ _ w.if-p-z.false) w.homes-is
    ] in
    (ap length e ∙ length-put-original x.z x.page.now x.original.now c.loop-s.s c.loop-s.homes ∙ c.loop-s.invariant.0, e ∙ up_turn _ _ _ _ c.loop-s.invariant.1)

pub returns : goal.returns
returns c = up_ends _ _ _ _ _ c.loop-s.auto.s-end c.loop-s-test.false c.loop-s.invariant.1
