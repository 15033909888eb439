use Rattle.std.proofs.Common.{◌-◌, refl, ◌∙◌, arith}
use Rattle.trials.proofs.Playing.{all_more, all-stop, all_end}
use Rattle.trials.proofs.rounds.put_pages.Goals as goal

pub loop-page-init : goal.loop-page-init
loop-page-init c = (omega arith, refl, refl)

pub returns-then-t-ne0 : goal.returns-then-t-ne0
returns-then-t-ne0 c =
    let put = c.put_page-t in
    let l = c.loop-page in
    let a = c.args in
    all-stop a.byte a.pages.now l.page-index _ _ l.invariant.2 _ c.loop-page-test.true put.ensures c.if-t-ne0.true

pub loop-page-preserved : goal.loop-page-preserved
loop-page-preserved c =
    let put = c.put_page-t in
    let l = c.loop-page in
    let a = c.args in
    let some = c.loop-page-test.true in (
      omega (arith, some),
      put.auto.image ∙ l.invariant.1,
      all_more a.byte a.pages.now l.page-index _ _ l.invariant.2 _ some put.ensures c.if-t-ne0.false,
    )

pub returns : goal.returns
returns c =
    let l = c.loop-page in
    let a = c.args in
    all_end a.byte a.pages.now l.page-index _ _ l.invariant.2 c.loop-page-test.false
