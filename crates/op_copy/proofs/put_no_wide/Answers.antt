use Prim.Native.Nat.{◌+◌}
use mathlib.Core.Path.{refl, ap, ◌∙◌}
use lib.ListN.{set, length-set}
use Rattle.bounded.proofs.Tab.{filled_none, filled-turn, filled-ends}
use Rattle.state.specs.State.{State}
use Rattle.state_words.specs.Decoded.{decoded}
use Rattle.op_copy.proofs.NoWide.{key-put, none-put}
use Rattle.op_copy.proofs.put_no_wide.Invariants.{emptied}
use Rattle.op_copy.proofs.put_no_wide.Goals as goal

pub loop-e-init : goal.loop-e-init
loop-e-init c = (c.all_words.ensures, ap (emptied (decoded c.args.words.now)) (filled_none _ _))

pub loop-e-preserved : goal.loop-e-preserved
loop-e-preserved c =
    let l = c.loop-e in
    let st = decoded c.args.words.now in (
      length-set l.words (184 + l.e) 0 ∙ l.invariant.0,
      key-put l.words l.e 0 c.loop-e-test.true ∙ ap (λ (u : State). emptied u (set u.wide.keys l.e 0)) l.invariant.1 ∙ ap (emptied st) (filled-turn (λ i. 0) st.wide.keys _ l.e 0 refl refl),
    )

pub returns : goal.returns
returns c =
    let l = c.loop-e in
    let st = decoded c.args.words.now in
    none-put c.args.words.now l.words c.all_words.ensures l.invariant.0
    (l.invariant.1 ∙ ap (emptied st) (filled-ends (λ i. 0) st.wide.keys _ 64 l.e l.auto.e-end c.loop-e-test.false refl))
    (length-set l.words 8 4 ∙ l.invariant.0)
