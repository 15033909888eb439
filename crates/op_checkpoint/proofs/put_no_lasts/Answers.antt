use mathlib.Core.Path.{refl, ap, ◌∙◌}
use Rattle.bounded.proofs.Tab.{filled_none, filled-turn, filled-ends}
use Rattle.replay.specs.Table.{no_position, with_last}
use Rattle.state.specs.State.{State}
use Rattle.state_words.specs.Decoded.{decoded, with_table}
use Rattle.op_checkpoint.proofs.put_no_lasts.Invariants.{lasts}
use Rattle.op_checkpoint.proofs.put_no_lasts.Goals as goal

pub loop-s-init : goal.loop-s-init
loop-s-init c = ap (lasts (decoded c.args.words.now)) (filled_none _ _)

pub loop-s-preserved : goal.loop-s-preserved
loop-s-preserved c =
    let st = decoded c.args.words.now in
    c.put_last.ensures ∙ ap (λ (u : State). with_table u (with_last u.table c.loop-s.s no_position)) c.loop-s.invariant ∙ ap (lasts st) (filled-turn (λ k. no_position) st.table.last _ c.loop-s.s no_position refl refl)

pub returns : goal.returns
returns c =
    c.loop-s.invariant ∙ ap (lasts (decoded c.args.words.now)) (filled-ends (λ k. no_position) _ _ _ c.loop-s.s c.loop-s.auto.s-end c.loop-s-test.false refl)
