use mathlib.Core.Path.{ap, ◌∙◌}
use lib.ListN.{length, replicate}
use Rattle.bounded.proofs.Tab.{filled_none, filled-turn, filled-ends, length-filled}
use Rattle.state.specs.Held.{held_at}
use Rattle.state_text.proofs.Rows.{row_copied}
use Rattle.state_words.specs.Decoded.{decoded}
use Rattle.state_text.proofs.held_by.Goals as goal

pub loop-s-init : goal.loop-s-init
loop-s-init c = filled_none _ _

pub loop-s-preserved : goal.loop-s-preserved
loop-s-preserved c =
    let a = c.args in
    filled-turn (held_at (decoded a.words.now).writers.held a.w) _ _ _ _ c.loop-s.invariant c.held_at.ensures

pub returns : goal.returns
returns c =
    let f = held_at (decoded c.args.words.now).writers.held c.args.w in
    let all = filled-ends f (replicate 16 0) _ 16 _ c.loop-s.auto.s-end c.loop-s-test.false c.loop-s.invariant in
    record {
      row = all ∙ row_copied c.args.words.now c.args.w c.all_words.ensures c.requires;
      long = ap length all ∙ length-filled 16 f (replicate 16 0);
    }
