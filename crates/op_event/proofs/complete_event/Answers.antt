use mathlib.Core.Path.{sym, ◌∙◌}
use native.Mathlib.Omega.{arith}
use Rattle.state_words.specs.Decoded.{decoded}
use Rattle.op_event.proofs.Lines.{event-done, lines_same}
use Rattle.op_event.proofs.complete_event.Goals as goal

pub complete_commit-requires : goal.complete_commit-requires
complete_commit-requires c =
    let q = lines_same (decoded c.args.words.now) _ c.args.kind c.args.meter c.hold_lines.ensures in
    (c.requires.0 ∙ sym q.0, c.requires.1, rw q.1 c.requires.2, omega arith)

pub returns : goal.returns
returns c =
    event-done (decoded c.args.words.now) _ _ c.args.kind c.args.meter c.hold_lines.ensures c.complete_commit.ensures
