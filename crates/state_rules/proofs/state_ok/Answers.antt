use mathlib.Core.Path.{sym, ◌∙◌}
use Rattle.state_words.specs.Decoded.{decoded}
use Rattle.state_rules.proofs.WholeOk.{quiet-low, quiet-whole}
use Rattle.state_rules.proofs.state_ok.Goals as goal

pub pending_ok-requires : goal.pending_ok-requires
pending_ok-requires c = let a = c.args in quiet-low (decoded a.words.now) a.z a.at (sym c.quiet_ok.ensures ∙ c.if-quiet_ok.true)

pub returns-then-quiet_ok : goal.returns-then-quiet_ok
returns-then-quiet_ok c =
    let a = c.args in
    rw (← quiet-whole (decoded a.words.now) a.z a.at c.requires.0 c.requires.1, ← c.quiet_ok.ensures, c.if-quiet_ok.true) c.pending_ok.ensures

pub returns-else-quiet_ok : goal.returns-else-quiet_ok
returns-else-quiet_ok c =
    let a = c.args in
    rw (← quiet-whole (decoded a.words.now) a.z a.at c.requires.0 c.requires.1, ← c.quiet_ok.ensures, c.if-quiet_ok.false)
