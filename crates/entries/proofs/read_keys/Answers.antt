use Prim.Native.Nat.{ℕ}
use mathlib.Core.Path.{ap, ◌∙◌}
use borrow.Author.Rules.{rules}
use Rattle.bounded.specs.Tab.{filled}
use Rattle.bounded.proofs.Tab.{filled_none, filled-turn, filled-ends}
use Rattle.layout.specs.Layout.{entry_word}
use Rattle.words.specs.Words.{word}
use Rattle.entries.specs.Entries.{no_keys, keys_from}
use Rattle.entries.proofs.read_keys.Goals as goal

pub loop-e-init : goal.loop-e-init
loop-e-init c = (search rules, filled_none _ _)

pub loop-e-preserved : goal.loop-e-preserved
loop-e-preserved c =
    let a = c.args in
    (search rules, filled-turn _ _ _ _ _ c.loop-e.invariant.1 (c.read_word.ensures ∙ ap (word a.image.now) c.entry_word.ensures))

pub returns : goal.returns
unfolding keys_from
returns c =
    let a = c.args in
    filled-ends _ _ _ _ _ c.loop-e.auto.e-end c.loop-e-test.false c.loop-e.invariant.1
    ∙ ap (λ (k : ℕ). filled k (λ e. word a.image.now (entry_word a.z e)) no_keys) c.loop-e.invariant.0
