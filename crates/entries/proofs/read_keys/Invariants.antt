use Prim.Native.Nat.{min}
use mathlib.Core.Path.{◌≡◌}
use Rattle.bounded.specs.Tab.{filled}
use Rattle.layout.specs.Layout.{entry_word}
use Rattle.words.specs.Words.{word}
use Rattle.entries.specs.Entries.{no_keys}
use Rattle.entries.proofs.read_keys.Given as goal

-- After e turns the first e keys are read.
abbrev pub invariant-loop-e : goal.invariant-loop-e
invariant-loop-e l = (l.end ≡ min l.n l.z.entries) × (l.keys ≡ filled l.e (λ k. word l.image (entry_word l.z k)) no_keys)
