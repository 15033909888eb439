use mathlib.Core.Path.{◌≡◌}
use Rattle.image.specs.Lines.{differ}
use Rattle.lines.proofs.words_differ.Given as goal

-- After k turns the first k words are compared.
abbrev pub invariant-loop-k : goal.invariant-loop-k
invariant-loop-k l = l.differ ≡ differ l.k l.a l.b
