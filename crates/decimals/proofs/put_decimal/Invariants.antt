use mathlib.Core.Path.{◌≡◌}
use Prim.Native.Nat.{◌≤◌}
use lib.ListN.{length}
use Rattle.words.specs.Words.{over}
use Rattle.decimals.proofs.Printing.{lowest}
use Rattle.decimals.proofs.put_decimal.Given as goal

-- At each turn the k highest digits, laid over what is there, make the whole.
abbrev pub invariant-loop-k : goal.invariant-loop-k
invariant-loop-k l = (l.k ≤ l.n) × (length l.target ≡ length l.initial.target) × (over l.target l.at (lowest l.k l.rest) ≡ over l.initial.target l.at (lowest l.n l.v))
