use Prim.Native.Nat.{◌-◌, ◌≤◌}
use mathlib.Core.Path.{◌≡◌}
use lib.ListN.{length}
use Rattle.refinement.specs.Stores.{stores_made}
use Rattle.state_words.specs.Decoded.{decoded}
use Rattle.call_commit.proofs.store_commit.Given as goal

abbrev pub invariant-loop-i : goal.invariant-loop-i
invariant-loop-i l = (l.i ≤ l.n) × (length l.image ≡ length l.initial.image) × (l.image ≡ stores_made (decoded l.words) l.i l.initial.image)

abbrev pub decreases-loop-i : goal.decreases-loop-i
decreases-loop-i l = l.n - l.i
