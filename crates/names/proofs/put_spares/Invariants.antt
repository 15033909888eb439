use mathlib.Core.Path.{◌≡◌}
use lib.ListN.{length, get_or}
use Rattle.bounded.specs.Tab.{filled}
use Rattle.names.proofs.put_spares.Given as goal

-- After s turns the first s names are set; at the end that is all of them.
abbrev pub invariant-loop-s : goal.invariant-loop-s
invariant-loop-s l = (length l.names ≡ l.fn.z.slots) × (l.names ≡ filled l.s (λ k. get_or l.spare k 0) l.initial.names)
