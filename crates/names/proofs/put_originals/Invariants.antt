use mathlib.Core.Path.{◌≡◌}
use lib.ListN.{length}
use Rattle.names.specs.Homes.{originals_put}
use Rattle.names.proofs.put_originals.Given as goal

-- After s turns the originals of the first s slots are put.
abbrev pub invariant-loop-s : goal.invariant-loop-s
invariant-loop-s l = (length l.homes ≡ l.z.pages) × (l.homes ≡ originals_put l.z l.page l.original l.s l.initial.homes)
