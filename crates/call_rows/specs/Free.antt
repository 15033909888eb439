-- The rows of the call that makes a slot free, behind rows 8, 4 and 9, of sizes and places that were read; s is the slot that is chosen.
use Rattle.std.specs.Prelude.{ℕ, List, [], ◌∷◌, leb}
use Rattle.bounded.specs.Rows.{Row}
use Rattle.layout.specs.declared.Sizes.{Sizes}
use Rattle.state.specs.declared.Places.{Places}
use Rattle.state.specs.Held.{some_prepared}
use Rattle.operations.specs.Operations.{journal_full_of}

abbrev pub free_rows : Sizes → Places → ℕ → List Row
free_rows z at s = (some_prepared at.prepared, 23) ∷ (leb z.slots s, 22) ∷ (journal_full_of z at.head at.tail 1, 19) ∷ []
