use mathlib.Core.Path.{◌≡◌}
use mathlib.Core.List.{[], ◌∷◌}
use lib.ListN.{drop}
use Rattle.text.specs.Fields.{fields, line_of}
use Rattle.text.proofs.Reading.{State, Kept, going}
use Rattle.text.proofs.parse.numbers.Given as goal

-- At each turn the line is what the state and the fields left give.
abbrev pub invariant-loop-b : goal.invariant-loop-b
invariant-loop-b l = let s : State = record { digits = l.digits; letter = l.letter; numbers = l.numbers; count = l.count; n = l.n; v = l.v } in
    Kept s × (line_of l.digits ((l.letter ∷ []) ∷ fields l.text) ≡ going s (fields (drop l.b-index l.text)))
