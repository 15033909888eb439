use Prim.Native.Nat.{ℕ, ◌+◌, ◌*◌, ◌<◌, ◌≤◌}
use mathlib.Core.List.{List}
use mathlib.Core.Path.{◌≡◌}
use Rattle.number_text.specs.Text.{Put, each, blanked}
use Rattle.state_text.proofs.put_each.Given as goal

-- the numbers so far fit their part of the room, and are those of any f that gives what the closure gives
abbrev pub invariant-loop-i : goal.invariant-loop-i
invariant-loop-i g l =
    (l.next ≤ l.at + 21 * (l.fn.width * l.i))
    × ((f : ℕ → List ℕ) → ((i : ℕ) (r : _) → i < l.fn.n → goal.F-post g l.fn.numbers i r → g.A.AsSlice.items r ≡ f i)
    → Put l.initial.out l.at (blanked (each l.i f)) l.out l.next)
