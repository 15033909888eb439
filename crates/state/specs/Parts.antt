-- A state put together from its parts: what a check that is lent its arrays speaks of.
use Rattle.std.specs.Prelude.{ℕ, Bool, List}
use Rattle.layout.specs.declared.Sizes.{Sizes}
use Rattle.state.specs.State.{State, Wide}
use Rattle.state.specs.declared.Pending.{Pending}

-- sizes, head, tail and next slot; the slots' pages, originals, spares, bitmaps and last positions; the map; the writers, with the one that is prepared;
-- the wide transaction; what is pending
abbrev pub state_of : Sizes → ℕ → ℕ → ℕ → List ℕ → List ℕ → List ℕ → List ℕ → List ℕ → List ℕ → List Bool → List ℕ → ℕ → Wide → Pending → State
state_of z head tail next page original spare bitmap last map opened held prepared wide pending =
    record {
      sizes = z;
      head = head;
      tail = tail;
      next = next;
      table = record { page = page; original = original; spare = spare; bitmap = bitmap; last = last };
      map = map;
      writers = record { opened = opened; held = held; prepared = prepared };
      wide = wide;
      pending = pending;
    }
