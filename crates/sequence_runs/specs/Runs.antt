-- A sequence of calls on a fresh image: each call run to its end, but the last one cut after k stores, and what a mount then finds (request L9).
use Rattle.std.specs.Prelude.{ℕ, Bool, cond, List, [], ◌∷◌, ◌++◌, eqb, length, get_or, replicate}
use Rattle.layout.specs.declared.Sizes.{Sizes}
use Rattle.refinement.specs.Stores.{World}
use Rattle.refinement.specs.Run.{Call, mount, run, recall, exec, formatted_world}
use Rattle.sequence_runs.specs.declared.Played.{Played}
use Rattle.sequence_runs.specs.Calls.{call_of}

-- P = S = J = 1
abbrev pub small : Sizes
small = record { pages = 1; slots = 1; places = 1; entries = 0 }

-- a fresh image, and nothing past it
unfoldable pub fresh_world : World
fresh_world = formatted_world small (replicate 8320 0)

-- what the calls so far came to: their answers, the stores that the last one needed, and the world
pub record Ran : Type 0 where
  pub answers : List ℕ
  pub needed : ℕ
  pub world : World

abbrev pub start : Ran
start = record { answers = []; needed = 0; world = fresh_world }

-- the stores that a call may make: all that it needs, and the last one k
abbrev pub budget : Bool → ℕ → ℕ → ℕ
budget last k needed = cond last k needed

-- one call more (a refused one needs no stores)
unfoldable pub one_more : Bool → ℕ → Call → Ran → Ran
one_more last k c r =
    let d = exec c r.world in
    record {
      answers = r.answers ++ (d.number ∷ []);
      needed = d.stores;
      world = (exec (run (budget last k d.stores)) d.world).world;
    }

-- the calls of these numbers
unfoldable pub ran : ℕ → List ℕ → Ran → Ran
ran k [] r = r
ran k (c ∷ cs) r = ran k cs (one_more (eqb (length cs) 0) k (call_of c) r)

-- the first byte of line l of page 0 after a mount
unfoldable pub first_byte : World → ℕ → ℕ
first_byte v l = get_or (exec (recall 0 l (replicate 64 0)) (exec mount v).world).target 0 0

-- the stores that the last call needs, and the first bytes of both lines
abbrev pub played_of : Ran → Played
played_of r = record { needed = r.needed; first = first_byte r.world 0; second = first_byte r.world 1 }
