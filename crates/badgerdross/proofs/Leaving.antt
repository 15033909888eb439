-- From what a call on words comes to, to what its number, its words and its bytes are for a host in C.
use Prim.Native.Nat.{ℕ}
use mathlib.Core.List.{List}
use mathlib.Core.Path.{◌≡◌, ap, subst, ◌∙◌}
use lib.Dec.{eqb}
use Rattle.bounded.proofs.Tests.{case_on}
use Rattle.state.specs.State.{State}
use Rattle.refinement.specs.Outcome.{Outcome}
use Rattle.answers.specs.Answers.{Answer}
use Rattle.answers.specs.Answers.{number_of, stores_of}
use Rattle.op_stores.specs.declared.Until.{Until}
use Rattle.op_stores.specs.Started.{started_of, Started}
use Rattle.refinement.specs.Stores.{World}
use Rattle.refinement.specs.Calls.{world_of}
use Rattle.call_round.specs.declared.Room.{Room}
use Rattle.call_round.specs.declared.Round.{Round}
use Rattle.call_round.specs.Round.{Played, round_of}
use Rattle.badgerdross.specs.Left.{Leaves, Starts, Keeps, Plays}

-- r is the answer's number
module _ (a : Answer) (r : ℕ) (e : r ≡ number_of a) where
  pub leaves : (after : State) (o : Outcome) → record { number = number_of a; stores = stores_of a; state = after } ≡ o → Leaves r after o
  leaves after o h = (e ∙ ap (λ (x : Outcome). x.number) h, ap (λ (x : Outcome). x.state) h)

  pub starts : (after : State) (bytes : List ℕ) (o : Outcome) (image : List ℕ) (u v : Until) → u ≡ v → Started a after bytes o image u
      → Starts r after bytes o image v
  starts after bytes o image u v s h =
      let same : (started_of o image v).number ≡ o.number = case_on (eqb o.stores 0) (λ t. rw t) (λ t. rw t) in
      let g = subst (λ (w : Until). Started a after bytes o image w) s h in
      (e ∙ ap (λ (x : Outcome). x.number) g.0 ∙ same, ap (λ (x : Outcome). x.state) g.0, g.1)

  pub keeps : (after before : List ℕ) → ((number_of a ≡ 0 → ⊥) → after ≡ before) → Keeps r after before
  keeps after before h n = h (λ z. n (e ∙ z))

-- a round in one call
pub plays : (r : Round) (after : State) (bytes : List ℕ) (room asked : Room) (w : ℕ) (writes lent : List ℕ) (v : World) → room ≡ asked
    → record { world = world_of after bytes; number = r.number; call = r.call; stores = r.stores } ≡ round_of room w writes lent v
    → Plays r.number after bytes r.call (round_of asked w writes lent v)
plays r after bytes room asked w writes lent v s h =
    let g = rw s at h in
    (ap (λ (t : Played). t.number) g, ap (λ (t : Played). t.world.st) g, ap (λ (t : Played). t.world.image) g, ap (λ (t : Played). t.call) g)
