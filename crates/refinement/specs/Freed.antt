-- What is promised of the call that frees a slot, on any state and any bytes, beside demand 3.
use Rattle.std.specs.Prelude.{ℕ, false, List, ◌∷◌, ◌⊎◌, ◌↔◌, ◌≡◌, length, get_or}
use Rattle.bounded.specs.Rows.{refusal}
use Rattle.state.specs.State.{State}
use Rattle.state.specs.Held.{some_prepared}
use Rattle.refinement.specs.Freeing.{Freeable, Chosen}
use Rattle.refinement.specs.Calls.{quiet_rows, world_of, consolidate_of, free_of}
use Rattle.refinement.specs.Run.{Call, consolidate, free, after}

-- there is a slot to choose, or none may be freed;
-- of the slot chosen the call is that slot's consolidation: the same answer, refused or taken, the same stores and state;
-- so whatever calls follow, cuts (which are mounts) among them, leave the same world;
-- it is turned back with 22 exactly if rows 8, 4 and 9 do not apply, no writer is prepared and no slot may be freed
pub record Frees (st : State) (img : List ℕ) : Type 0 where
  pub choice : ((s : ℕ) × Chosen st s) ⊎ ((s : ℕ) → Freeable st s → ⊥)
  pub as-consolidate : (s : ℕ) → Chosen st s → free_of st img ≡ consolidate_of st img (get_or st.table.page s 0)
  pub later : (s : ℕ) → Chosen st s → (calls : List Call) → after (free ∷ calls) (world_of st img)
      ≡ after (consolidate (get_or st.table.page s 0) ∷ calls) (world_of st img)
  pub none : ((free_of st img).number ≡ 22) ↔ ((refusal (quiet_rows st (length img)) ≡ 0) × (some_prepared st.writers.prepared ≡ false)
      × ((s : ℕ) → Freeable st s → ⊥))

abbrev pub FreesSlot : Type 0
FreesSlot = (st : State) (img : List ℕ) → Frees st img
