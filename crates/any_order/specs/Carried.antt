-- What holds in order holds in any order: the sentences of demand 3's lists on the state and the reference machine, and that the meters add up.
use Rattle.std.specs.Prelude.{ℕ, ◌≤◌, true, List, ◌≡◌, length}
use Rattle.layout.specs.declared.Sizes.{Sizes}
use Rattle.layout.specs.Layout.{sizes_ok, image_length}
use Rattle.words.specs.Words.{Bytes}
use Rattle.meters.specs.Meters.{fixed_moduli}
use Rattle.state.specs.State.{State}
use Rattle.refinement.specs.Calls.{world_of}
use Rattle.refinement.specs.Run.{formatted_world}
use Rattle.refinement.specs.Reference.{Reference, blank}
use Rattle.refinement.specs.Beside.{Always}
use Rattle.refinement.specs.Totals.{AllSpare, AllLend, AddUp, found, account, opened}
use Rattle.any_order.specs.AnyOrder.{Act, Torn, AllMay, in_order, acted_by, formatted_machine}

-- a sentence on the state and the reference machine that holds after every list of calls holds after every list of calls, cuts and fences
abbrev pub Carried : Type 1
Carried =
    (P : Sizes → List ℕ → State → Reference → Type 0) → Always (λ z buffer v b. P z buffer v.st b)
    → (z : Sizes) → sizes_ok z ≡ true → (buffer : List ℕ) → Bytes buffer → image_length z ≤ length buffer
    → (acts : List Act) → AllMay acts (formatted_machine z buffer)
    → let m = acted_by acts (formatted_machine z buffer) in P z buffer m.world.st m.reference

-- the meters that a mount finds after a cut, whatever image it leaves, add up as in `MetersAddUp`: credit is cash in minus cash out minus bet plus won of the
-- events completed, and each other meter rolls. One image that it may leave has all stores, so they add up without a cut too
abbrev pub MetersCarried : Type 0
MetersCarried =
    (z : Sizes) → sizes_ok z ≡ true → (buffer : List ℕ) → Bytes buffer → image_length z ≤ length buffer
    → (acts : List Act) → AllMay acts (formatted_machine z buffer)
    → AllSpare (in_order acts) (formatted_world z buffer) → AllLend (in_order acts) (formatted_world z buffer) fixed_moduli
    → let m = acted_by acts (formatted_machine z buffer) in
    (image : List ℕ) → Torn m image
    → AddUp (found (world_of m.world.st image)) (account (in_order acts) (formatted_world z buffer) blank opened)
