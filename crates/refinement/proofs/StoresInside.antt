-- Every store lies inside the image, as those of any valid state do; so the bytes past it stay.
use Prim.Native.Nat.{ℕ, ◌+◌, ◌*◌, ◌<◌, ◌≤◌}
use mathlib.Core.List.{List}
use mathlib.Core.Path.{subst}
use Rattle.layout.specs.declared.Sizes.{Sizes}
use Rattle.layout.specs.Layout.{image_length}
use Rattle.operations.specs.Operations.{needs}
use Rattle.refinement.specs.Stores.{World, store_at}
use Rattle.refinement.proofs.InRange.{store-in-range}
use Rattle.refinement.proofs.Pending.{needing}
use Rattle.refinement.specs.Beside.{StoresInside, PastKept}
use Rattle.refinement.specs.Reference.{Reference}
use Rattle.refinement.proofs.Reached.{Reached, past_same, always}
use Rattle.refinement.proofs.Cases.{standing-of}

inside : {past : List ℕ} (z : Sizes) (v : World) (b : Reference) → Reached z past v b → (i : ℕ) → i < needs v.st v.st.pending.op
    → 8 * store_at v.st v.st.pending.op i + 8 ≤ image_length z
inside z v b h i l =
    let st = v.st in
    let s = standing-of v b h.related in
    subst (λ (y : Sizes). 8 * store_at st st.pending.op i + 8 ≤ image_length y) h.sizes
    (store-in-range st s.valid (needing st st.pending.op i l) i l)

pub stores-inside : StoresInside
stores-inside = always _ (λ z buffer v b h. inside z v b h)

pub past-kept : PastKept
past-kept = always _ (λ z buffer v b h. past_same v b h)
