-- A slot to be freed: the consolidation of the slot chosen, asked for.
use Prim.Native.Nat.{ℕ}
use mathlib.Core.List.{List}
use mathlib.Core.Path.{refl}
use native.Mathlib.Omega.{arith}
use Rattle.bounded.specs.Rows.{refusal}
use Rattle.bounded.proofs.Rows.{none-apply}
use Rattle.refinement.specs.Freeing.{freed_page}
use Rattle.refinement.specs.Stores.{World}
use Rattle.refinement.specs.Calls.{free_call_rows, free_of}
use Rattle.refinement.specs.Run.{free, exec}
use Rattle.refinement.specs.Reference.{Reference}
use Rattle.refinement.proofs.Invariant.{Related}
use Rattle.refinement.proofs.Choice.{free-rows}
use Rattle.refinement.proofs.AskConsolidate.{consolidation-after}
use Rattle.refinement.proofs.Sound.{Sound}

pub free-sound : {past : List ℕ} (v : World) (b : Reference) → Related past v b → Sound past free v b
unfolding exec free_of
free-sound v b h =
    let st = v.st in
    let img = v.image in
    let a =
    consolidation-after free v b (refusal (free_call_rows st img)) (freed_page st) (λ e k. refl) h
    (λ e. ((none-apply (free_call_rows st img) (omega arith) e).1.1.0, free-rows st img e)) in
    record { right = tt; sizes = a.sizes; related = a.related }
