-- Demand 3: by induction over the list of calls, with what holds between two calls.
use Prim.Native.Nat.{ℕ}
use mathlib.Core.List.{List, [], ◌∷◌}
use Rattle.layout.specs.declared.Sizes.{Sizes}
use Rattle.layout.specs.Layout.{image_length}
use Rattle.refinement.specs.Stores.{World}
use Rattle.refinement.specs.Run.{Call, Result, exec, formatted_world}
use Rattle.refinement.specs.Reference.{Reference, blank, turn}
use Rattle.refinement.specs.Statement.{Agrees, AllLent, Demand3}
use Rattle.refinement.proofs.CaseSound.{call-sound}
use Rattle.refinement.proofs.Reached.{Reached, past_same, reached-first, reached-next}

pub agrees_from : {z : Sizes} {past : List ℕ} (calls : List Call) → AllLent calls → (v : World) (b : Reference) → Reached z past v b
    → Agrees (image_length z) past calls v b
agrees_from [] lent v b h = tt
agrees_from (c ∷ cs) lent v b h =
    let d : Result = exec c v in
    let b' : Reference = turn c d.number d.stores b in
    let h' = reached-next c lent.0 v b h in
    ((call-sound c lent.0 v b h.related).right, past_same d.world b' h', agrees_from cs lent.1 d.world b' h')

pub agrees : Demand3
agrees z ok buffer bytes fits calls lent = agrees_from calls lent (formatted_world z buffer) blank (reached-first z ok buffer bytes fits)
