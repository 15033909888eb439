-- Demand 3 as one theorem.
use mathlib.Core.List.{List}
use Prim.Native.Nat.{ℕ}
use lib.ListN.{drop}
use Rattle.layout.specs.declared.Sizes.{Sizes}
use Rattle.layout.specs.Layout.{image_length}
use Rattle.refinement.specs.Stores.{World}
use Rattle.refinement.specs.Reference.{Reference}
use Rattle.refinement.specs.Demand.{Demand, EveryDemand}
use Rattle.refinement.proofs.Cases.{standing-of}
use Rattle.refinement.proofs.CaseSound.{call-sound}
use Rattle.refinement.proofs.CheckpointRoom.{makes-room}
use Rattle.refinement.proofs.CommitWhole.{whole}
use Rattle.refinement.proofs.MountReadsBack.{reached-finds, reads-back}
use Rattle.refinement.proofs.NeverRefused.{call_kept}
use Rattle.refinement.proofs.Reached.{Reached, always, past_same}
use Rattle.refinement.proofs.Refused.{refused-unchanged}
use Rattle.refinement.proofs.Reports.{stores-reported}

-- of whatever world and reference machine are reached, by a list of calls or otherwise
pub demand-at : (z : Sizes) (buffer : List ℕ) (v : World) (b : Reference) → Reached z (drop (image_length z) buffer) v b → Demand z buffer v b
demand-at z buffer v b h =
    record {
      right = λ c lent. (call-sound c lent v b h.related).right;
      sound = call_kept v b (standing-of v b h.related);
      refused = λ c. refused-unchanged c v;
      reports = λ c. stores-reported c v;
      whole = whole z v b h;
      room = makes-room z v b h;
      finds = reached-finds z v b h;
      reads-back = reads-back v b (standing-of v b h.related).viewed;
      past = past_same v b h;
    }

pub every-demand : EveryDemand
every-demand = always Demand demand-at
