-- Every call while lines are copied: a step or a run copies on, a mount begins again, a recall shows the entries, and row 9 turns back any other.
use Prim.Native.Nat.{ℕ}
use mathlib.Core.List.{List}
use mathlib.Core.Path.{ap}
use Rattle.operations.specs.Operations.{is_idle}
use Rattle.refinement.specs.Stores.{World}
use Rattle.refinement.specs.Run.{Call, mount, checkpoint, free, step, begin, begin_wide, abort, commit, prepare, confirm, withdraw, consolidate, run, write, read, recall, event, load}
use Rattle.refinement.specs.Reference.{Reference}
use Rattle.refinement.proofs.Copies.{durable-fits}
use Rattle.refinement.proofs.Copying.{in_place, Copying}
use Rattle.refinement.proofs.CopyingStanding.{copying-standing}
use Rattle.refinement.specs.CutFormat.{ByState}
use Rattle.refinement.proofs.Nine.{nine-stays, nine-keeps, nine-right}
use Rattle.refinement.proofs.StandingCalls.{mount-kept, recall-kept}
use Rattle.refinement.proofs.WideRuns.{copied}
use Rattle.refinement.proofs.WideSteps.{wide_step, wide-run}
use Rattle.refinement.proofs.Cases.{Invariant, copying, Kept}

module _ {past : List ℕ} (v : World) (b : Reference) (C : Copying past v.st v.image b) where
  nine : (c : Call) → ByState c → Kept past c v b
  nine c a =
      let long = durable-fits past v.st v.image (in_place v.st v.image b) C.durable in
      let some = ap is_idle C.op in
      record {
        right = nine-right v C.valid long some b c a;
        sizes = ap (λ (u : World). u.st.sizes) (nine-stays v C.valid long some c a);
        related = nine-keeps v C.valid long some (Invariant past) b c a (copying C);
      }

  pub copying-sound : (c : Call) → Kept past c v b
  copying-sound mount = mount-kept v b (copying-standing v b C)
  copying-sound (recall p l target) = recall-kept v b (copying-standing v b C) (copying C) p l target
  copying-sound step = wide_step v b (copied C)
  copying-sound (run k) = wide-run v b (copied C) C.valid k
  copying-sound checkpoint = nine checkpoint tt
  copying-sound free = nine free tt
  copying-sound (begin w) = nine (begin w) tt
  copying-sound (begin_wide w) = nine (begin_wide w) tt
  copying-sound (abort w) = nine (abort w) tt
  copying-sound (commit w) = nine (commit w) tt
  copying-sound (prepare w) = nine (prepare w) tt
  copying-sound (confirm w) = nine (confirm w) tt
  copying-sound (withdraw w) = nine (withdraw w) tt
  copying-sound (consolidate p) = nine (consolidate p) tt
  copying-sound (write w p l o n bytes) = nine (write w p l o n bytes) tt
  copying-sound (read w p l target) = nine (read w p l target) tt
  copying-sound (event ms k m a) = nine (event ms k m a) tt
  copying-sound (load text) = nine (load text) tt
