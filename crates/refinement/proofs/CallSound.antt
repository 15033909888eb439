-- Every call keeps what holds between two calls where no wide transaction is, nor is begun: one clause a call.
use Prim.Native.Nat.{ℕ}
use mathlib.Core.List.{List}
use mathlib.Core.Logic.{inl, inr}
use Rattle.refinement.specs.Stores.{World}
use Rattle.refinement.specs.Run.{Call, mount, checkpoint, free, step, begin, begin_wide, abort, commit, prepare, confirm, withdraw, consolidate, run, write, read, recall, event, load}
use Rattle.refinement.specs.Reference.{Reference}
use Rattle.refinement.specs.Statement.{Lent}
use Rattle.refinement.proofs.Invariant.{Related}
use Rattle.refinement.proofs.Sound.{Sound}
use Rattle.refinement.proofs.Between.{Between, sounds}
use Rattle.refinement.proofs.Cases.{narrow, Kept, kept}
use Rattle.refinement.proofs.BeginWide.{begin-wide-sound}
use Rattle.refinement.proofs.EventCalls.{event-sound, moving-sound}
use Rattle.refinement.proofs.Begin.{begin-sound}
use Rattle.refinement.proofs.Abort.{abort-sound}
use Rattle.refinement.proofs.ReadCall.{read-sound}
use Rattle.refinement.proofs.LoadCall.{load-sound}
use Rattle.refinement.proofs.Standing.{between-standing}
use Rattle.refinement.proofs.StandingCalls.{mount-kept, recall-kept}
use Rattle.refinement.proofs.AskWrite.{write-sound}
use Rattle.refinement.proofs.AskCommit.{commit-sound}
use Rattle.refinement.proofs.AskPrepare.{prepare-sound, confirm-sound, withdraw-sound}
use Rattle.refinement.proofs.AskConsolidate.{consolidate-sound}
use Rattle.refinement.proofs.AskFree.{free-sound}
use Rattle.refinement.proofs.AskCheckpoint.{checkpoint-sound}
use Rattle.refinement.proofs.StepCall.{step-sound, run_sound}

plain : {past : List ℕ} {c : Call} (v : World) (b : Reference) → Sound past c v b → Kept past c v b
plain v b s = kept v b (sounds v b s)

-- where no event is pending
related-sound : {past : List ℕ} (c : Call) → Lent c → (v : World) (b : Reference) → Related past v b → Kept past c v b
related-sound mount lent v b h = mount-kept v b (between-standing v b (inl h))
related-sound checkpoint lent v b h = plain v b (checkpoint-sound v b h)
related-sound free lent v b h = plain v b (free-sound v b h)
related-sound step lent v b h = plain v b (step-sound v b h)
related-sound (begin w) lent v b h = plain v b (begin-sound w v b h)
related-sound (begin_wide w) lent v b h = begin-wide-sound w v b (inl h)
related-sound (abort w) lent v b h = plain v b (abort-sound w v b h)
related-sound (commit w) lent v b h = plain v b (commit-sound w v b h)
related-sound (prepare w) lent v b h = plain v b (prepare-sound w v b h)
related-sound (confirm w) lent v b h = plain v b (confirm-sound w v b h)
related-sound (withdraw w) lent v b h = plain v b (withdraw-sound w v b h)
related-sound (consolidate p) lent v b h = plain v b (consolidate-sound p v b h)
related-sound (run k) lent v b h = plain v b (run_sound k v b h)
related-sound (write w p l o n bytes) lent v b h = plain v b (write-sound w p l o n bytes lent v b h)
related-sound (read w p l target) lent v b h = plain v b (read-sound w p l target v b h)
related-sound (recall p l target) lent v b h = recall-kept v b (between-standing v b (inl h)) (narrow (inl h)) p l target
related-sound (event ms k m a) lent v b h = kept v b (event-sound ms k m a v b h)
related-sound (load text) lent v b h = plain v b (load-sound text v b h)

pub narrow-sound : {past : List ℕ} (c : Call) → Lent c → (v : World) (b : Reference) → Between past v b → Kept past c v b
narrow-sound c lent v b (inl h) = related-sound c lent v b h
narrow-sound c lent v b (inr h) = moving-sound c v b h
