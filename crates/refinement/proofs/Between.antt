-- What holds between two calls, an event being pending or not, and what every call's proof has to show.
use Prim.Native.Nat.{ℕ, zero, suc}
use mathlib.Core.Bool.{true, false, not}
use mathlib.Core.List.{List}
use mathlib.Core.Logic.{◌⊎◌, inl, inr}
use mathlib.Core.Path.{◌≡◌, ap}
use lib.ListN.{length}
use Rattle.bounded.proofs.Tests.{contradicts}
use Rattle.operations.specs.Operations.{is_idle}
use Rattle.validity.specs.Validity.{state_ok}
use Rattle.refinement.specs.Stores.{World}
use Rattle.refinement.specs.Run.{Call, exec}
use Rattle.refinement.specs.Reference.{Reference, idle, turn}
use Rattle.refinement.specs.Statement.{Right}
use Rattle.refinement.proofs.Invariant.{Durable, Narrow, Quiet, Related}
use Rattle.refinement.proofs.Moving.{Moving}
use Rattle.refinement.proofs.Sound.{Sound, related-valid, related-durable, related-narrow, is-quiet, busy-pending}

abbrev pub Between : List ℕ → World → Reference → Type 0
Between past v b = Related past v b ⊎ Moving past v.st v.image b

module _ {past : List ℕ} (v : World) (b : Reference) where
  pub between-valid : Between past v b → state_ok v.st ≡ true
  between-valid (inl r) = related-valid v.st v.image b r
  between-valid (inr m) = m.valid

  pub between-durable : Between past v b → Durable past v.st v.image b
  between-durable (inl r) = related-durable v.st v.image b r
  between-durable (inr m) = m.durable

  pub between-narrow : Between past v b → Narrow v.st b
  between-narrow (inl r) = related-narrow v.st v.image b r
  between-narrow (inr m) = m.narrow

  pub between-held : Between past v b → length v.st.writers.held ≡ 64
  between-held (inl (inl q)) = q.writers.sixty-four
  between-held (inl (inr q)) = q.writers.sixty-four
  between-held (inr m) = m.sixty-four

  pub between-opened : Between past v b → length v.st.writers.opened ≡ 4
  between-opened (inl (inl q)) = q.writers.four
  between-opened (inl (inr q)) = q.writers.four
  between-opened (inr m) = m.four

  -- an event is an operation
  pub moving-pending : Moving past v.st v.image b → is_idle v.st.pending.op ≡ false
  moving-pending m = ap is_idle m.event

  pub between-quiet : Between past v b → not (is_idle v.st.pending.op) ≡ false → Quiet past v.st v.image b
  between-quiet (inl r) e = is-quiet v.st v.image b r e
  between-quiet (inr m) e = contradicts (ap not (moving-pending m)) e

  pub between-pending : Between past v b → (b.work ≡ idle → ⊥) → is_idle v.st.pending.op ≡ false
  between-pending (inl (inl q)) n = absurd (n q.work)
  between-pending (inl (inr q)) n = busy-pending v.st v.image b q
  between-pending (inr m) n = moving-pending m

-- the answer is right, the sizes stay, and what holds between two calls holds again
pub record Sounds (past : List ℕ) (c : Call) (v : World) (b : Reference) : Type 0 where
  pub right : Right c (exec c v) b
  pub sizes : (exec c v).world.st.sizes ≡ v.st.sizes
  pub between : Between past (exec c v).world (turn c (exec c v).number (exec c v).stores b)

-- of a call that leaves no event pending
pub sounds : {past : List ℕ} {c : Call} (v : World) (b : Reference) → Sound past c v b → Sounds past c v b
sounds v b s = record { right = s.right; sizes = s.sizes; between = inl s.related }
