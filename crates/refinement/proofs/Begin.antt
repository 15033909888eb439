-- Begin opens a writer that holds nothing: nothing else changes.
use Prim.Native.Nat.{ℕ}
use mathlib.Core.Bool.{true, not}
use mathlib.Core.List.{List}
use mathlib.Core.Logic.{inl}
use mathlib.Core.Path.{◌≡◌, refl, ap, ◌∙◌}
use lib.ListN.{length-set}
use Rattle.bounded.specs.Rows.{refusal}
use Rattle.state.specs.State.{State}
use Rattle.refinement.specs.Stores.{World}
use Rattle.refinement.proofs.StateValid.{valid}
use Rattle.refinement.specs.Calls.{begin_rows, begin_of, with_writers}
use Rattle.refinement.proofs.Begun.{opening, begin-taken, begin-valid}
use Rattle.refinement.specs.Run.{begin, exec}
use Rattle.refinement.specs.Reference.{Reference}
use Rattle.refinement.proofs.Invariant.{Quiet, Related}
use Rattle.refinement.proofs.Sound.{Sound, is-quiet}
use Rattle.refinement.proofs.Keeps.{durable-kept}
use Rattle.refinement.proofs.Next.{answered-still}

begun : {past : List ℕ} (st : State) (img : List ℕ) (b : Reference) (w : ℕ) → refusal (begin_rows st w) ≡ 0 → Quiet past st img b
    → Quiet past (with_writers st (opening st w)) img b
begun st img b w row q =
    let ws = q.writers in
    record {
      valid = begin-valid st w row;
      pending = q.pending;
      durable = durable-kept st img b b st.next _ st.pending (λ p l h k. refl) q.durable;
      writers = record { four = length-set st.writers.opened w true ∙ ws.four; sixty-four = ws.sixty-four; held_low = ws.held_low; own-copy = ws.own-copy; no_writes = ws.no_writes; ready = ws.ready };
      work = q.work;
      narrow = record { state = q.narrow.state; book = q.narrow.book };
    }

pub begin-sound : {past : List ℕ} (w : ℕ) (v : World) (b : Reference) → Related past v b → Sound past (begin w) v b
unfolding exec begin_of
begin-sound w v b h =
    let st = v.st in
    let a =
    answered-still (Related _) (begin w) v b (refusal (begin_rows st w)) 0 (with_writers st (opening st w)) h
    (λ e.
    let q = is-quiet st v.image b h (ap not (begin-taken st w e).quiet) in
    record { sizes = refl; related = inl (begun st v.image b w e q) }) in
    record { right = tt; sizes = a.sizes; related = a.related }
