-- A consolidation asked for: it needs at least six stores, so it is pending.
use Prim.Native.Nat.{ℕ, ◌<◌}
use mathlib.Core.Bool.{false, not}
use mathlib.Core.List.{List}
use mathlib.Core.Logic.{inr}
use mathlib.Core.Path.{◌≡◌, refl, sym}
use native.Mathlib.Omega.{arith}
use lib.ListN.{replicate}
use Rattle.bounded.specs.Rows.{refusal}
use Rattle.bounded.proofs.Rows.{none-apply, row-none}
use Rattle.state.specs.State.{State}
use Rattle.state.specs.declared.Op.TheVariants.{Consolidate}
use Rattle.operations.specs.Operations.{is_idle, needs, consolidate_rows}
use Rattle.refinement.specs.Stores.{World}
use Rattle.refinement.specs.Calls.{world_of, asked, consolidate_call_rows, consolidate_of}
use Rattle.refinement.specs.Run.{Call, consolidate, exec}
use Rattle.refinement.specs.Reference.{Reference, nothing, starts, taken, turn}
use Rattle.refinement.proofs.Invariant.{Related}
use Rattle.refinement.proofs.Asked.{all_left, asked-busy}
use Rattle.refinement.proofs.Sound.{Sound, After, is-quiet}
use Rattle.refinement.proofs.Next.{asked-next}

some-needed : (st : State) (p : ℕ) → 0 < needs st (Consolidate p)
unfolding needs
some-needed st p = omega arith

-- of a call that asks for the consolidation of page p, by whatever rows
pub consolidation-after : {past : List ℕ} (c : Call) (v : World) (b : Reference) (row p : ℕ)
    → (row ≡ 0 → (n : ℕ) → taken c n b ≡ starts nothing n b) → Related past v b
    → (row ≡ 0 → (not (is_idle v.st.pending.op) ≡ false) × (refusal (consolidate_rows v.st p) ≡ 0))
    → After past v (world_of (asked row v.st (Consolidate p) (replicate 8 0)).state v.image) (turn c row (asked row v.st (Consolidate p) (replicate 8 0)).stores b)
consolidation-after c v b row p t h rows =
    let st = v.st in
    let img = v.image in
    asked-next (Related _) c v b (Consolidate p) (replicate 8 0) nothing row t h
    (λ e z. absurd (omega (arith, z, some-needed st p)))
    (λ e z.
    let q = is-quiet st img b h (rows e).0 in
    record { sizes = refl; related = inr (asked-busy st img b (Consolidate p) (replicate 8 0) nothing q refl z (rows e).1 (all_left st (Consolidate p) (replicate 8 0) nothing)) })

pub consolidate-sound : {past : List ℕ} (p : ℕ) (v : World) (b : Reference) → Related past v b → Sound past (consolidate p) v b
unfolding exec consolidate_of
consolidate-sound p v b h =
    let st = v.st in
    let img = v.image in
    let rows = none-apply (consolidate_call_rows st img p) (omega arith) in
    let a =
    consolidation-after (consolidate p) v b (refusal (consolidate_call_rows st img p)) p (λ e k. refl) h
    (λ e. ((rows e).1.1.0, sym (row-none (consolidate_rows st p) (rows e).1.1.1))) in
    record { right = tt; sizes = a.sizes; related = a.related }
