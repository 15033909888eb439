-- The calls, where an event is asked for or pending: an event that is taken is pending; a step or a run makes its stores; a mount finds the pages without it;
-- and row 9 turns any other call back but recall, which changes nothing.
use Prim.Native.Nat.{ℕ, zero, suc, ◌-◌, ◌<◌, min}
use mathlib.Core.Bool.{cond}
use mathlib.Core.List.{List}
use mathlib.Core.Logic.{◌⊎◌, inl, inr, ⊎_elim}
use mathlib.Core.Path.{◌≡◌, refl, sym, ap, ◌∙◌, subst}
use native.Mathlib.Omega.{arith}
use lib.Dec.{eqb, eqb-suc-zero}
use Rattle.bounded.specs.Rows.{refusal}
use Rattle.bounded.proofs.Rows.{none-apply}
use Rattle.meters.specs.Meters.{event_needs}
use Rattle.state.specs.State.{State}
use Rattle.state.specs.declared.Op.TheVariants.{Event}
use Rattle.operations.specs.Operations.{needs}
use Rattle.refinement.specs.Settled.{with_lines}
use Rattle.refinement.specs.Stores.{World, stepped, stepped_by, left}
use Rattle.refinement.specs.Outcome.{answered}
use Rattle.refinement.specs.Calls.{world_of, event_of, event_line, event_second, event_call_rows, step_row, step_of, step_bytes, run_of, run_bytes}
use Rattle.refinement.specs.Run.{Call, mount, checkpoint, free, step, begin, begin_wide, abort, commit, prepare, confirm, withdraw, consolidate, run, write, read, recall, event, load, exec}
use Rattle.refinement.specs.Reference.{Reference, Task, Work, under, moving, with_work, starts, continues, advances, turn}
use Rattle.refinement.proofs.AskEvent.{event-moving}
use Rattle.refinement.proofs.Between.{Between, Sounds, moving-pending}
use Rattle.refinement.proofs.Copies.{durable-fits}
use Rattle.refinement.proofs.EventRows.{event-some, event-needs}
use Rattle.refinement.proofs.Invariant.{Quiet, Related}
use Rattle.refinement.proofs.Moving.{Moving}
use Rattle.refinement.specs.CutFormat.{ByState}
use Rattle.refinement.proofs.Nine.{nine-stays, nine-keeps, nine-right}
use Rattle.refinement.proofs.Pending.{pends}
use Rattle.refinement.proofs.Sound.{is-quiet}
use Rattle.refinement.proofs.StepCall.{many, idle-apart, stepped-sizes, stepped_by-sizes}
use Rattle.refinement.proofs.StepEvent.{Goes, step-event}
use Rattle.refinement.proofs.Next.{answered-next}
use Rattle.refinement.proofs.Standing.{between-standing}
use Rattle.refinement.proofs.StandingCalls.{mount-kept, recall-kept}
use Rattle.refinement.proofs.Cases.{Invariant, narrow, Kept, kept}

-- what follows a step or a run of it
between-goes : {past : List ℕ} (v : World) (b : Reference) → Goes past v b → Between past v b
between-goes v b (inl q) = inl (inl q)
between-goes v b (inr m) = inr m

-- ---- an event asked for

pub starts-some : (t : Task) (n : ℕ) (b : Reference) → 0 < n → starts t n b ≡ with_work (under t n) b
starts-some t zero b l = absurd (omega arith)
starts-some t (suc n) b l = refl

same-image : (row : ℕ) (img : List ℕ) → cond (eqb row 0) img img ≡ img
same-image zero img = refl
same-image (suc k) img = rw (eqb-suc-zero k)

pub event-sound : {past : List ℕ} (ms : List ℕ) (k m a : ℕ) (v : World) (b : Reference) → Related past v b → Sounds past (event ms k m a) v b
unfolding exec event_of
event-sound {past = past} ms k m a v b h =
    let st = v.st in
    let img = v.image in
    let row : ℕ = refusal (event_call_rows st img ms k m a) in
    let asked = with_lines st (Event k m a) (event_line st img ms k m a) (event_second st img ms k m a) in
    let r =
    answered-next (Between past) (event ms k m a) v b row (event_needs k) asked img (inl h)
    (λ e.
    let q : Quiet past st img b = is-quiet st img b h (none-apply (event_call_rows st img ms k m a) (omega arith) e).1.1.0 in
    record { sizes = refl; related = subst (Between past (world_of asked img)) (sym (starts-some (moving ms k m a) (event_needs k) b (event-some k))) (inr (event-moving st img b ms k m a q e)) }) in
    record {
      right = tt;
      sizes = r.sizes;
      between =
          subst (λ (i : List ℕ). Between past (world_of (answered row st (event_needs k) asked).state i) (turn (event ms k m a) row (answered row st (event_needs k) asked).stores b)) (same-image row img) r.related;
    }

-- ---- an event pending

module _ {past : List ℕ} (v : World) (b : Reference) (M : Moving past v.st v.image b) where
  abbrev st : State
  st = v.st

  abbrev img : List ℕ
  img = v.image

  -- row 9 turns any other call back
  others : (c : Call) → ByState c → Kept past c v b
  others c a =
      let fits = durable-fits past st img b M.durable in
      let pending = moving-pending v b M in
      record {
        right = nine-right v M.valid fits pending b c a;
        sizes = ap (λ (u : World). u.st.sizes) (nine-stays v M.valid fits pending c a);
        related = nine-keeps v M.valid fits pending (Invariant past) b c a (narrow (inr M));
      }

  -- ---- step and run

  one-step : Between past (stepped v) (advances 1 b.work b)
  one-step = between-goes (stepped v) (advances 1 b.work b) (step-event past st img b M)

  one_more : (u : World) (c : Reference) (t : Task) (m : ℕ) → c.work ≡ under t m → Goes past u c → Goes past (stepped u) (advances 1 c.work c)
  one_more u c t m work g = ⊎_elim (λ q. absurd (idle-apart t m c.work work q.work)) (λ m. step-event past u.st u.image c m) g

  some_left : 0 < left st
  some_left = let p = (pends st st.pending.op M.valid refl (moving-pending v b M)).made-low in omega (arith, p)

  work-left : b.work ≡ under (moving M.moduli M.kind M.meter M.amount) (left st)
  work-left =
      M.work ∙ sym (ap (λ (x : ℕ). under (moving M.moduli M.kind M.meter M.amount) (x - st.pending.made)) (ap (needs st) M.event ∙ event-needs st M.kind M.meter M.amount))

  pub run-stores : (k : ℕ) → Between past (stepped_by (min k (left st)) v) (advances k b.work b)
  run-stores k =
      let t : Task = moving M.moduli M.kind M.meter M.amount in
      let n : ℕ = min k (left st) in
      let g = many (Goes past) one_more b t (left st) v some_left work-left (inr M) n (omega arith) in
      subst (λ (w : Work). Between past (stepped_by n v) (advances k w b)) (sym work-left) (between-goes (stepped_by n v) (continues t (left st - n) b) g)

  step-goes : Sounds past step v b
  unfolding exec step_of step_bytes
  step-goes =
      let r = answered-next (Between past) step v b (step_row st img) _ (stepped v).st (stepped v).image (inr M) (λ e. record { sizes = stepped-sizes v; related = one-step }) in
      record { right = tt; sizes = r.sizes; between = r.related }

  run-goes : (k : ℕ) → Sounds past (run k) v b
  unfolding exec run_of run_bytes
  run-goes k =
      let n : ℕ = min k (left st) in
      let r = answered-next (Between past) (run k) v b (step_row st img) _ (stepped_by n v).st (stepped_by n v).image (inr M) (λ e. record { sizes = stepped_by-sizes n v; related = run-stores k }) in
      record { right = tt; sizes = r.sizes; between = r.related }

  -- ---- every call

  pub moving-sound-at : (c : Call) → Kept past c v b
  moving-sound-at mount = mount-kept v b (between-standing v b (inr M))
  moving-sound-at step = kept v b step-goes
  moving-sound-at (run k) = kept v b (run-goes k)
  moving-sound-at (recall p l target) = recall-kept v b (between-standing v b (inr M)) (narrow (inr M)) p l target
  moving-sound-at checkpoint = others checkpoint tt
  moving-sound-at free = others free tt
  moving-sound-at (begin w) = others (begin w) tt
  moving-sound-at (begin_wide w) = others (begin_wide w) tt
  moving-sound-at (abort w) = others (abort w) tt
  moving-sound-at (commit w) = others (commit w) tt
  moving-sound-at (prepare w) = others (prepare w) tt
  moving-sound-at (confirm w) = others (confirm w) tt
  moving-sound-at (withdraw w) = others (withdraw w) tt
  moving-sound-at (consolidate p) = others (consolidate p) tt
  moving-sound-at (write w p l o n bytes) = others (write w p l o n bytes) tt
  moving-sound-at (read w p l target) = others (read w p l target) tt
  moving-sound-at (event ms k m a) = others (event ms k m a) tt
  moving-sound-at (load text) = others (load text) tt

pub moving-sound : {past : List ℕ} (c : Call) (v : World) (b : Reference) → Moving past v.st v.image b → Kept past c v b
moving-sound c v b M = moving-sound-at v b M c
