-- A run in two images, of the same state: the states stay equal, and the images alike.
use Prim.Native.Nat.{ℕ, zero, suc, ◌+◌, ◌≤◌, min}
use mathlib.Core.Bool.{false, cond, not}
use mathlib.Core.List.{List}
use mathlib.Core.Path.{◌≡◌, sym, ap, ◌∙◌, subst}
use native.Mathlib.Omega.{arith}
use lib.Dec.{eqb}
use lib.ListN.{length}
use borrow.Author.Tests.{le-ltb}
use Rattle.bounded.proofs.Rows.{row-none}
use Rattle.layout.specs.Layout.{image_length}
use Rattle.state.specs.State.{State}
use Rattle.operations.specs.Operations.{is_idle, needs}
use Rattle.refinement.specs.Stores.{World, completed, with_made, stepped, stepped_by, left}
use Rattle.refinement.specs.Calls.{world_of, step_rows, step_row, run_of, run_bytes}
use Rattle.refinement.specs.Run.{run, exec}
use Rattle.refinement.specs.Reference.{Reference, advances, turn}
use Rattle.refinement.proofs.Cases.{Invariant, standing-of}
use Rattle.refinement.proofs.CaseSound.{call-sound}
use Rattle.refinement.proofs.Viewed.{viewed-fits}
use Rattle.refinement.proofs.Steps.{run_none, run_step, run-kept}
use Rattle.leftovers.proofs.Alike.{Alike}
use Rattle.leftovers.proofs.AnyStore.{any-store}

-- the state after a store is told by the state before it
stepped-state : (v u : World) → v.st ≡ u.st → (stepped v).st ≡ (stepped u).st
unfolding stepped
stepped-state v u e =
    ap (λ (s : State). cond (eqb (s.pending.made + 1) (needs s s.pending.op)) (completed s s.pending.op) (with_made s (s.pending.made + 1))) e

pub run-state : (n : ℕ) (v u : World) → v.st ≡ u.st → (stepped_by n v).st ≡ (stepped_by n u).st
run-state zero v u e = ap (λ (w : World). w.st) (run_none v) ∙ e ∙ sym (ap (λ (w : World). w.st) (run_none u))
run-state (suc n) v u e =
    ap (λ (w : World). w.st) (run_step n v)
    ∙ stepped-state (stepped_by n v) (stepped_by n u) (run-state n v u e)
    ∙ sym (ap (λ (w : World). w.st) (run_step n u))

-- after n of the stores that are left the pending operation goes on
module _ (past : List ℕ) (st : State) (img : List ℕ) (b : Reference) (h : Invariant past (world_of st img) b) (e : is_idle st.pending.op ≡ false) (n : ℕ) (some : suc n ≤ left st) where
  abbrev pub on : State
  on = with_made st (st.pending.made + n)

  abbrev pub image : List ℕ
  image = (stepped_by n (world_of st img)).image

  world-on : stepped_by n (world_of st img) ≡ world_of on image
  world-on = ap (λ (s : State). world_of s image) (run-kept n (world_of st img) some)

  -- a run of n is taken
  row : step_row st img ≡ 0
  row =
      let s = standing-of (world_of st img) b h in
      sym (row-none (step_rows st img) (ap not s.valid, (le-ltb (length img) (image_length st.sizes) (viewed-fits st img b s.viewed), (e, tt))))

  ran : (exec (run n) (world_of st img)).world ≡ world_of on image
  unfolding exec run_of run_bytes
  ran = let k : min n (left st) ≡ n = omega arith in rw (row, k) world-on

  number : (exec (run n) (world_of st img)).number ≡ 0
  unfolding exec run_of
  number = row

  pub invariant-on : Invariant past (world_of on image) (advances n b.work b)
  invariant-on =
      let d = exec (run n) (world_of st img) in
      subst (λ (w : World). Invariant past w (advances n b.work b)) ran
      (subst (λ (i : ℕ). Invariant past d.world (turn (run n) i d.stores b)) number (call-sound (run n) tt (world_of st img) b h).related)

  pub image-on : (stepped_by (suc n) (world_of st img)).image ≡ (stepped (world_of on image)).image
  image-on = ap (λ (w : World). w.image) (run_step n (world_of st img)) ∙ ap (λ (w : World). (stepped w).image) world-on

module _ (past past' : List ℕ) (st : State) (x y : List ℕ) (b : Reference) (h : Invariant past (world_of st x) b) (k : Invariant past' (world_of st y) b) (e : is_idle st.pending.op ≡ false) (same : Alike x y) where
  pub run-alike : (n : ℕ) → n ≤ left st → Alike (stepped_by n (world_of st x)).image (stepped_by n (world_of st y)).image
  run-alike zero l =
      subst (λ (v : World). Alike v.image (stepped_by 0 (world_of st y)).image) (sym (run_none (world_of st x)))
      (subst (λ (v : World). Alike x v.image) (sym (run_none (world_of st y))) same)
  run-alike (suc n) l =
      let one =
      any-store past past' (with_made st (st.pending.made + n)) (stepped_by n (world_of st x)).image (stepped_by n (world_of st y)).image (advances n b.work b) (run-alike n (omega arith))
      (invariant-on past st x b h e n l) (invariant-on past' st y b k e n l) e in
      subst (λ (i : List ℕ). Alike i (stepped_by (suc n) (world_of st y)).image) (sym (image-on past st x b h e n l))
      (subst (λ (i : List ℕ). Alike (stepped (world_of (with_made st (st.pending.made + n)) (stepped_by n (world_of st x)).image)).image i) (sym (image-on past' st y b k e n l)) one)
