-- A commit, or a confirm, is whole or absent: power may go after any of its stores, and the mount that follows finds the lines as they were before
-- it, unless the store that decides has landed, that of head or, of a wide commit, that of the entries' count; then it finds all that the writer wrote.
use Prim.Native.Nat.{ℕ, zero, suc, ◌-◌, ◌<◌, ◌≤◌, min}
use mathlib.Core.Bool.{Bool, true, false, not, cond}
use mathlib.Core.List.{List}
use mathlib.Core.Path.{◌≡◌, refl, sym, ap, subst}
use native.Mathlib.Omega.{arith}
use lib.Dec.{eqb}
use lib.ListN.{length}
use borrow.Author.Tests.{le-ltb, ltb-false}
use Rattle.bounded.specs.Rows.{refusal}
use Rattle.bounded.proofs.Rows.{row-none, none-apply}
use Rattle.layout.specs.declared.Sizes.{Sizes}
use Rattle.layout.specs.Layout.{image_length}
use Rattle.refinement.specs.Stores.{World}
use Rattle.refinement.specs.Calls.{commit_call_rows, commit_of, confirm_call_rows, confirm_of, step_rows, run_of}
use Rattle.refinement.specs.Run.{Call, commit, confirm, run, exec}
use Rattle.refinement.specs.Beside.{Finds, deciding, Whole, WholeOrAbsent, CommitWhole}
use Rattle.refinement.specs.Reference.{Reference, Work, idle, under, copying, committing, nothing, with_work, does, starts, starts_copy, continues, copies, advances, taken, turn, read_line, recall_line}
use Rattle.refinement.specs.Statement.{Lent}
use Rattle.state.specs.Wide.{is_wide}
use Rattle.operations.specs.Operations.{is_idle, confirm_rows}
use Rattle.operations.proofs.Taken.{confirm-taken}
use Rattle.refinement.proofs.Cases.{standing-of}
use Rattle.refinement.proofs.CommitValid.{confirm-narrow}
use Rattle.refinement.proofs.MountReadsBack.{reached-finds}
use Rattle.refinement.proofs.Reached.{Reached, reached-next, always}
use Rattle.refinement.proofs.Standing.{Standing}
use Rattle.refinement.proofs.Viewed.{viewed-fits}

-- ---- a run, by what the reference machine has under way

stores_left : Work → ℕ
stores_left idle = 0
stores_left (under t k) = k
stores_left (copying w k) = k

-- it is taken where something is
run-taken : {past : List ℕ} (k : ℕ) (u : World) (c : Reference) → Standing past u c → 0 < stores_left c.work → (exec (run k) u).number ≡ 0
unfolding exec run_of stores_left
run-taken k u c s some =
    let st = u.st in
    sym (row-none (step_rows st u.image)
    (ap not s.valid, (le-ltb (length u.image) (image_length st.sizes) (viewed-fits st u.image c s.viewed), (s.busy (λ e. omega (arith, some, ap stores_left e)), tt))))

-- and changes nothing where nothing is
run-idle : (k n m : ℕ) (c : Reference) → c.work ≡ idle → turn (run k) n m c ≡ c
run-idle k zero m c e = ap (λ (x : Work). advances k x c) e
run-idle k (suc n) m c e = refl

-- ---- the call asked for, k of its stores made, and power gone

module _ {past : List ℕ} (z : Sizes) (w k : ℕ) where
  -- all is done where no store was needed
  none-cut : (u : World) (b : Reference) → b.work ≡ idle → Reached z past u (does (committing w) b) → Finds z (exec (run k) u).world (read_line b w)
  none-cut u b quiet r =
      let c : Reference = does (committing w) b in
      let d = exec (run k) u in
      reached-finds z d.world c (subst (Reached z past d.world) (run-idle k d.number d.stores c quiet) (reached-next (run k) tt u c r))

  -- a run with stores left
  ran : (u : World) (c : Reference) → 0 < stores_left c.work → Reached z past u c → Reached z past (exec (run k) u).world (advances k c.work c)
  ran u c some r =
      let d = exec (run k) u in
      subst (λ (j : ℕ). Reached z past d.world (turn (run k) j d.stores c)) (run-taken k u c (standing-of u c r.related) some) (reached-next (run k) tt u c r)

  cut : (n : ℕ) (u : World) (b : Reference) → b.work ≡ idle → Reached z past u (starts (committing w) n b)
      → (k < n → Finds z (exec (run k) u).world (recall_line b)) × (n ≤ k → Finds z (exec (run k) u).world (read_line b w))
  unfolding stores_left
  cut zero u b quiet r = (λ l. absurd (omega arith), λ l. none-cut u b quiet r)
  cut (suc n) u b quiet r =
      let c : Reference = with_work (under (committing w) (suc n)) b in
      let d = exec (run k) u in
      let after : (i : ℕ) → suc n - min k (suc n) ≡ i → Reached z past d.world (continues (committing w) i c) =
      λ i q. subst (λ (j : ℕ). Reached z past d.world (continues (committing w) j c)) q (ran u c (omega arith) r) in (
        λ l. reached-finds z d.world (continues (committing w) (suc (n - k)) c) (after (suc (n - k)) (omega arith)),
        λ l. reached-finds z d.world (continues (committing w) 0 c) (after 0 (omega arith)),
      )

  -- of a wide commit the first store decides: what is left of it does nothing
  left_alone : (v : World) (i : ℕ) (c : Reference) → Reached z past v (continues nothing i c) → Finds z v (recall_line c)
  left_alone v zero c r = reached-finds z v (continues nothing 0 c) r
  left_alone v (suc i) c r = reached-finds z v (continues nothing (suc i) c) r

  wide-cut : (n : ℕ) (u : World) (b : Reference) → b.work ≡ idle → Reached z past u (starts_copy w n b)
      → (k < min 1 n → Finds z (exec (run k) u).world (recall_line b)) × (min 1 n ≤ k → Finds z (exec (run k) u).world (read_line b w))
  unfolding stores_left
  wide-cut zero u b quiet r = (λ l. absurd (omega arith), λ l. none-cut u b quiet r)
  wide-cut (suc n) u b quiet r =
      let c : Reference = with_work (copying w (suc n)) b in
      let d = exec (run k) u in
      let after : (i : ℕ) → min k (suc n) ≡ i → Reached z past d.world (copies w (suc n) i c) =
      λ i q. subst (λ (j : ℕ). Reached z past d.world (copies w (suc n) j c)) q (ran u c (omega arith) r) in (
        λ l. reached-finds z d.world c (after 0 (omega arith)),
        λ l. let i : ℕ = min k (suc n) - 1 in left_alone d.world (suc n - suc i) (does (committing w) c) (after (suc i) (omega arith)),
      )

  -- by the kind of the transaction
  cut-either : (wide : Bool) (n : ℕ) (u : World) (b : Reference) → b.work ≡ idle → Reached z past u (cond wide (starts_copy w n b) (starts (committing w) n b))
      → (k < cond wide (min 1 n) n → Finds z (exec (run k) u).world (recall_line b)) × (cond wide (min 1 n) n ≤ k → Finds z (exec (run k) u).world (read_line b w))
  cut-either true n u b quiet r = wide-cut n u b quiet r
  cut-either false n u b quiet r = cut n u b quiet r

module _ {past : List ℕ} (z : Sizes) (v : World) (b : Reference) (h : Reached z past v b) where
  s : Standing past v b
  s = standing-of v b h.related

  -- of a call that commits writer w
  whole-call : (c : Call) → Lent c → (w k : ℕ) (wide : Bool) → is_wide v.st.wide w ≡ wide
      → ((n : ℕ) → taken c n b ≡ cond wide (starts_copy w n b) (starts (committing w) n b)) → (exec c v).number ≡ 0 → not (is_idle v.st.pending.op) ≡ false → Whole z v b c w k
  whole-call c lent w k wide kind t number quiet =
      let d = exec c v in
      let r : Reached z past d.world (taken c d.stores b) = subst (λ (j : ℕ). Reached z past d.world (turn c j d.stores b)) number (reached-next c lent v b h) in
      let x = cut-either z w k wide d.stores d.world b (s.work-idle quiet) (subst (Reached z past d.world) (t d.stores) r) in
      let e : deciding v c w ≡ cond wide (min 1 d.stores) d.stores = ap (λ (y : Bool). cond y (min 1 d.stores) d.stores) kind in
      record { absent = λ l. x.0 (subst (λ (m : ℕ). k < m) e l); landed = λ l. x.1 (subst (λ (m : ℕ). m ≤ k) e l) }

  pub whole : WholeOrAbsent z v b
  unfolding exec commit_of confirm_of
  whole =
      let st = v.st in
      record {
        committed = λ w k e.
            let rows = none-apply (commit_call_rows st v.image w) (omega arith) e in
            whole-call (commit w) tt w k (eqb b.wide w) (s.book rows.1.1.0 w (omega (arith, ltb-false 3 w rows.1.1.1.0))) (λ n. refl) e rows.1.1.0;
        confirmed = λ w k e.
            let rows = none-apply (confirm_call_rows st v.image w) (omega arith) e in
            let row = sym (row-none (confirm_rows st w) rows.1.1.1) in
            whole-call (confirm w) tt w k false (confirm-narrow st w s.valid (confirm-taken st w row)) (λ n. refl) e rows.1.1.0;
      }

pub commit-whole : CommitWhole
commit-whole = always _ (λ z buffer v b h. whole z v b h)
