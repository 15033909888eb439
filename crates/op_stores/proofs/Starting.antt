-- An operation started. The state with it pending is valid, and its run is not turned back; so what a call came to is what its definition says.
use Prim.Native.Nat.{ℕ, ◌-◌, ◌<◌, ◌≤◌, min}
use mathlib.Core.Bool.{true, false, not}
use mathlib.Core.List.{List}
use mathlib.Core.Path.{◌≡◌, refl, sym, ap, ap₂, ◌∙◌}
use native.Mathlib.Omega.{arith}
use lib.Dec.{eqb}
use lib.ListN.{length, replicate}
use Rattle.std.specs.Prelude.{Ok, Err}
use borrow.Author.Tests.{ne_eqb, le-ltb}
use Rattle.bounded.specs.Rows.{Row, refusal}
use Rattle.bounded.proofs.Rows.{row-none}
use Rattle.bounded.proofs.Tests.{row_keeps}
use Rattle.layout.specs.declared.Sizes.{Sizes}
use Rattle.layout.specs.Layout.{Legal, image_length}
use Rattle.state.specs.State.{State}
use Rattle.state.specs.declared.Places.{Places}
use Rattle.state.specs.declared.Pending.{Pending}
use Rattle.state.specs.declared.Op.{Op}
use Rattle.state.specs.declared.Op.TheVariants.{Idle, Write, Commit, Consolidate, Checkpoint, Event, Prepare, Confirm, Log, Copy, Format}
use Rattle.operations.specs.Operations.{Asked as AskedOf, needs}
use Rattle.operations.proofs.Taken.{op-asked}
use Rattle.validity.specs.Validity.{state_ok}
use Rattle.refinement.specs.Settled.{with_lines}
use Rattle.refinement.specs.Stores.{completed, stores_made, state_after, left}
use Rattle.refinement.specs.Outcome.{Outcome, answered}
use Rattle.refinement.specs.Calls.{with_pending, world_of, asked, step_rows, step_row, run_of, run_bytes}
use Rattle.refinement.proofs.Going.{ranges-of, entries-of}
use Rattle.refinement.proofs.LinesAsked.{needs-lines, lines-valid}
use Rattle.refinement.proofs.Steps.{run-image, run-after}
use Rattle.rows.specs.declared.Refusal.{Refusal}
use Rattle.rows.specs.Numbers.{number}
use Rattle.rows.proofs.Numbers.{number-some}
use Rattle.answers.specs.Answers.{Answer}
use Rattle.state_pending.specs.Put.{with_pending as put}
use Rattle.op_rows.specs.Seen.{seen}
use Rattle.op_writer.specs.Served.{Served}
use Rattle.op_stores.specs.declared.Until.{Until}
use Rattle.op_stores.specs.declared.Until.TheVariants.{Asked, Fence, End}
use Rattle.op_stores.specs.Asks.{Asks}
use Rattle.op_stores.specs.Started.{fence_in, budget_in, budget, Started}

-- ---- how far

pub fence-few : (op : Op) (m n : ℕ) → fence_in op m n ≤ n
fence-few Idle m n = omega arith
fence-few (Write w p l o k) m n = omega arith
fence-few (Commit w) m n = omega arith
fence-few (Consolidate p) m n = omega arith
fence-few Checkpoint m n = omega arith
fence-few (Event k i a) m n = omega arith
fence-few (Prepare w) m n = omega arith
fence-few (Confirm w) m n = omega arith
fence-few (Log p l o k) m n = omega arith
fence-few Copy m n = row_keeps (λ (x : ℕ). x ≤ n) (eqb m 0) 0 (n - 1) (omega arith) (omega arith)
fence-few Format m n = row_keeps (λ (x : ℕ). x ≤ n) (eqb m 0) 0 (n - 1) (omega arith) (omega arith)

budget-in-few : (u : Until) (op : Op) (m n : ℕ) → budget_in u op m n ≤ n
budget-in-few Asked op m n = omega arith
budget-in-few Fence op m n = fence-few op m n
budget-in-few End op m n = omega arith

pub budget-few : (u : Until) (st : State) → budget u st ≤ left st
budget-few u st = budget-in-few u st.pending.op st.pending.made (left st)

-- ---- the operation pending

module _ (z : Sizes) (at : Places) (st : State) (img : List ℕ) (p : Pending) (h : Asks z at st img p) where
  as-lines : put st p ≡ with_lines st p.op p.line p.second
  as-lines = ap (λ (m : ℕ). put st (record { op = p.op; made = m; line = p.line; second = p.second })) h.none_made

  pub put-valid : state_ok (put st p) ≡ true
  put-valid = rw as-lines (lines-valid st p.line p.second p.op h.ok h.fits h.rows h.some)

  pub put-served : Served z at (put st p)
  put-served = record { sizes = h.sizes; places = h.places; ok = put-valid; busy = h.busy }

  pub put-needs : needs (put st p) p.op ≡ needs st p.op
  put-needs = ap (λ (s : State). needs s p.op) as-lines ∙ needs-lines st p.line p.second p.op p.op

  -- none of its stores is made
  pub put-left : left (put st p) ≡ needs st p.op
  put-left = omega (arith, put-needs, h.none_made)

  -- what is counted before it is put; k is how many stores there are, n how many of them are made, as the code found them
  pub asks-leans : Legal z × (at.count ≤ 64) × AskedOf z st.table.page p.op
  asks-leans =
      let r = (ranges-of st h.ok).legal in
      rw (h.sizes, h.places) (r, omega (arith, (entries-of st h.ok).few, r.entries-high), op-asked st p.op h.rows)

  pub asks-needs : (k : ℕ) → k ≡ needs (seen z at st) p.op → k ≡ needs st p.op
  asks-needs k e = e ∙ rw (h.sizes, h.places)

  pub put-budget : (u : Until) (k n : ℕ) → k ≡ needs st p.op → n ≡ budget_in u p.op 0 k → n ≡ budget u (put st p)
  put-budget u k n ek en = en ∙ ap₂ (λ (m l : ℕ). budget_in u p.op m l) (sym h.none_made) (ek ∙ sym put-left)

  pub go-may : (now : State) (u : Until) (n : ℕ) → now ≡ put st p → n ≡ budget u (put st p) → Served z at now × (n ≤ left now)
  go-may now u n e b =
      let few = budget-few u (put st p) in
      rw (e, b) (put-served, few)

  run-taken : step_row (put st p) img ≡ 0
  run-taken =
      let long : image_length st.sizes ≤ length img = rw h.sizes at h.long in
      sym (row-none (step_rows (put st p) img) (ap not put-valid, (le-ltb (length img) (image_length st.sizes) long, (h.busy, tt))))

  -- a run of so many stores
  run-state : (n : ℕ) → n ≤ left (put st p) → (run_of (put st p) img n).state ≡ state_after (put st p) n
  unfolding run_of
  run-state n l =
      let m : min n (left (put st p)) ≡ n = omega (arith, l) in
      let some : 0 < left (put st p) = omega (arith, put-left, h.some) in
      rw (run-taken, m) (run-after n (world_of (put st p) img) h.busy some l)

  run-bytes : (n : ℕ) → n ≤ left (put st p) → run_bytes (put st p) img n ≡ stores_made (put st p) n img
  unfolding run_bytes
  run-bytes n l =
      let m : min n (left (put st p)) ≡ n = omega (arith, l) in
      rw (run-taken, m) (run-image n (world_of (put st p) img) l)

  -- ---- what a call came to that started it: a is its answer, bs and after are the bytes and the state after it, as `start` says
  module _ (u : Until) (a : Answer) (bs : List ℕ) (after : State) (ha : a ≡ Ok (needs st p.op)) (hb : bs ≡ stores_made (put st p) (budget u (put st p)) img) (hs : after ≡ state_after (put st p) (budget u (put st p))) where
    pub started : (o : Outcome) → o ≡ record { number = 0; stores = needs st p.op; state = put st p } → Started a after bs o img u
    started o e =
        let some : eqb (needs st p.op) 0 ≡ false = ne_eqb (needs st p.op) 0 (λ q. omega (arith, q, h.some)) in
        let few = budget-few u (put st p) in
        rw (e, some, ha) (rw (run-state (budget u (put st p)) few) (ap (λ (s : State). record { number = 0; stores = needs st p.op; state = s }) hs), hb ∙ sym (run-bytes (budget u (put st p)) few))

    -- of a call that no row turns back
    module _ (rs : List Row) (none : 0 ≡ refusal rs) where
      -- its outcome is that of asking for the operation, which keeps one finished line at most
      pub started-asked : p.second ≡ replicate 8 0 → Started a after bs (asked (refusal rs) st p.op p.line) img u
      started-asked q =
          let some : eqb (needs st p.op) 0 ≡ false = ne_eqb (needs st p.op) 0 (λ x. omega (arith, x, h.some)) in
          let zero : refusal rs ≡ 0 = sym none in
          let same : put st p ≡ with_pending st p.op p.line = as-lines ∙ ap (λ (l : List ℕ). with_lines st p.op p.line l) q in
          started (asked (refusal rs) st p.op p.line) (rw (zero, some) (ap (λ (s : State). record { number = 0; stores = needs st p.op; state = s }) (sym same)))

      -- its outcome is the operation pending, with so many stores
      pub started-pending : (n : ℕ) (after-asking : State) → n ≡ needs st p.op → after-asking ≡ put st p → Started a after bs (answered (refusal rs) st n after-asking) img u
      started-pending n s en es =
          let zero : refusal rs ≡ 0 = sym none in
          started (answered (refusal rs) st n s) (rw (zero, en, es))

-- ---- the other ways that a call comes to its end: turned back by a row, or complete with no store

module _ (st : State) (img : List ℕ) (u : Until) (rs : List Row) where
  pub started-refused : (r : Refusal) → number r ≡ refusal rs → (n : ℕ) (after : State) → Started (Err r) st img (answered (refusal rs) st n after) img u
  started-refused r e n after =
      let some : eqb (number r) 0 ≡ false = ne_eqb (number r) 0 (number-some r) in
      rw (sym e) (rw some refl, rw some refl)

  module _ (none : 0 ≡ refusal rs) where
    pub started_none : (a : Answer) (after : State) → a ≡ Ok 0 → Started a after img (answered (refusal rs) st 0 after) img u
    started_none a after ha =
        let zero : refusal rs ≡ 0 = sym none in
        (rw (zero, ha), rw zero)

    pub started-done : (op : Op) (line : List ℕ) → needs st op ≡ 0 → (a : Answer) (after : State) → a ≡ Ok 0 → after ≡ completed st op
        → Started a after img (asked (refusal rs) st op line) img u
    started-done op line n a after ha hs =
        let zero : refusal rs ≡ 0 = sym none in
        (rw (zero, n, ha, hs), rw (zero, n))
