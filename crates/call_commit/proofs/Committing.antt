-- A narrow writer's commit on words. z and at are what the code read; c is the count of slots, n how many stores there are and k how many of them are made.
use Prim.Native.Nat.{ℕ, ◌+◌, ◌*◌, ◌<◌, ◌≤◌}
use mathlib.Core.Bool.{true}
use mathlib.Core.List.{List, []}
use mathlib.Core.Path.{◌≡◌, refl, sym, ap, ap₂, ◌∙◌, subst}
use native.Mathlib.Omega.{arith}
use lib.ListN.{length, replicate}
use borrow.Author.Tests.{eq-eqb, ne_eqb}
use Rattle.layout.specs.declared.Sizes.{Sizes}
use Rattle.layout.specs.Layout.{Legal, image_length}
use Rattle.replay.specs.Table.{slots_shaped}
use Rattle.state.specs.State.{State}
use Rattle.state.specs.declared.Places.{Places}
use Rattle.state.specs.declared.Op.{Op}
use Rattle.state.specs.declared.Op.TheVariants.{Commit}
use Rattle.state.specs.Held.{held_slots}
use Rattle.operations.specs.Operations.{commit_needs, needs}
use Rattle.refinement.specs.Commit.{commit_at_of, commit_value_of, commit_done}
use Rattle.refinement.specs.Stores.{store_at, store_value, stores_made, completed, with_made, state_after}
use Rattle.refinement.specs.Calls.{asked}
use Rattle.refinement.proofs.Going.{ranges-of}
use Rattle.std.specs.Prelude.{Ok}
use Rattle.answers.specs.Answers.{Answer}
use Rattle.op_pieces.specs.declared.Piece.{Piece}
use Rattle.op_pieces.specs.Pieces.{Next}
use Rattle.op_writer.specs.Served.{Served}
use Rattle.state_pending.specs.Put.{with_pending as put}
use Rattle.op_stores.specs.declared.Until.{Until}
use Rattle.op_stores.specs.Asks.{Asks, Allowed}
use Rattle.op_stores.specs.Started.{budget_in, budget, Started}
use Rattle.op_stores.proofs.Leaning.{legal, head-low, shapes, commit-low, commit-next, next_of, pending_next}
use Rattle.op_stores.proofs.Allowing.{now-commit, without_lines, allowed-asks}
use Rattle.op_stores.proofs.Starting.{put-served, put-needs, put-left, put-budget, budget-few, started-asked}
use Rattle.call_commit.specs.Commits.{Commits}

-- how many stores there are
pub commit-counted : (z : Sizes) (st : State) (w c n : ℕ) → z ≡ st.sizes → c ≡ length (held_slots z st.writers.held w) → n ≡ commit_needs c → n ≡ needs st (Commit w)
unfolding needs
commit-counted z st w c n ez ec en = en ∙ ap commit_needs (ec ∙ ap (λ (y : Sizes). length (held_slots y st.writers.held w)) ez)

-- ---- while it is pending

module _ (z : Sizes) (at : Places) (st : State) (w c : ℕ) (h : Commits z at st w c) where
  pub piece-leans : Legal z × (at.head < 2 * z.places) × (slots_shaped z st.table ≡ true) × (w < 4) × (c ≡ length (held_slots z st.writers.held w))
  piece-leans = let g = h.served in (legal z at st g, head-low z at st g, shapes z at st g, commit-low z at st g refl h.op, h.counted)

  pub piece-next : (i : ℕ) (img : List ℕ) (p : Piece) → image_length z ≤ length img
      → Next (λ m. commit_at_of z at.head st.writers.held w) (λ m. commit_value_of z at.head st.table st.writers.held w) i (image_length z) img p
      → Next (λ m. store_at st st.pending.op) (λ m. store_value st m st.pending.op) (st.pending.made + i) (length img) img p
  piece-next i img p long n =
      let same : i ≡ 0 + i = omega arith in
      let from : Next (λ m. store_at st st.pending.op) (λ m. store_value st m st.pending.op) i (image_length z) img p = next_of z at st h.served i img p h.op (commit-next z at st h.served i img p w n) in
      pending_next z st st.pending.op 0 i img p refl (sym h.none_made) long
      (subst (λ (k : ℕ). Next (λ m. store_at st st.pending.op) (λ m. store_value st m st.pending.op) k (image_length z) img p) same from)

  pub all-needs : needs st (Commit w) ≡ needs st st.pending.op
  all-needs = ap (needs st) (sym h.op)

  -- what n stores leave: the last one, and before it
  pub last_made : (n all : ℕ) → all ≡ needs st (Commit w) → n ≡ all → commit_done st w ≡ state_after st n
  last_made n all ea e =
      rw (eq-eqb (st.pending.made + n) (needs st st.pending.op) (omega (arith, h.none_made, ea, e, all-needs))) (ap (completed st) (sym h.op))

  pub some-made : (n all : ℕ) → all ≡ needs st (Commit w) → (n ≡ all → ⊥) → with_made st n ≡ state_after st n
  some-made n all ea e =
      let k : n ≡ st.pending.made + n = omega (arith, h.none_made) in
      rw (ne_eqb (st.pending.made + n) (needs st st.pending.op) (λ q. e (omega (arith, h.none_made, ea, q, all-needs)))) (ap (with_made st) k)

-- ---- asked for

module _ (z : Sizes) (at : Places) (st : State) (w : ℕ) (h : Allowed z at st (Commit w)) where
  pub counts : Legal z × (w < 4)
  counts = (rw h.sizes (ranges-of st h.ok).legal, now-commit st h.rows refl)

  pub completes : (z ≡ st.sizes) × Legal z × (st.head < 2 * z.places) × (w < 4)
  completes = (h.sizes, counts.0, rw h.sizes (ranges-of st h.ok).head-low, counts.1)

  -- it needs stores
  module _ (img : List ℕ) (long : image_length z ≤ length img) (c n : ℕ) (ec : c ≡ length (held_slots z st.writers.held w)) (en : n ≡ needs st (Commit w)) (some : n ≡ 0 → ⊥) where
    pub asks : Asks z at st img (without_lines z at st (Commit w) h)
    asks = allowed-asks z at st (Commit w) h img long n en some

    abbrev pending : State
    pending = put st (without_lines z at st (Commit w) h)

    pub goes_on : (now : State) (u : Until) (k : ℕ) → now ≡ put st (without_lines z at st (Commit w) h) → k ≡ budget_in u (Commit w) 0 n → Commits z at now w c × (n ≡ needs now (Commit w)) × (k ≤ n)
    goes_on now u k e ek =
        let all : n ≡ needs pending (Commit w) = en ∙ sym (put-needs z at st img (without_lines z at st (Commit w) h) asks) in
        let b : k ≡ budget u pending = put-budget z at st img (without_lines z at st (Commit w) h) asks u n k en ek in
        let few : k ≤ n = omega (arith, b, budget-few u pending, put-left z at st img (without_lines z at st (Commit w) h) asks, en) in
        let cs : Commits z at pending w c = record { served = put-served z at st img (without_lines z at st (Commit w) h) asks; op = refl; none_made = refl; counted = ec } in
        (subst (λ (s : State). Commits z at s w c) (sym e) cs, all ∙ ap (λ (s : State). needs s (Commit w)) (sym e), few)

    pub went : (now : State) (u : Until) (k : ℕ) (a : Answer) (bs : List ℕ) (after : State) → now ≡ put st (without_lines z at st (Commit w) h) → k ≡ budget_in u (Commit w) 0 n → a ≡ Ok n
        → bs ≡ stores_made now k img → after ≡ state_after now k → Started a after bs (asked 0 st (Commit w) (replicate 8 0)) img u
    went now u k a bs after e ek ea eb es =
        let b : k ≡ budget u pending = put-budget z at st img (without_lines z at st (Commit w) h) asks u n k en ek in
        started-asked z at st img (without_lines z at st (Commit w) h) asks u a bs after (ea ∙ ap Ok en) (eb ∙ ap₂ (λ (s : State) (m : ℕ). stores_made s m img) e b) (es ∙ ap₂ state_after e b) [] refl refl
