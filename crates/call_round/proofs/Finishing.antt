-- A call run to its end on words is the call and a run of the stores that it needs.
use Rattle.std.proofs.Common.{◌≡◌, ℕ, cond, eqb, List, [], sym, ap, ◌∙◌, ap₂, eq-eqb, eqb-true}
use borrow.Author.Tests.{eqb-false}
use Rattle.bounded.proofs.Tests.{case_on}
use Rattle.refinement.specs.Outcome.{Outcome}
use Rattle.refinement.specs.Stores.{World, left}
use Rattle.refinement.specs.Calls.{world_of}
use Rattle.refinement.specs.Run.{Call, Result, result, exec, run}
use Rattle.answers.specs.Answers.{Answer}
use Rattle.answers.specs.Answers.{answered_at}
use Rattle.state_words.specs.Decoded.{decoded}
use Rattle.op_stores.specs.declared.Until.TheVariants.{End}
use Rattle.op_stores.specs.Started.{started_of, started_bytes, started_run, Started}
use Rattle.op_stores.proofs.Calls.{in-lists}
use Rattle.call_round.specs.Round.{to_end, Finishes}

-- a call's answer with a world
abbrev result_at : Outcome → World → Result
result_at o v = record { number = o.number; stores = o.stores; world = v; target = [] }

module _ (o : Outcome) (img : List ℕ) where
  -- what a taken call needs is all left, and a refused one needs nothing: so the run that brings it to its end is one of as many stores
  run-of-all : (o.number ≡ 0 → left o.state ≡ o.stores) → ((o.number ≡ 0 → ⊥) → o.stores ≡ 0) → started_run o End ≡ o.stores
  run-of-all taken refused =
      case_on (eqb o.stores 0)
      (λ t. rw t (sym (eqb-true o.stores 0 t)))
      (λ t.
      rw t
      (case_on (eqb o.number 0)
      (λ u. taken (eqb-true o.number 0 u))
      (λ u. absurd (eqb-false o.stores 0 t (refused (eqb-false o.number 0 u))))))

  -- the answer is that of asking
  as-asked : result (started_of o img End) (started_bytes o img End) ≡ result_at o (world_of (started_of o img End).state (started_bytes o img End))
  as-asked = case_on (eqb o.stores 0) (λ t. rw t) (λ t. rw t)

  pub finishes : (o.number ≡ 0 → left o.state ≡ o.stores) → ((o.number ≡ 0 → ⊥) → o.stores ≡ 0)
      → (c : Call) (words : List ℕ) → exec c (world_of (decoded words) img) ≡ result o img
      → (a : Answer) (words' img' : List ℕ) → Started a (decoded words') img' o img End → Finishes c words img a words' img'
  finishes taken refused c words e a words' img' h =
      let n = run-of-all taken refused in
      let ran : world_of (started_of o img End).state (started_bytes o img End) ≡ (exec (run o.stores) (world_of o.state img)).world =
      sym (in-lists o img End) ∙ ap (λ (k : ℕ). (exec (run k) (world_of o.state img)).world) n in
      ap₂ result h.0 h.1 ∙ as-asked ∙ ap (result_at o) ran ∙ sym (ap to_end e)

  -- begin and abort need no store
  pub finishes-at-once : o.stores ≡ 0 → (c : Call) (words : List ℕ) → exec c (world_of (decoded words) img) ≡ result o img
      → (a : Answer) (words' : List ℕ) → answered_at a (decoded words') ≡ o → Finishes c words img a words' img
  finishes-at-once none c words e a words' h =
      let t = eq-eqb o.stores 0 none in
      let ran : (exec (run o.stores) (world_of o.state img)).world ≡ world_of o.state img = rw none (rw t at (in-lists o img End)) in
      ap (λ (x : Outcome). result x img) h ∙ ap (result_at o) (sym ran) ∙ sym (ap to_end e)

-- a call that has none, whether it is taken or not
pub no_stores : (row : ℕ) → ◌≡◌ {A = ℕ} (cond (eqb row 0) 0 0) 0
no_stores row = case_on (eqb row 0) (λ t. rw t) (λ t. rw t)
