-- A call by its number, and its stores.
use Prim.Native.Nat.{ℕ, ◌+◌, ◌≤◌}
use mathlib.Core.Bool.{Bool}
use mathlib.Core.List.{List, [], ◌∷◌, ◌++◌}
use mathlib.Core.Path.{◌≡◌, sym, ap, ap₂, ◌∙◌}
use native.Mathlib.Omega.{arith}
use lib.Dec.{eqb}
use lib.ListN.{get_or, replicate, get_or-eq_default}
use borrow.Author.Tests.{eqb-true, eqb-false}
use Rattle.bounded.proofs.Tests.{case_on}
use Rattle.answers.specs.Answers.{Answer}
use Rattle.answers.specs.Answers.{number_of, stores_of, answered_at}
use Rattle.refinement.specs.Outcome.{Outcome}
use Rattle.refinement.specs.Stores.{World}
use Rattle.refinement.specs.Calls.{run_of, run_bytes}
use Rattle.refinement.specs.Recall.{recall_bytes}
use Rattle.refinement.specs.Run.{Call, Result, result, exec, run, checkpoint}
use Rattle.state_words.specs.Decoded.{decoded}
use Rattle.op_stores.specs.declared.Until.TheVariants.{Asked}
use Rattle.op_stores.specs.Started.{Started}
use Rattle.op_stores.proofs.Calls.{asked_is}
use Rattle.sequence_runs.specs.Calls.{twelve, call_of}
use Rattle.sequence_runs.specs.Runs.{budget, one_more, first_byte}
use Rattle.sequence_runs.specs.Turns.{CameOf, Turned}

-- ---- the call asked for

past : (n c : ℕ) → n ≤ c → (c ≡ n → ⊥) → n + 1 ≤ c
past n c h k = omega arith

pub past-eleven : (c : ℕ)
    → (c ≡ 1 → ⊥) → (c ≡ 2 → ⊥) → (c ≡ 3 → ⊥) → (c ≡ 4 → ⊥) → (c ≡ 5 → ⊥) → (c ≡ 6 → ⊥) → (c ≡ 7 → ⊥) → (c ≡ 8 → ⊥) → (c ≡ 9 → ⊥) → (c ≡ 10 → ⊥) → (c ≡ 11 → ⊥)
    → 1 ≤ c → 12 ≤ c
past-eleven c a b d e f g h i j k l some =
    past 11 c (past 10 c (past 9 c (past 8 c (past 7 c (past 6 c (past 5 c (past 4 c (past 3 c (past 2 c (past 1 c some a) b) d) e) f) g) h) i) j) k) l

-- what comes of a call that makes no store, and of one that is only asked for
module _ (a : Answer) (words img : List ℕ) (o : Outcome) where
  pub quiet_told : answered_at a (decoded words) ≡ o → result (answered_at a (decoded words)) img ≡ result o img
  quiet_told h = ap (λ (x : Outcome). result x img) h

  pub asked-told : (img' : List ℕ) → Started a (decoded words) img' o img Asked → result (answered_at a (decoded words)) img' ≡ result o img
  asked-told img' h = let e = asked_is o img in ap₂ result (h.0 ∙ e.0) (h.1 ∙ e.1)

module _ (c : ℕ) (v : World) (r : Result) where
  -- the call of number n, of which r came
  pub told : (n : ℕ) → c ≡ n → r ≡ exec (call_of n) v → r ≡ exec (call_of c) v
  told n e h = h ∙ ap (λ (x : ℕ). exec (call_of x) v) (sym e)

  -- any number but 1 to 11 is a checkpoint's
  last-call : (1 ≤ c → 12 ≤ c) → call_of c ≡ checkpoint
  last-call h =
      case_on (eqb c 0)
      (λ t. rw (eqb-true c 0 t))
      (λ t.
      case_on (eqb c 12)
      (λ u. rw (eqb-true c 12 u))
      (λ u.
      let some : 1 ≤ c = omega (arith, eqb-false c 0 t) in
      get_or-eq_default (checkpoint ∷ twelve) checkpoint {n = c} (omega (arith, h some, eqb-false c 12 u))))

  pub told-last : (1 ≤ c → 12 ≤ c) → r ≡ exec checkpoint v → r ≡ exec (call_of c) v
  told-last h e = e ∙ ap (λ (x : Call). exec x v) (sym (last-call h))

-- ---- its stores

pub turned : (last : Bool) (k c : ℕ) (words img : List ℕ) (x : Answer) (words₁ img₁ : List ℕ) (y : Answer) (words₂ img₂ : List ℕ) (number needed b : ℕ)
    → CameOf (call_of c) words img x words₁ img₁
    → number ≡ number_of x → needed ≡ stores_of x → b ≡ budget last k needed
    → answered_at y (decoded words₂) ≡ run_of (decoded words₁) img₁ b → img₂ ≡ run_bytes (decoded words₁) img₁ b
    → Turned last k c words img (record { number = number; needed = needed }) words₂ img₂
unfolding one_more exec
turned last k c words img x words₁ img₁ y words₂ img₂ number needed b e hn hs hb ho hi =
    let state : decoded words₂ ≡ (run_of (decoded words₁) img₁ b).state = ap (λ (o : Outcome). o.state) ho in
    record {
      more = λ answers before.
          ap (λ (d : Result). record {
            answers = answers ++ (d.number ∷ []);
            needed = d.stores;
            world = (exec (run (budget last k d.stores)) d.world).world;
          }) (sym e)
          ∙ rw (hn, ← hs, ← hb, state, hi);
    }

-- ---- the byte that a recall shows

pub first-told : (v : World) (img : List ℕ) (l : ℕ) (target : List ℕ)
    → target ≡ recall_bytes img 0 l (replicate 64 0) → v.image ≡ img → get_or target 0 0 ≡ first_byte v l
unfolding first_byte exec
first-told v img l target h e = rw (h, e)
