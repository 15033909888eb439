-- What a call that a line asks for came to, and the stores that it needs.
use Prim.Native.Nat.{ℕ}
use mathlib.Core.Bool.{true, false}
use mathlib.Core.List.{List}
use mathlib.Core.Path.{◌≡◌, sym, ap₂, ◌∙◌}
use lib.Dec.{eqb}
use borrow.Author.Tests.{ne_eqb}
use Rattle.bounded.proofs.Tests.{case_on}
use Rattle.mount.specs.Mount.{mount_of}
use Rattle.state.specs.State.{State}
use Rattle.answers.specs.Answers.{Answer}
use Rattle.answers.specs.Answers.{number_of, stores_of, answered_at}
use Rattle.refinement.specs.Outcome.{Outcome}
use Rattle.refinement.specs.Calls.{world_of, run_of, run_bytes}
use Rattle.refinement.specs.Mount.{mount_call}
use Rattle.refinement.specs.Run.{result, exec, mount}
use Rattle.state_words.specs.Decoded.{decoded}
use Rattle.call_mount.specs.Replacing.{replacing}
use Rattle.op_stores.specs.declared.Until.TheVariants.{Asked}
use Rattle.op_stores.specs.Started.{Started}
use Rattle.calling.proofs.Asked.{asked-told}
use Rattle.std.specs.Prelude.{Option, None}
use Rattle.printing.specs.declared.Output.TheVariants.{Answered}
use Rattle.executing.specs.declared.Turned.{Turned}
use Rattle.executing.specs.Called.{budget, after_cut, world_at, result_at, turn_at, finished}

-- a call on words that changes no byte
pub call-told : (a : Answer) (words img : List ℕ) (o : Outcome) (before : List ℕ) → answered_at a (decoded words) ≡ o → img ≡ before
    → result_at a words img ≡ result o before
call-told a words img o before e b = ap₂ result e b

-- one that is asked for and not gone on with
pub ask-told : (a : Answer) (words img : List ℕ) (o : Outcome) (before : List ℕ) → Started a (decoded words) img o before Asked
    → result_at a words img ≡ result o before
ask-told a words img o before h = let e = asked-told a (decoded words) img o before h in call-told a words img o before e.0 e.1

-- a mount on words is a mount of the lists
pub mount-told : (st : State) (img : List ℕ) → result (replacing st (mount_call img)) img ≡ exec mount (world_of st img)
unfolding exec mount_call
mount-told st img = case_on (eqb (mount_of img).row 0) (λ t. rw t) (λ t. rw t)

-- a call with this answer, which needs stores or none, on these words and bytes
module _ (a : Answer) (words img : List ℕ) (cut : Option ℕ) (letter number needed : ℕ) (hn : number ≡ number_of a) (hs : needed ≡ stores_of a) (r : Turned) where
  pub finish-none : needed ≡ 0 → r ≡ record { mode = record { formatted = true; cut = cut }; output = Answered letter number 0 }
      → turn_at r words img ≡ finished letter cut (result_at a words img)
  unfolding finished
  finish-none z e = let t : stores_of a ≡ 0 = sym hs ∙ z in rw (e, t, ← hn)

  -- those made, with the answer of their run; then what a K has follow
  pub finish-made : (needed ≡ 0 → ⊥) → (k made last : ℕ) (b : Answer) (words' img' words'' : List ℕ) → k ≡ budget cut needed
      → answered_at b (decoded words') ≡ run_of (decoded words) img k → img' ≡ run_bytes (decoded words) img k → made ≡ stores_of b
      → last ≡ (after_cut cut number (world_at words' img')).number → decoded words'' ≡ (after_cut cut number (world_at words' img')).world.st
      → r ≡ record { mode = record { formatted = eqb last 0; cut = None }; output = Answered letter last made }
      → turn_at r words'' img' ≡ finished letter cut (result_at a words img)
  unfolding finished exec
  finish-made n k made last b words' img' words'' hk ho hb hm hl ha e =
      let t : eqb (stores_of a) 0 ≡ false = ne_eqb (stores_of a) 0 (λ q. n (hs ∙ q)) in
      rw (e, t, ← hs, ← hk, ← ho, ← hb, ← hn, ha, hl, hm)
