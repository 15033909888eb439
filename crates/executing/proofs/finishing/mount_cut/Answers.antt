use mathlib.Core.Path.{sym, ap, ◌∙◌}
use Rattle.refinement.specs.Outcome.{Outcome}
use Rattle.refinement.specs.Run.{Result, result}
use Rattle.state_words.specs.Decoded.{decoded}
use Prim.Native.Nat.{ℕ}
use Rattle.std.specs.Prelude.{Option}
use Rattle.executing.specs.Called.{after_cut, world_at}
use Rattle.executing.proofs.Finished.{mount-told}
use Rattle.executing.proofs.finishing.mount_cut.Goals as goal

pub returns-in-None : goal.returns-in-None
returns-in-None c =
    let a = c.args in
    let w = world_at a.words.now a.image.now in
    let e = sym (ap (λ (k : Option ℕ). after_cut k a.number w) c.in-None.is) in
    record {
      number = ap (λ (d : Result). d.number) e;
      state = ap (λ (d : Result). d.world.st) e;
    }

pub returns-in-Some : goal.returns-in-Some
returns-in-Some c =
    let a = c.args in
    let w = world_at a.words.now a.image.now in
    let e =
    ap (λ (o : Outcome). result o a.image.now) c.mount-answer.ensures.state
    ∙ mount-told (decoded a.words.now) a.image.now
    ∙ sym (ap (λ (k : Option ℕ). after_cut k a.number w) c.in-Some.is) in
    record {
      number = c.number_of.ensures ∙ ap (λ (d : Result). d.number) e;
      state = ap (λ (d : Result). d.world.st) e;
    }
