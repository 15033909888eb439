use mathlib.Core.Path.{◌∙◌}
use borrow.Author.Tests.{ne_eqb}
use Rattle.badgerdross.proofs.Leaving.{leaves, keeps}
use Rattle.answers.specs.Answers.{number_of}
use Rattle.badgerdross.proofs.round.badgerdross_begin.Goals as goal

pub returns : goal.returns
returns c =
    let a = c.begin.result in
    let h = c.begin.ensures in
    let n = c.number_of.ensures in
    record {
      state = leaves a _ n _ _ h.state;
      words = keeps a _ n _ _ (λ z. h.words ∙ rw (ne_eqb (number_of a) 0 z));
    }
