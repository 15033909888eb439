use borrow.Author.Tests.{ne_eqb}
use mathlib.Core.Path.{sym, ap, ◌∙◌}
use Rattle.refinement.specs.Outcome.{Outcome}
use Rattle.badgerdross.proofs.Leaving.{leaves, keeps}
use Rattle.badgerdross.proofs.pending.badgerdross_run.Goals as goal

pub returns-then-n-ne0 : goal.returns-then-n-ne0
returns-then-n-ne0 c =
    let a = c.run-a.result in
    let h = c.run-a.ensures in
    let n = c.number_of-n.ensures in
    record {
      state = leaves a _ n _ _ h.outcome;
      bytes = h.bytes;
      words = keeps a _ n _ _ h.words;
      made = rw (ne_eqb c.number_of-n.result 0 c.if-n-ne0.true);
    }

pub returns : goal.returns
returns c =
    let a = c.run-a.result in
    let h = c.run-a.ensures in
    let n = sym c.if-n-ne0.false ∙ c.number_of-n.ensures in
    record {
      state = leaves a _ n _ _ h.outcome;
      bytes = h.bytes;
      words = keeps a _ n _ _ h.words;
      made = c.stores_of.ensures ∙ ap (λ (o : Outcome). o.stores) h.outcome;
    }
