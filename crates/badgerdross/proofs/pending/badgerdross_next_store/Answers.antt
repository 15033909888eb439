use mathlib.Core.Path.{ap, ◌∙◌}
use Rattle.bounded.specs.Below.{one}
use Rattle.call_step.specs.declared.telling.NextStore.{NextStore}
use Rattle.badgerdross.proofs.pending.badgerdross_next_store.Goals as goal

pub returns-in-Ok-clause-told : goal.returns-in-Ok-clause-told
returns-in-Ok-clause-told c = λ q.
    let h = c.in-Ok.ensures in record {
      word = ap (λ (x : NextStore). x.at) h.1;
      beside = h.2;
      decides = c.one_if-decides.ensures ∙ ap (λ (x : NextStore). one x.decides) h.1;
      before = ap (λ (x : NextStore). x.before) h.1;
      left = h.3;
    }
