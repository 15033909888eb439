use mathlib.Core.Path.{refl, ap, ◌∙◌}
use Rattle.state.specs.State.{State}
use Rattle.operations.specs.Operations.{is_idle}
use Rattle.validity.specs.Validity.{state_ok}
use Rattle.refinement.specs.Mount.{copying}
use Rattle.state_pending.specs.Put.{with_pending}
use Rattle.call_mount.proofs.filling.put_copying.Goals as goal

pub put_pending-requires : goal.put_pending-requires
put_pending-requires c =
    let e = c.put_entries.ensures in
    (refl, ap (λ (u : State). is_idle u.pending.op) e ∙ c.requires.0, ap (λ (u : State). state_ok (with_pending u copying)) e ∙ c.requires.1)

pub returns : goal.returns
returns c = c.put_pending.ensures ∙ ap (λ (u : State). with_pending u copying) c.put_entries.ensures
