use Rattle.std.proofs.Common.{[], refl, ap₂}
use Rattle.workbench.specs.declared.moduli.Moduli.{Moduli}
use Rattle.state.specs.State.{State}
use Rattle.cutting.proofs.Buffers.{holds-none, ends-none}
use Rattle.probe.proofs.started.Goals as goal

pub returns : goal.returns
returns c buffer words line out table e d =
    record {
      bench = ap₂ (λ (x : State) (t : Moduli). record { st = x; table = t; lent = 65536 }) e d;
      buffer = refl;
      lines = refl;
      waiting = refl;
      begun = holds-none line;
      unwritten = ends-none out [];
    }
