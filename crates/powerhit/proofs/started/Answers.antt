use Rattle.std.proofs.Common.{refl}
use Rattle.cutting.proofs.Buffers.{holds-none, ends-none}
use Rattle.powerhit.proofs.started.Goals as goal

pub returns : goal.returns
returns c image line out =
    record {
      lines = record { machine = c.start-mode.ensures; image = refl; lines = refl; waiting = refl; unwritten = ends-none out _ };
      next = holds-none line;
    }
