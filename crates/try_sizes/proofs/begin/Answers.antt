use native.Mathlib.Omega.{arith}
use Rattle.try_sizes.proofs.Going.{shows_first}
use Rattle.try_sizes.proofs.begin.Goals as goal

pub returns : goal.returns
returns c =
    let session = c.start-session in
    record {
      fits = omega arith;
      shows = λ image. shows_first session.result image c.args.line.now _ c.requires (session.ensures image);
    }
