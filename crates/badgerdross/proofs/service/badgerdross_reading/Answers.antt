use mathlib.Core.Path.{refl, sym, ◌∙◌}
use Rattle.badgerdross.proofs.service.badgerdross_reading.Goals as goal

pub returns-in-Some : goal.returns-in-Some
returns-in-Some c =
    let e = sym c.read_back.ensures ∙ c.in-Some.is in
    record {
      number = rw e refl;
      refusal = rw e refl;
    }

pub returns-in-None : goal.returns-in-None
returns-in-None c =
    let e = sym c.read_back.ensures ∙ c.in-None.is in
    record {
      number = rw e c.from.ensures;
      refusal = rw e refl;
    }
