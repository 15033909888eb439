use mathlib.Core.Path.{refl, sym}
use Rattle.moduli_text.proofs.TextLaws.{split-found, split-none}
use Rattle.moduli_text.proofs.split_at_byte.Goals as goal

pub returns-in-Some : goal.returns-in-Some
returns-in-Some c = split-found c.args.b c.in-Some.place c.args.s.now (sym c.in-Some.ensures)

pub returns-in-None : goal.returns-in-None
returns-in-None c = (refl, split-none c.args.b c.args.s.now (sym c.in-None.ensures))
