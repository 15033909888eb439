use Rattle.reporting.specs.Text.{printed_of}
use Rattle.reporting.proofs.print.Goals as goal

pub returns-in-None : goal.returns-in-None
unfolding printed_of
returns-in-None c = rw c.in-None.is c.put_output.ensures

pub returns-in-Some : goal.returns-in-Some
unfolding printed_of
returns-in-Some c = rw c.in-Some.is c.print_said.ensures
