use Rattle.reporting.proofs.print_said.Goals as goal

pub returns-in-Answered : goal.returns-in-Answered
returns-in-Answered c = rw c.in-Answered.is c.put_output.ensures

pub returns-in-Store : goal.returns-in-Store
returns-in-Store c = rw (c.in-Store.is, ← c.one_if.ensures) c.put_counted.ensures

pub returns-in-Hash : goal.returns-in-Hash
returns-in-Hash c = rw c.in-Hash.is c.put_counted-in-Hash.ensures

pub returns-in-Numbers : goal.returns-in-Numbers
returns-in-Numbers c = rw c.in-Numbers.is c.put_numbered.ensures
