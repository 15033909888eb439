use Rattle.call_round.proofs.calls.told.Goals as goal

pub returns : goal.returns
returns c = rw (c.stores_of.ensures, c.number_of.ensures)
