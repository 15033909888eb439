use Rattle.call_round.proofs.typed.all_low.Goals as goal

pub returns : goal.returns
returns c i = (c.type_inv.words i).fits
