use Rattle.state_text.proofs.turn_numbers.Goals as goal

pub returns : goal.returns
returns c = rw (c.smaller.ensures, c.smaller-2.ensures, c.places_in-at.ensures)
