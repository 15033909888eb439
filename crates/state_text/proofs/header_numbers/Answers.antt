use Rattle.state_text.proofs.header_numbers.Goals as goal

pub returns : goal.returns
returns c = rw (c.sizes_in-z.ensures, c.places_in-at.ensures)
