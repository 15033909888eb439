use Rattle.state_held.proofs.held.key_right.Goals as goal

pub returns : goal.returns
returns c = rw (c.find_entry-first.ensures, c.key_at-key.ensures)
