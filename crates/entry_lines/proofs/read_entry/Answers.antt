use Rattle.entry_lines.proofs.read_entry.Goals as goal

pub returns : goal.returns
returns c = rw (← c.entry_at.ensures) c.copy_words.ensures
