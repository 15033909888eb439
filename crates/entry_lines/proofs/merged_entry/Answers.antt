use Rattle.entry_lines.proofs.merged_entry.Goals as goal

pub returns : goal.returns
returns c = rw (← c.entry_at.ensures) c.merged_at.ensures
