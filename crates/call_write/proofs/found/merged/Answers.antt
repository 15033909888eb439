use Rattle.call_write.proofs.found.merged.Goals as goal

pub merged_entry-requires : goal.merged_entry-requires
merged_entry-requires c = let p = c.requires in (p.0, p.1.0 c.if-found.true, p.3, p.4, p.5)

pub returns-then-found : goal.returns-then-found
returns-then-found c = rw c.if-found.true c.merged_entry.ensures

pub merged_line-requires : goal.merged_line-requires
merged_line-requires c = let p = c.requires in (p.0, p.1.1 c.if-found.false, p.2, p.3, p.4, p.5)

pub returns : goal.returns
returns c = rw c.if-found.false c.merged_line.ensures
