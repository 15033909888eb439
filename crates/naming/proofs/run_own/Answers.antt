use Rattle.naming.proofs.NamingLaws.{first-other}
use Rattle.naming.proofs.run_own.Goals as goal

pub returns-then-names-from : goal.returns-then-names-from
returns-then-names-from c = first-other c.args.names.now _ _ c.requires.0 c.if-names-from.true
