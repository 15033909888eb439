use Rattle.std.proofs.Common.{rules}
use Rattle.wear.proofs.Counting.{to-frames, to-header, to-tables, to-journal, to-padding, to_none}
use borrow.Author.Rules.{rules}
use Rattle.wear.proofs.shares.stores_to.Goals as goal

pub returns-in-0 : goal.returns-in-0
returns-in-0 c =
    to-frames c.args.e c.requires c.args.part c.args.n _ c.in-0.is c.between.ensures

pub returns-in-1 : goal.returns-in-1
returns-in-1 c =
    to-header c.args.e c.requires c.args.part c.args.n _ _ c.in-1.is c.between-in-1.ensures c.between-in-1-2.ensures

pub returns-in-2 : goal.returns-in-2
returns-in-2 c =
    to-tables c.args.e c.requires c.args.part c.args.n _ _ c.in-2.is c.between-in-2.ensures c.between-in-2-2.ensures

pub returns-in-3 : goal.returns-in-3
returns-in-3 c =
    to-journal c.args.e c.requires c.args.part c.args.n _ _ c.in-3.is c.between-in-3.ensures c.between-in-3-2.ensures

pub returns-in-4 : goal.returns-in-4
returns-in-4 c =
    to-padding c.args.e c.requires c.args.part c.args.n _ c.in-4.is c.between-in-4.ensures

pub returns-in_default : goal.returns-in_default
returns-in_default c =
    to_none c.args.e c.requires c.args.part c.args.n (search rules) (search rules) (search rules) (search rules) (search rules)
