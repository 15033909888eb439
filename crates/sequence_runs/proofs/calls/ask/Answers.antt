use borrow.Author.Rules.{rules}
use Rattle.refinement.specs.Stores.{World}
use Rattle.refinement.specs.Run.{exec}
use Rattle.sequence_runs.specs.Turns.{world_in}
use Rattle.sequence_runs.proofs.Called.{quiet_told, asked-told, told, past-eleven, told-last}
use Rattle.sequence_runs.proofs.calls.ask.Lts
use Rattle.sequence_runs.proofs.calls.ask.Tie
use Rattle.sequence_runs.proofs.calls.ask.Reads
use Rattle.sequence_runs.proofs.calls.ask.Goals as goal

abbrev At-Start : Type 0
At-Start = Lts.Start Tie.the-claims Reads.Pre Reads.Post Tie.handed_clauses

-- each number has its call
-- the world that the call is made in
abbrev made_in : At-Start → World
made_in s = world_in s.args.words.now s.args.image.now

pub returns-in-1 : goal.returns-in-1
unfolding exec
returns-in-1 c =
    told c.args.c (made_in c.before.before.before.before.before) _ 1 c.in-1.is (quiet_told c.begin.result _ c.args.image.now _ c.begin.ensures.state)

pub returns-in-2 : goal.returns-in-2
unfolding exec
returns-in-2 c =
    told c.args.c (made_in c.before.before.before.before.before) _ 2 c.in-2.is (quiet_told c.begin-in-2.result _ c.args.image.now _ c.begin-in-2.ensures.state)

pub returns-in-3 : goal.returns-in-3
returns-in-3 c =
    told c.args.c (made_in c.before.before.before.before.before.before.before.before) _ 3 c.in-3.is c.write_first.ensures

pub returns-in-4 : goal.returns-in-4
returns-in-4 c =
    told c.args.c (made_in c.before.before.before.before.before.before.before.before) _ 4 c.in-4.is c.write_first-in-4.ensures

pub returns-in-5 : goal.returns-in-5
returns-in-5 c =
    told c.args.c (made_in c.before.before.before.before.before.before.before.before) _ 5 c.in-5.is c.write_first-in-5.ensures

pub returns-in-6 : goal.returns-in-6
returns-in-6 c =
    told c.args.c (made_in c.before.before.before.before.before.before.before.before) _ 6 c.in-6.is c.write_first-in-6.ensures

pub returns-in-7 : goal.returns-in-7
unfolding exec
returns-in-7 c =
    told c.args.c (made_in c.before.before.before.before.before.before.before.before) _ 7 c.in-7.is (asked-told c.commit.result _ c.args.image.now _ _ c.commit.ensures.started)

pub returns-in-8 : goal.returns-in-8
unfolding exec
returns-in-8 c =
    told c.args.c (made_in c.before.before.before.before.before.before.before.before) _ 8 c.in-8.is (asked-told c.commit-in-8.result _ c.args.image.now _ _ c.commit-in-8.ensures.started)

pub returns-in-9 : goal.returns-in-9
unfolding exec
returns-in-9 c =
    told c.args.c (made_in c.before.before.before.before.before) _ 9 c.in-9.is (quiet_told c.abort.result _ c.args.image.now _ c.abort.ensures.state)

pub returns-in-10 : goal.returns-in-10
unfolding exec
returns-in-10 c =
    told c.args.c (made_in c.before.before.before.before.before) _ 10 c.in-10.is (quiet_told c.abort-in-10.result _ c.args.image.now _ c.abort-in-10.ensures.state)

pub returns-in-11 : goal.returns-in-11
unfolding exec
returns-in-11 c =
    told c.args.c (made_in c.before.before.before.before.before.before.before.before) _ 11 c.in-11.is (asked-told c.consolidate.result _ c.args.image.now _ _ c.consolidate.ensures.started)

pub returns-in_default : goal.returns-in_default
unfolding exec
returns-in_default c =
    told-last c.args.c (made_in c.before.before.before.before.before.before.before.before) _
    (past-eleven c.args.c (search rules) (search rules) (search rules)
    (search rules) (search rules) (search rules) (search rules) (search rules) (search rules) (search rules) (search rules))
    (asked-told c.checkpoint.result _ c.args.image.now _ _ c.checkpoint.ensures.started)
