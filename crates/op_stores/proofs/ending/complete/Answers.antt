use mathlib.Core.Logic.{⊎_elim}
use mathlib.Core.Path.{sym, ap, ◌∙◌}
use native.Mathlib.Omega.{arith}
use Rattle.bounded.proofs.Tests.{contradicts}
use Rattle.state.specs.State.{State}
use Rattle.state.specs.declared.Places.{Places}
use Rattle.operations.specs.Operations.{is_idle}
use Rattle.refinement.specs.Stores.{completed}
use Rattle.refinement.proofs.Going.{ranges-of}
use Rattle.state_words.specs.Decoded.{decoded}
use Rattle.op_stores.proofs.Leaning.{legal, head-low, next_low, few, write-taken, commit-low, confirm-low, consolidate-leans, event-leans, log-leans}
use Rattle.op_stores.proofs.ending.complete.Lts
use Rattle.op_stores.proofs.ending.complete.Tie
use Rattle.op_stores.proofs.ending.complete.Reads
use Rattle.op_stores.proofs.ending.complete.Goals as goal

abbrev At-Start : Type 0
At-Start = Lts.Start Tie.the-claims Reads.Pre Reads.Post

abbrev st : At-Start → State
st s = decoded s.args.words.now

pub complete_write-requires : goal.complete_write-requires
complete_write-requires c =
    let e = c.in-Write.is in
    let t = write-taken c.args.z c.args.at (st c.before.before) c.requires.0 c.requires.1 e in
    let n = next_low c.args.z c.args.at (st c.before.before) c.requires.0 in
    (c.requires.0.sizes, legal c.args.z c.args.at (st c.before.before) c.requires.0, rw c.requires.0.places at n, t.args.writer-low, omega (arith, t.args.page-low, (ranges-of (st c.before.before) c.requires.0.ok).legal.pages-high), t.args.line_low)

pub complete_commit-requires : goal.complete_commit-requires
complete_commit-requires c =
    let e = c.in-Commit.is in
    let n = head-low c.args.z c.args.at (st c.before.before) c.requires.0 in
    (c.requires.0.sizes, legal c.args.z c.args.at (st c.before.before) c.requires.0, rw c.requires.0.places at n, ⊎_elim (commit-low c.args.z c.args.at (st c.before.before) c.requires.0 c.requires.1) (confirm-low c.args.z c.args.at (st c.before.before) c.requires.0 c.requires.1) e)

pub complete_consolidate-requires : goal.complete_consolidate-requires
complete_consolidate-requires c =
    let e = c.in-Consolidate.is in
    let t = consolidate-leans c.args.z c.args.at (st c.before.before) c.requires.0 c.requires.1 e in
    (c.requires.0.sizes, c.requires.0.places, ranges-of (st c.before.before) c.requires.0.ok, t.1, omega (arith, t.0.page-low, t.0.legal.pages-high))

pub complete_checkpoint-requires : goal.complete_checkpoint-requires
complete_checkpoint-requires c =
    (c.requires.0.sizes, c.requires.0.places, legal c.args.z c.args.at (st c.before.before) c.requires.0)

pub complete_event-requires : goal.complete_event-requires
complete_event-requires c =
    let e = c.in-Event.is in
    let n = head-low c.args.z c.args.at (st c.before.before) c.requires.0 in
    let m = next_low c.args.z c.args.at (st c.before.before) c.requires.0 in
    (c.requires.0.sizes, legal c.args.z c.args.at (st c.before.before) c.requires.0, rw c.requires.0.places at n, rw c.requires.0.places at m, (event-leans c.args.z c.args.at (st c.before.before) c.requires.0 c.requires.1 e).1)

pub complete_log-requires : goal.complete_log-requires
complete_log-requires c =
    let e = c.in-Log.is in
    let t = log-leans c.args.z c.args.at (st c.before.before) c.requires.0 c.requires.1 e in
    let z = legal c.args.z c.args.at (st c.before.before) c.requires.0 in
    (ap (λ (p : Places). p.wide) c.requires.0.places, ap (λ (p : Places). p.count) c.requires.0.places, omega (arith, few c.args.z c.args.at (st c.before.before) c.requires.0, z.entries-high), omega (arith, t.0, z.entries-high), omega (arith, t.1, z.pages-high), t.2)

pub complete_copy-requires : goal.complete_copy-requires
complete_copy-requires c =
    (c.requires.0.sizes, legal c.args.z c.args.at (st c.before.before) c.requires.0, ap (λ (p : Places). p.wide) c.requires.0.places)

pub returns-in-Idle : goal.returns-in-Idle
returns-in-Idle c =
    contradicts (ap is_idle (sym c.requires.1 ∙ c.in-Idle.is)) c.requires.0.busy

pub returns-in-Write : goal.returns-in-Write
returns-in-Write c =
    c.complete_write.ensures ∙ ap (completed (st c.before.before.before)) (sym c.in-Write.is)

pub returns-in-Commit : goal.returns-in-Commit
returns-in-Commit c =
    let e = c.complete_commit.ensures in
    ⊎_elim (λ q. e ∙ ap (completed (st c.before.before.before)) (sym q)) (λ q. e ∙ ap (completed (st c.before.before.before)) (sym q)) c.in-Commit.is

pub returns-in-Consolidate : goal.returns-in-Consolidate
returns-in-Consolidate c =
    c.complete_consolidate.ensures ∙ ap (completed (st c.before.before.before)) (sym c.in-Consolidate.is)

pub returns-in-Checkpoint : goal.returns-in-Checkpoint
returns-in-Checkpoint c =
    c.complete_checkpoint.ensures ∙ ap (completed (st c.before.before.before)) (sym c.in-Checkpoint.is)

pub returns-in-Event : goal.returns-in-Event
returns-in-Event c =
    c.complete_event.ensures ∙ ap (completed (st c.before.before.before)) (sym c.in-Event.is)

pub returns-in-Prepare : goal.returns-in-Prepare
returns-in-Prepare c =
    c.complete_prepare.ensures ∙ ap (completed (st c.before.before.before)) (sym c.in-Prepare.is)

pub returns-in-Log : goal.returns-in-Log
returns-in-Log c =
    c.complete_log.ensures ∙ ap (completed (st c.before.before.before)) (sym c.in-Log.is)

pub returns-in-Copy : goal.returns-in-Copy
returns-in-Copy c =
    c.complete_copy.ensures ∙ ap (completed (st c.before.before.before)) (sym c.in-Copy.is)

pub returns-in-Format : goal.returns-in-Format
returns-in-Format c =
    c.complete_format.ensures ∙ ap (completed (st c.before.before.before)) (sym c.in-Format.is)
