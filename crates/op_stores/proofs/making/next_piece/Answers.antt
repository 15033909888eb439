use mathlib.Core.Logic.{⊎_elim}
use mathlib.Core.Path.{sym, ap, ◌∙◌}
use Rattle.bounded.proofs.Tests.{contradicts}
use Rattle.state.specs.State.{State}
use Rattle.state.specs.declared.Places.{Places}
use Rattle.operations.specs.Operations.{is_idle}
use Rattle.state_words.specs.Decoded.{decoded}
use Rattle.op_stores.proofs.Leaning.{legal, head-low, next_low, shapes, few, write-taken, commit-low, prepare-low, confirm-low, consolidate-leans, event-leans, log-leans, copy-pages, write-below, log-below, next_of, commit-next, prepare-next, confirm-next, copy-next, format-below, format-next}
use Rattle.op_stores.proofs.making.next_piece.Lts
use Rattle.op_stores.proofs.making.next_piece.Tie
use Rattle.op_stores.proofs.making.next_piece.Reads
use Rattle.op_stores.proofs.making.next_piece.Goals as goal

abbrev At-Start : Type 0
At-Start = Lts.Start Tie.the-claims Reads.Pre Reads.Post

abbrev st : At-Start → State
st s = decoded s.args.words.now

pub write_piece-requires : goal.write_piece-requires
write_piece-requires c =
    let e = c.in-Write.is in
    let t = write-taken c.args.z c.args.at (st c.before.before.before) c.requires.0 c.requires.1 e in
    (c.requires.0.sizes, ap (λ (p : Places). p.next) c.requires.0.places, legal c.args.z c.args.at (st c.before.before.before) c.requires.0, next_low c.args.z c.args.at (st c.before.before.before) c.requires.0, shapes c.args.z c.args.at (st c.before.before.before) c.requires.0, c.requires.0.busy, t.args.line_low, write-below c.args.z c.args.at (st c.before.before.before) c.requires.0 e c.requires.2)

pub commit_piece-requires : goal.commit_piece-requires
commit_piece-requires c =
    let e = c.in-Commit.is in
    (legal c.args.z c.args.at (st c.before.before.before) c.requires.0, head-low c.args.z c.args.at (st c.before.before.before) c.requires.0, shapes c.args.z c.args.at (st c.before.before.before) c.requires.0, ⊎_elim (commit-low c.args.z c.args.at (st c.before.before.before) c.requires.0 c.requires.1) (prepare-low c.args.z c.args.at (st c.before.before.before) c.requires.0 c.requires.1) e)

pub consolidate_piece-requires : goal.consolidate_piece-requires
consolidate_piece-requires c =
    let e = c.in-Consolidate.is in
    (c.requires.0.sizes, c.requires.0.places, (consolidate-leans c.args.z c.args.at (st c.before.before.before) c.requires.0 c.requires.1 e).0, c.requires.3)

pub checkpoint_piece-requires : goal.checkpoint_piece-requires
checkpoint_piece-requires c =
    (c.requires.0.sizes, c.requires.0.places, legal c.args.z c.args.at (st c.before.before.before) c.requires.0, c.requires.3)

pub event_piece-requires : goal.event_piece-requires
event_piece-requires c =
    let e = c.in-Event.is in
    (c.requires.0.sizes, c.requires.0.places, c.requires.0.ok, c.requires.0.busy, (event-leans c.args.z c.args.at (st c.before.before.before) c.requires.0 c.requires.1 e).0)

pub confirm_piece-requires : goal.confirm_piece-requires
confirm_piece-requires c =
    let e = c.in-Confirm.is in
    (legal c.args.z c.args.at (st c.before.before.before) c.requires.0, head-low c.args.z c.args.at (st c.before.before.before) c.requires.0, confirm-low c.args.z c.args.at (st c.before.before.before) c.requires.0 c.requires.1 e)

pub log_piece-requires : goal.log_piece-requires
log_piece-requires c =
    let e = c.in-Log.is in
    let t = log-leans c.args.z c.args.at (st c.before.before.before) c.requires.0 c.requires.1 e in
    (c.requires.0.sizes, ap (λ (p : Places). p.count) c.requires.0.places, legal c.args.z c.args.at (st c.before.before.before) c.requires.0, few c.args.z c.args.at (st c.before.before.before) c.requires.0, t.0, t.1, t.2, log-below c.args.z c.args.at (st c.before.before.before) c.requires.0 e c.requires.2, c.requires.0.busy)

pub copy_piece-requires : goal.copy_piece-requires
copy_piece-requires c =
    (legal c.args.z c.args.at (st c.before.before.before) c.requires.0, few c.args.z c.args.at (st c.before.before.before) c.requires.0, copy-pages c.args.z c.args.at (st c.before.before.before) c.requires.0, c.requires.3)

pub format_piece-requires : goal.format_piece-requires
format_piece-requires c =
    (legal c.args.z c.args.at (st c.before.before.before) c.requires.0, format-below c.args.z c.args.at (st c.before.before.before) c.requires.0 c.in-Format.is c.requires.2)

pub returns-in-Idle : goal.returns-in-Idle
returns-in-Idle c =
    contradicts (ap is_idle (sym c.requires.1 ∙ c.in-Idle.is)) c.requires.0.busy

pub returns-in-Write : goal.returns-in-Write
returns-in-Write c =
    next_of c.args.z c.args.at (st c.before.before.before.before) c.requires.0 c.args.i c.args.image.now _ c.in-Write.is (c.write_piece.ensures c.args.image.now)

pub returns-in-Commit : goal.returns-in-Commit
returns-in-Commit c =
    let n = c.commit_piece.ensures c.args.image.now in
    let now = st c.before.before.before.before in
    ⊎_elim (λ q. next_of c.args.z c.args.at now c.requires.0 c.args.i c.args.image.now _ q (commit-next c.args.z c.args.at now c.requires.0 c.args.i c.args.image.now _ _ n))
    (λ q. next_of c.args.z c.args.at now c.requires.0 c.args.i c.args.image.now _ q (prepare-next c.args.z c.args.at now c.requires.0 c.args.i c.args.image.now _ _ n)) c.in-Commit.is

pub returns-in-Consolidate : goal.returns-in-Consolidate
returns-in-Consolidate c =
    next_of c.args.z c.args.at (st c.before.before.before.before) c.requires.0 c.args.i c.args.image.now _ c.in-Consolidate.is c.consolidate_piece.ensures

pub returns-in-Checkpoint : goal.returns-in-Checkpoint
returns-in-Checkpoint c =
    next_of c.args.z c.args.at (st c.before.before.before.before) c.requires.0 c.args.i c.args.image.now _ c.in-Checkpoint.is c.checkpoint_piece.ensures

pub returns-in-Event : goal.returns-in-Event
returns-in-Event c =
    next_of c.args.z c.args.at (st c.before.before.before.before) c.requires.0 c.args.i c.args.image.now _ c.in-Event.is (c.event_piece.ensures c.args.image.now)

pub returns-in-Confirm : goal.returns-in-Confirm
returns-in-Confirm c =
    next_of c.args.z c.args.at (st c.before.before.before.before) c.requires.0 c.args.i c.args.image.now _ c.in-Confirm.is (confirm-next c.args.z c.args.at (st c.before.before.before.before) c.requires.0 c.args.i c.args.image.now _ _ c.confirm_piece.ensures)

pub returns-in-Log : goal.returns-in-Log
returns-in-Log c =
    next_of c.args.z c.args.at (st c.before.before.before.before) c.requires.0 c.args.i c.args.image.now _ c.in-Log.is (c.log_piece.ensures c.args.image.now)

pub returns-in-Copy : goal.returns-in-Copy
returns-in-Copy c =
    next_of c.args.z c.args.at (st c.before.before.before.before) c.requires.0 c.args.i c.args.image.now _ c.in-Copy.is (copy-next c.args.z c.args.at (st c.before.before.before.before) c.requires.0 c.args.i c.args.image.now _ c.copy_piece.ensures)

pub returns-in-Format : goal.returns-in-Format
returns-in-Format c =
    next_of c.args.z c.args.at (st c.before.before.before.before) c.requires.0 c.args.i c.args.image.now _ c.in-Format.is (format-next c.args.z c.args.at (st c.before.before.before.before) c.requires.0 c.args.i c.args.image.now _ (c.format_piece.ensures c.args.image.now))
