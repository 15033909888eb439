use mathlib.Core.Logic.{⊎_elim}
use mathlib.Core.Path.{sym, ap, ◌∙◌}
use Rattle.bounded.proofs.Tests.{contradicts}
use Rattle.state.specs.State.{State}
use Rattle.state.specs.declared.Places.{Places}
use Rattle.operations.specs.Operations.{is_idle, needs as needs_of}
use Rattle.refinement.specs.Stores.{completed}
use Rattle.refinement.proofs.Going.{ranges-of}
use Rattle.asked.proofs.Asked.{write-needs, consolidate-needs, event-needs, log-needs, format-needs}
use Rattle.state_words.specs.Decoded.{decoded}
use Rattle.op_stores.proofs.Allowing.{now-commit, now-confirm}
use Rattle.op_stores.proofs.calling.complete_now.Lts
use Rattle.op_stores.proofs.calling.complete_now.Tie
use Rattle.op_stores.proofs.calling.complete_now.Reads
use Rattle.op_stores.proofs.calling.complete_now.Goals as goal

abbrev At-Start : Type 0
At-Start = Lts.Start Tie.the-claims Reads.Pre Reads.Post

abbrev st : At-Start → State
st s = decoded s.args.words.now

pub complete_commit-requires : goal.complete_commit-requires
complete_commit-requires c =
    let h = c.requires.0 in
    let r = ranges-of (st c.before.before) h.ok in
    (h.sizes, rw h.sizes r.legal, rw h.sizes r.head-low, ⊎_elim (now-commit (st c.before.before) h.rows) (now-confirm (st c.before.before) h.rows) c.in-Commit.is)

pub complete_checkpoint-requires : goal.complete_checkpoint-requires
complete_checkpoint-requires c =
    let h = c.requires.0 in
    let r = ranges-of (st c.before.before) h.ok in
    (h.sizes, h.places, rw h.sizes r.legal)

pub complete_copy-requires : goal.complete_copy-requires
complete_copy-requires c =
    let h = c.requires.0 in
    let r = ranges-of (st c.before.before) h.ok in
    (h.sizes, rw h.sizes r.legal, ap (λ (p : Places). p.wide) h.places)

pub returns-in-Checkpoint : goal.returns-in-Checkpoint
returns-in-Checkpoint c =
    c.complete_checkpoint.ensures ∙ ap (completed (st c.before.before.before)) (sym c.in-Checkpoint.is)

pub returns-in-Prepare : goal.returns-in-Prepare
returns-in-Prepare c =
    c.complete_prepare.ensures ∙ ap (completed (st c.before.before.before)) (sym c.in-Prepare.is)

pub returns-in-Copy : goal.returns-in-Copy
returns-in-Copy c =
    c.complete_copy.ensures ∙ ap (completed (st c.before.before.before)) (sym c.in-Copy.is)

pub returns-in-Commit : goal.returns-in-Commit
returns-in-Commit c =
    let e = c.complete_commit.ensures in
    ⊎_elim (λ q. e ∙ ap (completed (st c.before.before.before)) (sym q)) (λ q. e ∙ ap (completed (st c.before.before.before)) (sym q)) c.in-Commit.is

-- the other operations need stores
pub returns-in-Idle : goal.returns-in-Idle
returns-in-Idle c =
    let now = st c.before in
    let none = c.requires.1 in
    absurd (⊎_elim (λ q. contradicts (ap is_idle q) c.requires.0.busy)
    (⊎_elim (λ q. write-needs now q.0 q.1 q.2 q.3 q.4 (sym (ap (needs_of now) q.5) ∙ none))
    (⊎_elim (λ q. log-needs now q.0 q.1 q.2 q.3 (sym (ap (needs_of now) q.4) ∙ none))
    (⊎_elim (λ q. consolidate-needs now q.0 (sym (ap (needs_of now) q.1) ∙ none))
    (⊎_elim (λ q. event-needs now q.0 q.1 q.2 (sym (ap (needs_of now) q.3) ∙ none))
    (λ q. format-needs now (sym (ap (needs_of now) q) ∙ none)))))) c.in-Idle.is)
