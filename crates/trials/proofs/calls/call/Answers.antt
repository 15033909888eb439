use Rattle.std.proofs.Common.{◌≡◌, ℕ, List, refl}
use Rattle.answers.specs.Answers.{Answer}
use Rattle.refinement.specs.Calls.{world_of, begin_rows, begin_of, abort_rows, abort_of}
use Rattle.bounded.specs.Rows.{refusal}
use Rattle.refinement.specs.Run.{free, checkpoint, commit, exec}
use Rattle.refinement.proofs.Refused.{refused-unchanged}
use Rattle.refinement.proofs.Reports.{stores-reported}
use Rattle.state_words.specs.Decoded.{decoded}
use Rattle.trials.specs.declared.Ask.{Ask}
use Rattle.trials.specs.declared.Ask.TheVariants.{Begin, Write, Free, Checkpoint, Commit, Abort}
use Rattle.trials.specs.Trials.{call_of, Finishes}
use Rattle.trials.proofs.Finishing.{finishes, finishes-at-once, no_stores}
use Rattle.trials.proofs.calls.call.Goals as goal

-- the call of the variant that was told
told : (a : Ask) (from image : List ℕ) (b : Ask) (answer : Answer) (words img : List ℕ) → a ≡ b
    → Finishes (call_of b) from image answer words img
    → Finishes (call_of a) from image answer words img
told a from image b answer words img e h = rw e h

pub returns-in-Begin : goal.returns-in-Begin
unfolding exec begin_of
returns-in-Begin c =
    let a = c.args in
    let f = c.begin in
    told c.args.a c.args.words.now c.args.image.now Begin f.result _ _ c.in-Begin.is
    (finishes-at-once _ a.image.now (no_stores (refusal (begin_rows (decoded a.words.now) 0)))
    (call_of Begin) a.words.now refl f.result _ f.ensures.state)

pub returns-in-Write : goal.returns-in-Write
returns-in-Write c =
    let f = c.write_first in
    told c.args.a c.args.words.now c.args.image.now (Write _ _) f.result _ _ c.in-Write.is f.ensures

pub returns-in-Free : goal.returns-in-Free
unfolding exec
returns-in-Free c =
    let a = c.args in
    let f = c.free_slot in
    let v = world_of (decoded a.words.now) a.image.now in
    told c.args.a c.args.words.now c.args.image.now Free f.result _ _ c.in-Free.is
    (finishes _ a.image.now (λ n. (stores-reported free v n).all_left) (λ n. (refused-unchanged free v n).stores)
    free a.words.now refl f.result _ _ f.ensures.started)

pub returns-in-Checkpoint : goal.returns-in-Checkpoint
unfolding exec
returns-in-Checkpoint c =
    let a = c.args in
    let f = c.checkpoint in
    let v = world_of (decoded a.words.now) a.image.now in
    told c.args.a c.args.words.now c.args.image.now Checkpoint f.result _ _ c.in-Checkpoint.is
    (finishes _ a.image.now (λ n. (stores-reported checkpoint v n).all_left) (λ n. (refused-unchanged checkpoint v n).stores)
    checkpoint a.words.now refl f.result _ _ f.ensures.started)

pub returns-in-Commit : goal.returns-in-Commit
unfolding exec
returns-in-Commit c =
    let a = c.args in
    let f = c.commit in
    let v = world_of (decoded a.words.now) a.image.now in
    told c.args.a c.args.words.now c.args.image.now Commit f.result _ _ c.in-Commit.is
    (finishes _ a.image.now (λ n. (stores-reported (commit 0) v n).all_left) (λ n. (refused-unchanged (commit 0) v n).stores)
    (commit 0) a.words.now refl f.result _ _ f.ensures.started)

pub returns-in-Abort : goal.returns-in-Abort
unfolding exec abort_of
returns-in-Abort c =
    let a = c.args in
    let f = c.abort in
    told c.args.a c.args.words.now c.args.image.now Abort f.result _ _ c.in-Abort.is
    (finishes-at-once _ a.image.now (no_stores (refusal (abort_rows (decoded a.words.now) 0)))
    (call_of Abort) a.words.now refl f.result _ f.ensures.state)
