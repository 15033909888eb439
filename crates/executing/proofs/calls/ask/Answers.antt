use Prim.Native.Nat.{ℕ}
use mathlib.Core.List.{List}
use mathlib.Core.Path.{◌≡◌, sym, ap, ◌∙◌}
use Rattle.refinement.specs.Outcome.{Outcome}
use Rattle.refinement.specs.Calls.{commit_of, consolidate_of, checkpoint_of}
use Rattle.refinement.specs.Run.{Result, result, exec}
use Rattle.forms.specs.declared.Ask.{Ask}
use Rattle.forms.specs.declared.Ask.TheVariants.{Begin, Commit, Abort, Write, Consolidate, Checkpoint, Mount}
use Rattle.state_words.specs.Decoded.{decoded}
use Rattle.calling.specs.WriteLine.{num, write_by}
use Rattle.executing.specs.Called.{call_of, world_at}
use Rattle.executing.proofs.Finished.{call-told, ask-told, mount-told}
use Rattle.executing.proofs.calls.ask.Goals as goal

-- the call of the variant that was told
told : (count : ℕ) (numbers words bytes : List ℕ) (a b : Ask) (x : Result) → a ≡ b
    → x ≡ exec (call_of b count numbers) (world_at words bytes) → x ≡ exec (call_of a count numbers) (world_at words bytes)
told count numbers words bytes a b x e h = h ∙ ap (λ (k : Ask). exec (call_of k count numbers) (world_at words bytes)) (sym e)

pub write-requires : goal.write-requires
write-requires c = c.requires c.in-Write.is

pub returns-in-Begin : goal.returns-in-Begin
unfolding exec
returns-in-Begin c =
    let s = c.args in
    let b = s.image.now in
    told s.count s.numbers.now s.words.now b s.a Begin _ c.in-Begin.is (ap (λ (o : Outcome). result o b) c.begin.ensures.state)

pub returns-in-Commit : goal.returns-in-Commit
unfolding exec
returns-in-Commit c =
    let s = c.args in
    let b = s.image.now in
    told s.count s.numbers.now s.words.now b s.a Commit _ c.in-Commit.is
    (ask-told c.commit.result _ _ (commit_of (decoded s.words.now) b (num s.numbers.now 0)) b c.commit.ensures.started)

pub returns-in-Abort : goal.returns-in-Abort
unfolding exec
returns-in-Abort c =
    let s = c.args in
    let b = s.image.now in
    told s.count s.numbers.now s.words.now b s.a Abort _ c.in-Abort.is (ap (λ (o : Outcome). result o b) c.abort.ensures.state)

pub returns-in-Write : goal.returns-in-Write
unfolding exec
returns-in-Write c =
    let s = c.args in
    let b = s.image.now in
    let o = write_by (decoded s.words.now) b s.count s.numbers.now in
    told s.count s.numbers.now s.words.now b s.a Write _ c.in-Write.is
    (call-told c.write.result _ _ o b c.write.ensures.state c.write.ensures.bytes)

pub returns-in-Consolidate : goal.returns-in-Consolidate
unfolding exec
returns-in-Consolidate c =
    let s = c.args in
    let b = s.image.now in
    told s.count s.numbers.now s.words.now b s.a Consolidate _ c.in-Consolidate.is
    (ask-told c.consolidate.result _ _ (consolidate_of (decoded s.words.now) b (num s.numbers.now 0)) b c.consolidate.ensures.started)

pub returns-in-Checkpoint : goal.returns-in-Checkpoint
unfolding exec
returns-in-Checkpoint c =
    let s = c.args in
    let b = s.image.now in
    told s.count s.numbers.now s.words.now b s.a Checkpoint _ c.in-Checkpoint.is
    (ask-told c.checkpoint.result _ _ (checkpoint_of (decoded s.words.now) b) b c.checkpoint.ensures.started)

pub returns-in-Mount : goal.returns-in-Mount
returns-in-Mount c =
    let s = c.args in
    let b = s.image.now in
    told s.count s.numbers.now s.words.now b s.a Mount _ c.in-Mount.is
    (ap (λ (o : Outcome). result o b) c.mount.ensures.state ∙ mount-told (decoded s.words.now) b)
