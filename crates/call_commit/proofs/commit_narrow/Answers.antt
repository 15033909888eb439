use mathlib.Core.List.{[]}
use mathlib.Core.Path.{◌≡◌, refl, sym, ap, ◌∙◌}
use native.Mathlib.Omega.{arith}
use lib.ListN.{replicate}
use Rattle.state.specs.State.{State}
use Rattle.state.specs.declared.Op.TheVariants.{Commit}
use Rattle.state.proofs.Numbers.{held-le}
use Rattle.operations.specs.Operations.{needs as needs_of}
use Rattle.std.specs.Prelude.{Ok}
use Rattle.state_words.specs.Decoded.{decoded}
use Rattle.op_stores.proofs.Allowing.{without_lines}
use Rattle.op_stores.proofs.Starting.{put-valid, started-done}
use Rattle.call_commit.proofs.Committing.{commit-counted, counts, completes, asks, goes_on, went}
use Rattle.call_commit.proofs.commit_narrow.Lts
use Rattle.call_commit.proofs.commit_narrow.Tie
use Rattle.call_commit.proofs.commit_narrow.Reads
use Rattle.call_commit.proofs.commit_narrow.Goals as goal

abbrev At-Start : Type 0
At-Start = Lts.Start Tie.the-claims Reads.Pre Reads.Post Tie.handed_clauses

abbrev At-After-commit_needs-n : Type 0
At-After-commit_needs-n = Lts.After-commit_needs Tie.the-claims Reads.Pre Reads.Post Tie.handed_clauses

abbrev st : At-Start → State
st s = decoded s.args.words.now

pub held_count-c-requires : goal.held_count-c-requires
held_count-c-requires c = counts c.args.z c.args.at (st c.before.before) c.args.w c.requires.0

pub commit_needs-n-requires : goal.commit_needs-n-requires
commit_needs-n-requires c =
    omega (arith, held-le _ _ _ _ c.held_count-c.ensures, (counts c.args.z c.args.at (st c.before.before.before) c.args.w c.requires.0).0)

-- the stores as they were counted
all : (c : At-After-commit_needs-n) → c.commit_needs-n.result ≡ needs_of (st c.before.before.before) (Commit c.before.before.before.args.w)
all c =
    commit-counted c.before.before.before.args.z (st c.before.before.before) c.before.before.before.args.w _ _ c.before.before.before.requires.0.sizes c.before.held_count-c.ensures c.commit_needs-n.ensures

pub complete_commit-requires : goal.complete_commit-requires
complete_commit-requires c = completes c.args.z c.args.at (st c.before.before.before.before.before.before) c.args.w c.requires.0

pub returns-then-n-eq0 : goal.returns-then-n-eq0
returns-then-n-eq0 c =
    let none : needs_of (st c.before.before.before.before.before.before.before) (Commit c.args.w) ≡ 0 = sym (all c.before.before.before.before) ∙ c.if-n-eq0.true in
    record {
      answer = ap Ok (sym none);
      started = started-done (st c.before.before.before.before.before.before.before) c.args.image.now c.args.until [] refl (Commit c.args.w) (replicate 8 0) none (Ok 0) _ refl c.complete_commit.ensures;
    }

pub put_pending-requires : goal.put_pending-requires
put_pending-requires c =
    let h = c.requires.0 in
    (refl, h.idle, put-valid c.args.z c.args.at (st c.before.before.before.before.before.before) c.args.image.now (without_lines c.args.z c.args.at (st c.before.before.before.before.before.before) (Commit c.args.w) h) (asks c.args.z c.args.at (st c.before.before.before.before.before.before) c.args.w c.requires.0 c.args.image.now c.requires.1 _ _ c.held_count-c.ensures (all c.before.before.before) c.if-n-eq0.false))

pub go_on-requires : goal.go_on-requires
go_on-requires c =
    let g = goes_on c.args.z c.args.at (st c.before.before.before.before.before.before.before.before.before) c.args.w c.requires.0 c.args.image.now c.requires.1 _ _ c.held_count-c.ensures (all c.before.before.before.before.before.before) c.if-n-eq0.false _ c.args.until _ c.put_pending.ensures c.budget-k.ensures in
    (g.0, g.1, g.2, c.requires.1)

pub returns : goal.returns
returns c =
    record {
      answer = ap Ok (all c.before.before.before.before.before.before.before.before.before.before);
      started = went c.args.z c.args.at (st c.before.before.before.before.before.before.before.before.before.before.before.before.before) c.args.w c.requires.0 c.args.image.now c.requires.1 _ _ c.held_count-c.ensures (all c.before.before.before.before.before.before.before.before.before.before) c.if-n-eq0.false _ c.args.until _ _ _ _ c.put_pending.ensures c.budget-k.ensures refl c.go_on.ensures.image c.go_on.ensures.words;
    }
