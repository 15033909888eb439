use mathlib.Core.Path.{◌≡◌, refl, sym, ap, ◌∙◌}
use mathlib.Core.List.{[]}
use lib.ListN.{replicate}
use Rattle.state.specs.State.{State}
use Rattle.operations.specs.Operations.{needs as needs_of}
use Rattle.std.specs.Prelude.{Ok}
use Rattle.state_words.specs.Decoded.{decoded}
use Rattle.op_stores.proofs.Allowing.{allowed-leans, allowed-needs, without_lines, allowed-asks}
use Rattle.op_stores.proofs.Starting.{started-done, started-asked}
use Rattle.op_stores.proofs.calling.ask.Lts
use Rattle.op_stores.proofs.calling.ask.Tie
use Rattle.op_stores.proofs.calling.ask.Reads
use Rattle.op_stores.proofs.calling.ask.Goals as goal

abbrev At-Start : Type 0
At-Start = Lts.Start Tie.the-claims Reads.Pre Reads.Post Tie.handed_clauses

abbrev At-After-op_needs : Type 0
At-After-op_needs = Lts.After-op_needs Tie.the-claims Reads.Pre Reads.Post Tie.handed_clauses

abbrev st : At-Start → State
st s = decoded s.args.words.now

pub op_needs-requires : goal.op_needs-requires
op_needs-requires c = allowed-leans c.args.z c.args.at (st c.before.before) c.args.op c.requires.0

-- the stores as they were counted
all : (c : At-After-op_needs) → let s = c in c.op_needs.result ≡ needs_of (st c.before.before) c.args.op
all c = let s = c in allowed-needs c.args.z c.args.at (st c.before.before) c.args.op c.requires.0 _ c.op_needs.ensures

pub complete_now-requires : goal.complete_now-requires
complete_now-requires c =
    (c.requires.0, sym (all c.before.before.before) ∙ c.if-op_needs-eq0.true)

pub returns-then-op_needs-eq0 : goal.returns-then-op_needs-eq0
returns-then-op_needs-eq0 c =
    let none : needs_of (st c.before.before.before.before.before.before) c.args.op ≡ 0 = sym (all c.before.before.before.before) ∙ c.if-op_needs-eq0.true in
    record {
      answer = ap Ok (sym none);
      started = started-done (st c.before.before.before.before.before.before) c.args.image.now c.args.until [] refl c.args.op (replicate 8 0) none (Ok 0) _ refl c.complete_now.ensures;
    }

pub start-requires : goal.start-requires
start-requires c =
    allowed-asks c.args.z c.args.at (st c.before.before.before.before.before) c.args.op c.requires.0 c.args.image.now c.requires.1 _ (all c.before.before.before) c.if-op_needs-eq0.false

pub returns : goal.returns
returns c =
    let h = allowed-asks c.args.z c.args.at (st c.before.before.before.before.before.before.before.before.before) c.args.op c.requires.0 c.args.image.now c.requires.1 _ (all c.before.before.before.before.before.before.before) c.if-op_needs-eq0.false in
    let e = c.start.ensures in
    record {
      answer = e.answer;
      started = started-asked c.args.z c.args.at (st c.before.before.before.before.before.before.before.before.before) c.args.image.now (without_lines c.args.z c.args.at (st c.before.before.before.before.before.before.before.before.before) c.args.op c.requires.0) h c.args.until _ _ _ e.answer e.image e.words [] refl refl;
    }
