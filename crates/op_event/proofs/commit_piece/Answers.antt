use mathlib.Core.Path.{◌≡◌, sym, ap, ◌∙◌}
use native.Mathlib.Omega.{arith}
use Rattle.state.specs.State.{State}
use Rattle.state.specs.declared.Places.{Places}
use Rattle.refinement.specs.Event.{lines_done}
use Rattle.refinement.proofs.Going.{ranges-of}
use Rattle.state_words.specs.Decoded.{decoded, with_nothing}
use Rattle.op_event.proofs.Long.{table-long, held-long, opened-long}
use Rattle.op_event.proofs.LinesMade.{taken, held-shapes, held-slot, commit-part}
use Rattle.op_event.proofs.Lines.{lines_same, lines-held}
use Rattle.op_event.proofs.commit_piece.Lts
use Rattle.op_event.proofs.commit_piece.Tie
use Rattle.op_event.proofs.commit_piece.Reads
use Rattle.op_event.proofs.commit_piece.Goals as goal

abbrev At-Start : Type 0
At-Start = Lts.Start Tie.the-claims Reads.Pre Reads.Post

abbrev At-After-hold_lines : Type 0
At-After-hold_lines = Lts.After-hold_lines Tie.the-claims Reads.Pre Reads.Post

abbrev st : At-Start → State
st s = decoded s.args.words.now

pub hold_lines-requires : goal.hold_lines-requires
hold_lines-requires c =
    let r = ranges-of (st c.before.before.before.before) c.requires.2 in
    (c.requires.0, rw c.requires.0 r.legal, rw c.requires.0 r.next_low, (taken (st c.before.before.before.before) c.args.kind c.args.meter c.requires.2 c.requires.3).known)

-- sizes and head with the lines held, and that state once it has nothing pending
same : (c : At-After-hold_lines) → let s = c.before.before.before.before.before in let u = decoded c.hold_lines.new.words in (c.args.z ≡ u.sizes) × (c.args.at.head ≡ u.head)
same c =
    let s = c.before.before.before.before.before in
    let q = lines_same (st c.before.before.before.before.before) _ c.args.kind c.args.meter c.hold_lines.ensures in
    (c.requires.0 ∙ sym q.0, ap (λ (a : Places). a.head) c.requires.1 ∙ sym q.1)

held : (c : At-After-hold_lines) → let s = c.before.before.before.before.before in with_nothing (decoded c.hold_lines.new.words) ≡ lines_done (st c.before.before.before.before.before) c.args.kind c.args.meter
held c = let s = c.before.before.before.before.before in lines-held (st c.before.before.before.before.before) _ c.args.kind c.args.meter c.hold_lines.ensures

pub commit_piece-requires : goal.commit_piece-requires
commit_piece-requires c =
    let n = c.all_words.ensures in
    let r = ranges-of (st c.before.before.before.before.before.before) c.requires.2 in
    let shapes = held-shapes (st c.before.before.before.before.before.before) c.args.kind c.args.meter c.requires.2 c.requires.3 (table-long _ n) (held-long _ n) (opened-long _ n) (decoded c.hold_lines.new.words) (held c.before) c.args.z (same c.before).0 in
    let slot = held-slot (st c.before.before.before.before.before.before) c.args.kind c.args.meter c.requires.2 c.requires.3 (table-long _ n) (held-long _ n) (opened-long _ n) (decoded c.hold_lines.new.words) (held c.before) c.args.z (same c.before).0 in
    (rw c.requires.0 r.legal, rw (c.requires.0, c.requires.1) r.head-low, shapes, omega arith, slot)

pub returns : goal.returns
returns c =
    let n = c.all_words.ensures in
    λ img. commit-part (st c.before.before.before.before.before.before.before) c.args.kind c.args.meter c.requires.2 c.requires.3 (table-long _ n) (held-long _ n) (opened-long _ n) (decoded c.hold_lines.new.words) (held c.before.before) c.args.z (same c.before.before).0 c.args.at.head (same c.before.before).1 c.args.i img _ (c.commit_piece.ensures img)
