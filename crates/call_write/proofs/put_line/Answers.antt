use native.Mathlib.Omega.{arith}
use mathlib.Core.Path.{◌≡◌, sym, ap, ◌∙◌}
use Rattle.state.specs.State.{State}
use Rattle.layout.specs.declared.Sizes.{Sizes}
use Rattle.state.specs.declared.Places.{Places}
use Rattle.std.specs.Prelude.{Ok}
use Rattle.layout.specs.Layout.{line_word}
use Rattle.refinement.specs.Write.{frame_to_write, write_done}
use Rattle.op_pieces.specs.Pieces.{line_piece}
use Rattle.op_stores.proofs.Starting.{put-valid}
use Rattle.state_words.specs.Decoded.{decoded}
use Rattle.call_write.proofs.Line.{good, leans, counted, whole, line-due, line_made, line-done, none_made}
use Rattle.call_write.proofs.put_line.Lts
use Rattle.call_write.proofs.put_line.Tie
use Rattle.call_write.proofs.put_line.Reads
use Rattle.call_write.proofs.put_line.Goals as goal

abbrev At-Start : Type 0
At-Start = Lts.Start Tie.the-claims Reads.Pre Reads.Post Tie.handed_clauses

abbrev At-After-line_piece-piece : Type 0
At-After-line_piece-piece = Lts.After-line_piece Tie.the-claims Reads.Pre Reads.Post Tie.handed_clauses

abbrev st : At-Start → State
st s = decoded s.args.words.now

pub put_pending-requires : goal.put_pending-requires
put_pending-requires c =
    let h = c.requires.0 in
    (h.busy, h.idle, put-valid c.args.z c.args.at (st c.before.before.before.before) c.args.image.now c.args.p h)

pub returns-then-budget-eq0 : goal.returns-then-budget-eq0
returns-then-budget-eq0 c =
    let a = c.args.a in
    let q = none_made c.args.z c.args.at (st c.before.before.before.before.before.before.before) c.args.image.now c.args.p c.requires.0 c.args.writer a.page a.line a.offset a.length c.requires.1 c.args.until (sym c.budget.ensures ∙ c.if-budget-eq0.true) in record {
      answer = ap Ok (counted c.args.z c.args.at (st c.before.before.before.before.before.before.before) c.args.image.now c.args.p c.requires.0 c.args.writer a.page a.line a.offset a.length c.requires.1);
      image = q.0;
      words = c.put_pending.ensures ∙ q.1;
    }

pub line_piece-piece-requires : goal.line_piece-piece-requires
line_piece-piece-requires c =
    let a = c.args.a in
    let h = leans c.args.z c.args.at (st c.before.before.before.before.before.before.before) c.args.image.now c.args.p c.requires.0 c.args.writer a.page a.line a.offset a.length c.requires.1 in
    (h.0, h.1, rw c.put_pending.ensures h.2, (good c.args.z c.args.at (st c.before.before.before.before.before.before.before) c.args.image.now c.args.p c.requires.0 c.args.writer a.page a.line a.offset a.length c.requires.1).line_low)

-- the piece, of the state at entry
piece : (c : At-After-line_piece-piece) → let a = c.before.before.before.before.before.before.before.args.a in c.line_piece-piece.result ≡ line_piece (line_word c.before.before.before.before.before.before.before.args.z (frame_to_write c.before.before.before.before.before.before.before.args.z (st c.before.before.before.before.before.before.before).table c.before.before.before.before.before.before.before.args.at.next a.page a.line) a.line) c.before.before.before.before.before.before.before.args.p.line 0
piece c = rw c.before.before.before.put_pending.ensures at c.line_piece-piece.ensures.piece

pub put_piece-requires : goal.put_piece-requires
put_piece-requires c =
    let a = c.args.a in
    rw c.put_pending.ensures
    (line-due c.args.z c.args.at (st c.before.before.before.before.before.before.before.before) c.args.image.now c.args.p c.requires.0 c.args.writer a.page a.line a.offset a.length c.requires.1 _ (piece c.before) c.line_piece-piece.ensures.inside)

pub complete_write-requires : goal.complete_write-requires
complete_write-requires c =
    let a = c.args.a in
    let h = leans c.args.z c.args.at (st c.before.before.before.before.before.before.before.before.before.before.before.before.before) c.args.image.now c.args.p c.requires.0 c.args.writer a.page a.line a.offset a.length c.requires.1 in
    let g = good c.args.z c.args.at (st c.before.before.before.before.before.before.before.before.before.before.before.before.before) c.args.image.now c.args.p c.requires.0 c.args.writer a.page a.line a.offset a.length c.requires.1 in
    rw c.put_pending.ensures
    (c.requires.0.sizes, h.0, rw (ap (λ (p : Places). p.next) c.requires.0.places) at h.1, g.writer-low, omega (arith, g.page-low, ap (λ (z : Sizes). z.pages) c.requires.0.sizes, h.0.pages-high), g.line_low)

pub returns : goal.returns
returns c =
    let a = c.args.a in
    let all = whole c.args.z c.args.at (st c.before.before.before.before.before.before.before.before.before.before.before.before.before.before) c.args.image.now c.args.p c.requires.0 c.args.writer a.page a.line a.offset a.length c.requires.1 c.args.until (λ q. c.if-budget-eq0.false (c.budget.ensures ∙ q)) in record {
      answer = ap Ok (counted c.args.z c.args.at (st c.before.before.before.before.before.before.before.before.before.before.before.before.before.before) c.args.image.now c.args.p c.requires.0 c.args.writer a.page a.line a.offset a.length c.requires.1);
      image = line_made c.args.z c.args.at (st c.before.before.before.before.before.before.before.before.before.before.before.before.before.before) c.args.image.now c.args.p c.requires.0 c.args.writer a.page a.line a.offset a.length c.requires.1 _ (piece c.before.before.before.before.before.before.before) c.line_piece-piece.ensures.inside c.args.until _ all c.put_piece.ensures;
      words = line-done c.args.z c.args.at (st c.before.before.before.before.before.before.before.before.before.before.before.before.before.before) c.args.image.now c.args.p c.requires.0 c.args.writer a.page a.line a.offset a.length c.requires.1 c.args.until _ all (c.complete_write.ensures ∙ ap (λ (u : State). write_done u c.args.writer a.page a.line) c.put_pending.ensures);
    }
