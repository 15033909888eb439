use Rattle.std.proofs.Common.{◌≡◌, ℕ, ◌+◌, ◌<◌, List, length, drop}
use Rattle.words.specs.Words.{over}
use Rattle.cutting.specs.Pieces.{line_end, fitting}
use Rattle.workbench.specs.declared.moduli.Moduli.{Moduli}
use Rattle.probe.specs.declared.Session.{Session}
use Rattle.probe.specs.Program.{Stand, stand}
use Rattle.probe.proofs.Shown.{Before, More, before-first, before-line, less-left, before-rest, before-end}
use Rattle.probe.proofs.reading.perform_piece.Goals as goal

pub loop-from-init : goal.loop-from-init
loop-from-init c = before-first _ _

-- a turn as far as both of its ways go together
more : {p : Stand} {piece : List ℕ} {s : Session} {buffer words : List ℕ} {table : Moduli} {line out : List ℕ} {from end : ℕ} {line' : List ℕ} {k : ℕ}
    → from < length piece
    → end ≡ line_end piece from
    → line' ≡ over line s.kept (fitting line s.kept piece from end)
    → k ≡ s.kept + length (fitting line s.kept piece from end)
    → Before p piece (stand s buffer words table line out) (drop from piece)
    → More p piece s buffer words table line out from end line' k
more i f l k b = record { inside = i; found = f; laid = l; count = k; before = b }

pub returns-then-end-piece : goal.returns-then-end-piece
returns-then-end-piece c =
    let k = c.keep-kept.ensures in
    before-rest (more c.loop-from-test.true c.line_end-end.ensures k.line_after k.value c.loop-from.invariant) c.if-end-piece.true

pub loop-from-smaller : goal.loop-from-smaller
loop-from-smaller c =
    let k = c.keep-kept.ensures in
    less-left (more c.loop-from-test.true c.line_end-end.ensures k.line_after k.value c.loop-from.invariant) c.if-end-piece.false

pub loop-from-preserved : goal.loop-from-preserved
loop-from-preserved c =
    let k = c.keep-kept.ensures in
    before-line (more c.loop-from-test.true c.line_end-end.ensures k.line_after k.value c.loop-from.invariant) c.if-end-piece.false c.perform_kept-s.ensures

pub returns : goal.returns
returns c = before-end _ _ _ c.loop-from.from c.loop-from-test.false c.loop-from.invariant
