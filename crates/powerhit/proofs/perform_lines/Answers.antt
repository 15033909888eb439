use Rattle.std.proofs.Common.{◌≡◌, ◌+◌, ◌≤◌, length, refl, ◌∙◌, arith}
use Rattle.words.specs.Words.{part}
use Rattle.cutting.proofs.Cutting.{end-le, end_ge, end-again}
use Rattle.script.specs.Performed.{performed_to}
use Rattle.powerhit.proofs.Going.{reached-line, reached-end}
use Rattle.powerhit.proofs.perform_lines.Goals as goal

pub loop-end-init : goal.loop-end-init
loop-end-init c =
    (refl, c.requires.from_le_to, c.requires.to_value, λ w stands. record { work = w; stands = stands; left = refl })

pub slice_bounds-perform-count : goal.slice_bounds-perform-count
slice_bounds-perform-count c = c.loop-end.invariant.1

pub slice_bounds-perform-start : goal.slice_bounds-perform-start
slice_bounds-perform-start c = omega (arith, c.loop-end.invariant.1, c.loop-end-test.true)

pub slice_bounds-perform-end : goal.slice_bounds-perform-end
slice_bounds-perform-end c = omega (arith, c.loop-end-test.true)

pub overflow_add-start : goal.overflow_add-start
overflow_add-start c = omega (arith, c.loop-end-test.true, c.well_formed.1.1.1.0.0)

pub loop-end-smaller : goal.loop-end-smaller
loop-end-smaller c = omega (arith, c.loop-end.invariant.1, c.loop-end-test.true)

pub loop-end-preserved : goal.loop-end-preserved
unfolding part
loop-end-preserved c =
    let room = c.left-at in
    let inv = c.loop-end.invariant in
    let piece = c.args.piece.now in
    let next = c.loop-end.end + 1 in
    let size = c.perform-arg-in-loop-end-3-1.given.0.1 in
    let some : next ≤ length piece = omega (arith, c.loop-end-test.true) in
    let found = c.line_end-end.ensures in (
      c.perform-p.auto.image ∙ inv.0,
      omega (arith, found, end_ge piece next some),
      rw found (end-again piece next some),
      λ w stands.
          reached-line (inv.3 w stands) room.result _ (performed_to c.perform-p.result _ _ _) c.line_end-end.result inv.2 c.loop-end-test.true
          room.ensures size (c.perform-p.auto.out ∙ size)
          refl c.perform-p.ensures found,
    )

pub returns : goal.returns
returns c =
    let piece = c.args.piece.now in
    let inv = c.loop-end.invariant in
    let all : c.loop-end.end ≡ length piece = omega (arith, c.loop-end-test.false, inv.2, end-le piece c.loop-end.end) in
    record { stands = λ w stands. reached-end (inv.3 w stands) inv.1 all; kept = refl }
