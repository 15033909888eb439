use Prim.Native.Nat.{ℕ}
use mathlib.Core.Bool.{Bool}
use mathlib.Core.Path.{◌≡◌, ap, ◌∙◌}
use Rattle.operations.specs.Operations.{copy_count}
use Rattle.refinement.specs.Freeing.{may_free, lines_to_copy}
use Rattle.call_consolidate.proofs.Turns.{first_found, none_found, fewer-found, kept}
use Rattle.state_words.specs.Decoded.{decoded}
use Rattle.call_consolidate.proofs.choosing.better.Goals as goal

pub returns-then-may : goal.returns-then-may
returns-then-may c =
    let d = decoded c.args.words.now in
    first_found (may_free d.table.page d.writers.held) (lines_to_copy d.table.bitmap) c.args.s c.args.best _ c.may_free-may.ensures
    c.if-best-s.true c.if-may.true

pub returns-then-best-s : goal.returns-then-best-s
returns-then-best-s c =
    let d = decoded c.args.words.now in
    none_found (may_free d.table.page d.writers.held) (lines_to_copy d.table.bitmap) c.args.s c.args.best _ c.may_free-may.ensures
    c.if-best-s.true c.if-may.false

pub returns-then-may-copy_count : goal.returns-then-may-copy_count
returns-then-may-copy_count c =
    let d = decoded c.args.words.now in
    fewer-found (may_free d.table.page d.writers.held) (lines_to_copy d.table.bitmap) c.args.s c.args.best _ c.may_free-may.ensures _ _
    c.if-best-s.false (c.copy_count.ensures ∙ ap copy_count c.bitmap_at-a.ensures)
    (c.copy_count-2.ensures ∙ ap copy_count c.bitmap_at-b.ensures) c.if-may-copy_count.true

pub returns : goal.returns
returns c =
    let d = decoded c.args.words.now in
    kept (may_free d.table.page d.writers.held) (lines_to_copy d.table.bitmap) c.args.s c.args.best _ c.may_free-may.ensures _ _
    c.if-best-s.false (c.copy_count.ensures ∙ ap copy_count c.bitmap_at-a.ensures)
    (c.copy_count-2.ensures ∙ ap copy_count c.bitmap_at-b.ensures) c.if-may-copy_count.false
