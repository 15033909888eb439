use borrow.Author.Rules.{rules}
use mathlib.Core.Path.{◌≡◌}
use Rattle.std.specs.Prelude.{Err}
use Rattle.state_words.specs.Decoded.{decoded}
use Rattle.call_step.proofs.Running.{run-may, next-told, all_left}
use Rattle.call_step.proofs.ranges.next_range.Goals as goal

pub returns-in_err-busy_row : goal.returns-in_err-busy_row
returns-in_err-busy_row c =
    let same : c.from_residual.result ≡ Err c.in_err-busy_row.field-0.0 = search rules in
    rw same c.in_err-busy_row.ensures

pub look_ahead-a-requires : goal.look_ahead-a-requires
look_ahead-a-requires c =
    run-may (decoded c.args.words.now) c.args.image.now c.in_ok-busy_row.ensures _ _ c.sizes_in-z.ensures c.places_in-at.ensures

pub returns : goal.returns
returns c =
    let st = decoded c.args.words.now in
    let none = c.in_ok-busy_row.ensures in
    let h = c.look_ahead-a.ensures in
    (none, next-told st c.args.image.now none _ _ h.at h.before, h.beside, all_left st c.args.image.now none _ h.left)
