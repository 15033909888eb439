use Rattle.cutting.proofs.Cutting.{end-past, end-found}
use Rattle.cutting.proofs.line_end.Goals as goal

-- The search finds the place, counted from `from` on.
pub returns-then-from-input : goal.returns-then-from-input
returns-then-from-input c =
    let x = c.args in
    end-past x.input.now x.from c.if-from-input.true

pub returns : goal.returns
returns c =
    let x = c.args in
    end-found x.input.now x.from c.find.result c.if-from-input.false c.find.ensures.value
