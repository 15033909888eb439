use mathlib.Core.Path.{refl, sym}
use lib.ListN.{replicate}
use lib.Seq.{length-take-le}
use Rattle.std.proofs.lemmas.Slice.Eq.{slice_eq-Decides}
use Rattle.std.proofs.lemmas.Bool.Decides.{Decides-eqb}
use Rattle.bounded.proofs.Tests.{contradicts}
use Rattle.reason_reading.proofs.Back.{again-cannot, again-low, again-other, again-these}
use Rattle.reason_reading.proofs.read_back.Goals as goal

-- The guess is composed again, and its sentence compared with the text.
pub returns-in_default : goal.returns-in_default
returns-in_default c =
    again-cannot c.args.text.now c.guess_of-reason.result c.compose.result (replicate 200 0) c.compose.new.target c.guess_of-reason.ensures refl c.compose.ensures.value c.compose.ensures.target_after c.in_default.is

pub slice_bounds-target-end : goal.slice_bounds-target-end
slice_bounds-target-end c =
    again-low c.args.text.now c.guess_of-reason.result c.compose.result (replicate 200 0) c.compose.new.target c.guess_of-reason.ensures refl c.compose.ensures.value c.compose.ensures.target_after _ c.in-Ok.is

pub slice_bounds-eq-end : goal.slice_bounds-eq-end
slice_bounds-eq-end c =
    sym (length-take-le _ _ (again-low c.args.text.now c.guess_of-reason.result c.compose.result (replicate 200 0) c.compose.new.target c.guess_of-reason.ensures refl c.compose.ensures.value c.compose.ensures.target_after _ c.in-Ok.is))

pub returns-else-eq : goal.returns-else-eq
returns-else-eq c =
    again-other c.args.text.now c.guess_of-reason.result c.compose.result (replicate 200 0) c.compose.new.target c.guess_of-reason.ensures refl c.compose.ensures.value c.compose.ensures.target_after _ c.in-Ok.is
    (λ q. contradicts ((slice_eq-Decides Decides-eqb _ _ _ c.eq.ensures).1 q) c.if-eq.false)

pub returns-then-eq : goal.returns-then-eq
returns-then-eq c =
    again-these c.args.text.now c.guess_of-reason.result c.compose.result (replicate 200 0) c.compose.new.target c.guess_of-reason.ensures refl c.compose.ensures.value c.compose.ensures.target_after _ c.in-Ok.is
    ((slice_eq-Decides Decides-eqb _ _ _ c.eq.ensures).0 c.if-eq.true)
