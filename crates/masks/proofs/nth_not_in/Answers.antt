use mathlib.Core.Path.{ap, ◌∙◌}
use mathlib.Core.List.{List}
use Prim.Native.Nat.{ℕ}
use lib.ListN.{get_or}
use Rattle.masks.specs.Lines.{lines_in}
use Rattle.masks.proofs.Counts.{lines-others}
use Rattle.masks.proofs.nth_not_in.Goals as goal

-- the lines in the complement are those that are not in m
pub returns : goal.returns
returns c =
    let at : List ℕ → ℕ = λ (l : List ℕ). get_or l c.args.n 64 in
    c.nth_in.ensures ∙ ap (λ (m : ℕ). at (lines_in m)) c.complement.ensures ∙ ap at (lines-others c.args.m c.ranges.m.fits)
