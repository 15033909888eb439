-- Every round is counted, as done or as abandoned.
use Prim.Native.Nat.{ℕ, ◌+◌, ◌%◌, ◌<◌, ◌≤◌}
use mathlib.Core.Bool.{true}
use mathlib.Core.List.{List, [], ◌∷◌}
use mathlib.Core.Path.{◌≡◌, refl, sym, subst}
use native.Mathlib.Omega.{arith}
use lib.ListN.{length, take}
use Rattle.bounded.proofs.Tests.{row_keeps}
use Rattle.text.specs.declared.Line.{Line}
use Rattle.trials.specs.Trials.{Tried, as_abandoned, played}
use Rattle.trial_lines.specs.Lines.{Work, first, numbers_of, sizes_of, is_round, with_round, act}
use Rattle.trial_laws.specs.Pages.{after}
use Rattle.trial_laws.specs.Counts.{RoundsCounted}
use Rattle.trial_laws.proofs.Round.{abandoned-more, played-more}
use Rattle.trial_laws.proofs.Theorem.{fresh, first_taken, Left, left-line}

-- rounds so far
abbrev total : Work → ℕ
total w = w.tried.done + w.tried.abandoned

round-more : (q : Line) (w : Work) → total w < 1000 → total (with_round q w) ≡ total w + 1
unfolding with_round
round-more q w h =
    row_keeps (λ (t : Tried). t.done + t.abandoned ≡ total w + 1) (is_round q)
    (played (take q.count q.numbers) (w.lines % 256) w.tried) (as_abandoned w.tried)
    (played-more (take q.count q.numbers) (w.lines % 256) w.tried h) (abandoned-more w.tried h)

after-counted : (lines : List (List ℕ)) (w : Work) → Left w lines → total w + 1 ≡ w.lines → total (after lines w) + 1 ≡ w.lines + length lines
unfolding after with_round
after-counted [] w h e = omega (arith, e)
after-counted (line ∷ lines) w h e =
    let n = left-line w line lines h in
    let q = numbers_of line in
    let few = h.few in
    let more : total (with_round q w) ≡ total w + 1 = round-more q w (omega (arith, e)) in
    let ih = after-counted lines (with_round q w) n.1 (omega (arith, more, e)) in
    subst (λ (u : Work). total (after lines u) + 1 ≡ w.lines + length (line ∷ lines)) (sym n.0) (omega (arith, ih))

pub rounds-counted : RoundsCounted
rounds-counted buffer setting rounds taken few =
    let t = first_taken buffer setting taken in
    let w = fresh (sizes_of (numbers_of setting)) buffer in
    let n = after-counted rounds w (record { set = refl; some = omega arith; few = omega arith }) refl in
    subst (λ (u : Work). total (after rounds u) ≡ length rounds) (sym t.same) (omega (arith, n))
