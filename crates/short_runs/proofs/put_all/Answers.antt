use Prim.Native.Nat.{◌-◌}
use native.Mathlib.Omega.{arith}
use Rattle.sequences.specs.Sequences.{sequence}
use Rattle.sequence_lines.specs.Listing.{lines_of}
use Rattle.short_runs.specs.Program.{with_lines}
use Rattle.short_runs.proofs.Printed.{prints-none, prints-more, prints-all}
use Rattle.short_runs.proofs.put_all.Goals as goal

pub loop-i-init : goal.loop-i-init
loop-i-init c = (prints-none (λ j. lines_of (sequence c.args.n j)) (λ j. with_lines (sequence c.args.n j)))

pub loop-i-preserved : goal.loop-i-preserved
loop-i-preserved c =
    let h = c.loop-i in
    let n = c.args.n in
    prints-more (λ j. lines_of (sequence n j)) (λ j. with_lines (sequence n j)) h.i h.invariant c.put_cuts-output.ensures

pub returns : goal.returns
returns c =
    let h = c.loop-i in
    let all = c.total-i-end.ensures in
    prints-all c.args.n h.i (omega (arith, all, h.auto.i-end)) (omega (arith, all, c.loop-i-test.false)) h.invariant
