use Prim.Native.Nat.{◌-◌}
use native.Mathlib.Omega.{arith}
use Rattle.sequences.specs.Sequences.{sequence}
use Rattle.sequence_lines.specs.Listing.{line_of}
use Rattle.short_runs.specs.Program.{with_line}
use Rattle.short_runs.proofs.Printed.{prints-none, prints-more, prints-lines}
use Rattle.short_runs.proofs.put_cuts.Goals as goal

pub loop-k-init : goal.loop-k-init
loop-k-init c = (omega arith, prints-none (line_of (sequence c.args.n c.args.i)) (λ j. with_line (line_of (sequence c.args.n c.args.i) j)))

pub returns-then-k-cut : goal.returns-then-k-cut
returns-then-k-cut c =
    let cut = c.put_cut-cut in
    let h = c.loop-k in
    let a = c.args in
    let calls = sequence a.n a.i in
    prints-lines calls h.k h.invariant.0 (omega (arith, cut.ensures.needed, c.if-k-cut.true)) (prints-more (line_of calls) (λ j. with_line (line_of calls j)) h.k h.invariant.1 cut.ensures.line)

pub overflow_add-k : goal.overflow_add-k
overflow_add-k c = omega (arith, c.if-k-cut.false)

pub loop-k-smaller : goal.loop-k-smaller
loop-k-smaller c = omega (arith, c.put_cut-cut.ensures.needed, c.if-k-cut.false)

pub loop-k-preserved : goal.loop-k-preserved
loop-k-preserved c =
    let cut = c.put_cut-cut in
    let h = c.loop-k in
    let a = c.args in
    let calls = sequence a.n a.i in
    (omega (arith, cut.ensures.needed, c.if-k-cut.false), prints-more (line_of calls) (λ j. with_line (line_of calls j)) h.k h.invariant.1 cut.ensures.line)
