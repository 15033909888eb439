use Rattle.naming.proofs.NamingLaws.{runs-at, runs_none, turn-own, turn-marked}
use Rattle.masks.proofs.Bits.{in-none}
use native.Mathlib.Omega.{arith}
use lib.ListN.{length}
use Prim.Native.Nat.{◌*◌, ◌<◌, min}
use mathlib.Core.Path.{◌≡◌, ◌∙◌}
use Rattle.naming.proofs.mark_moved.Goals as goal
use Rattle.naming.proofs.mark_moved.Goals.{then-run_own, else-run_own}

pub loop-k-init : goal.loop-k-init
loop-k-init c = (c.requires.0, ((λ y h. in-none y), runs_none c.args.homes.now c.args.seen.now))

pub loop-k-preserved : goal.loop-k-preserved
loop-k-preserved c = let b = c.args.homes.now in
    let before = c.args.seen.now in
    let short : 64 * c.loop-k.k < length b = omega (arith, c.div_ceil-k-end.ensures, c.loop-k-test.true) in
    let end = c.min-end in
    let i = c.loop-k.invariant in
    let own = turn-own c.loop-k.own c.loop-k.k i.1.0 b before c.loop-k.seen short i.0 i.1.1 _ end.ensures in
    let moved = turn-marked c.loop-k.own c.loop-k.k i.1.0 b before c.loop-k.seen short i.0 i.1.1 _ end.ensures in
    elim c.if-run_own.branch [
      | then-run_own w ↦ own _ _ _ c.run_own.ensures w.if-run_own.true w.seen-is (w.own-is ∙ w.with-own.ensures)
      | else-run_own w ↦ moved _ _ (w.seen-is ∙ w.mark.ensures) w.own-is
    ]

pub returns : goal.returns
returns c = let b = c.args.homes.now in
    let e : min (64 * c.loop-k.k) (length b) ≡ length b = omega (arith, c.div_ceil-k-end.ensures, c.loop-k-test.false) in
    runs-at b c.args.seen.now c.loop-k.seen c.loop-k.own _ _ e c.loop-k.invariant.1.1
