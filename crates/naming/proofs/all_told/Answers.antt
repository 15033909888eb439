use Rattle.naming.proofs.NamingLaws.{all_first, told-turn-own, told-turn-marked, told-past}
use native.Mathlib.Omega.{arith}
use Prim.Native.Nat.{◌*◌, ◌<◌, min}
use mathlib.Core.Path.{◌≡◌, sym, ◌∙◌}
use Rattle.naming.proofs.all_told.Goals as goal
use Rattle.naming.proofs.all_told.Goals.{then-not-has, else-not-has}

pub loop-k-init : goal.loop-k-init
loop-k-init c = all_first _ _

pub loop-k-preserved : goal.loop-k-preserved
loop-k-preserved c = let a = c.args in
    let short : 64 * c.loop-k.k < a.p = omega (arith, c.div_ceil-k-end.ensures, c.loop-k-test.true) in
    let own = told-turn-own a.p a.own a.seen.now c.loop-k.k short c.loop-k.all c.loop-k.invariant c.if-not-has.all in
    let moved = told-turn-marked a.p a.own a.seen.now c.loop-k.k short c.loop-k.all c.loop-k.invariant c.if-not-has.all in
    elim c.if-not-has.branch [
      | then-not-has w ↦ moved _ _ (sym c.has.ensures ∙ w.if-not-has.true) w.min.ensures w.marked_from-all.ensures w.all-is
      | else-not-has w ↦ own (sym c.has.ensures ∙ w.if-not-has.false) w.all-is
    ]

pub returns : goal.returns
returns c = let a = c.args in
    let e : min (64 * c.loop-k.k) a.p ≡ a.p = omega (arith, c.div_ceil-k-end.ensures, c.loop-k-test.false) in
    told-past a.p a.own a.seen.now a.n c.loop-k.all c.marked_from.result _ e c.requires.0 c.loop-k.invariant c.marked_from.ensures
