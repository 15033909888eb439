use Rattle.naming.proofs.NamingLaws.{marked-long, by_mask, by_runs}
use native.Mathlib.Omega.{arith}
use lib.ListN.{length-replicate}
use lib.Dec.{eqb}
use lib.Bits.{bit_or}
use Prim.Native.Nat.{ℕ}
use mathlib.Core.Path.{refl, ap, ◌∙◌}
use mathlib.Core.Bool.{false}
use borrow.Author.Rules.{rules}
use Rattle.naming.proofs.each_once.Goals as goal

pub returns-then-n-le64 : goal.returns-then-n-le64
returns-then-n-le64 c = ap (λ (k : ℕ). eqb (bit_or c.mask_of-m.result c.mask_of.result) k) c.first_ones.ensures
    ∙ by_mask c.args.names.now c.args.homes.now _ _ (search rules) (search rules)
    c.if-n-le64.true c.mask_of-m.ensures c.mask_of.ensures

pub mark_moved-own-requires : goal.mark_moved-own-requires
mark_moved-own-requires c = (marked-long c.args.names.now _ _ c.mark.ensures (length-replicate 1041 false), c.requires.1)

pub returns : goal.returns
returns c = c.all_told.ensures
    ∙ by_runs c.args.names.now c.args.homes.now c.mark_moved-own.result _ _ _ refl (omega (arith, c.requires.0, c.requires.1))
    c.mark.ensures c.mark_moved-own.ensures
