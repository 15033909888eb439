use mathlib.Core.Path.{refl, sym, ap, ◌∙◌}
use Prim.Native.Nat.{ℕ, ◌+◌, ◌-◌, ◌%◌}
use borrow.Author.Rules.{rules}
use native.Mathlib.Omega.{arith}
use lib.ListN.{length-set}
use Rattle.words.specs.Words.{over}
use Rattle.decimals.proofs.Printing.{lowest, digits-lowest, decimal-le, put_last, put-none}
use Rattle.decimals.proofs.put_decimal.Goals as goal

pub loop-k-init : goal.loop-k-init
loop-k-init c = (search rules, refl, refl)

pub overflow_add-target-in-loop-k : goal.overflow_add-target-in-loop-k
overflow_add-target-in-loop-k c = omega (arith, decimal-le c.args.v, c.width-n.ensures)

pub bounds-target-at : goal.bounds-target-at
bounds-target-at c = omega (arith, decimal-le c.args.v, c.width-n.ensures)

pub loop-k-preserved : goal.loop-k-preserved
loop-k-preserved c =
    let h = c.loop-k in
    let x = c.args in (
      search rules,
      length-set h.target (x.at + (h.k - 1)) (48 + h.rest % 10) ∙ h.invariant.1,
      put_last h.target x.at h.k h.rest c.loop-k-test.true (omega (arith, decimal-le c.args.v, c.width-n.ensures)) ∙ h.invariant.2,
    )

pub overflow_add-result : goal.overflow_add-result
overflow_add-result c = omega (arith, decimal-le c.args.v, c.width-n.ensures)

pub returns : goal.returns
returns c =
    let h = c.loop-k in
    let x = c.args in record {
      target_after = put-none h.target (over x.target.now x.at (lowest c.width-n.result x.v)) x.at h.k h.rest c.loop-k-test.false h.invariant.2
          ∙ ap (λ (n : ℕ). over x.target.now x.at (lowest n x.v)) c.width-n.ensures
          ∙ ap (over x.target.now x.at) (sym (digits-lowest 20 x.v));
      value = ap (λ (n : ℕ). x.at + n) c.width-n.ensures;
    }
