use mathlib.Core.Path.{ap, ◌∙◌}
use mathlib.Core.Bool.{not}
use Prim.Native.Nat.{ℕ}
use lib.ListN.{length, get_or}
use borrow.Author.Tests.{eq-eqb, ne_eqb}
use Rattle.bounded.specs.Below.{all_below}
use Rattle.bounded.proofs.Lists.{all_list}
use Rattle.meters.specs.Meters.{modulus_bad, moduli_ok}
use Rattle.meters.proofs.moduli_ok.Goals as goal

pub returns-then-moduli-eq24 : goal.returns-then-moduli-eq24
unfolding moduli_ok
returns-then-moduli-eq24 c =
    let l = c.args.moduli.now in
    rw (eq-eqb (length l) 24 c.if-moduli-eq24.true)
    (c.are_in_range.ensures ∙ all_list (λ (x : ℕ). not (modulus_bad x)) l 0 ∙ ap (λ (n : ℕ). all_below n (λ m. not (modulus_bad (get_or l m 0)))) c.if-moduli-eq24.true)

pub returns-else-moduli-eq24 : goal.returns-else-moduli-eq24
unfolding moduli_ok
returns-else-moduli-eq24 c = rw (ne_eqb (length c.args.moduli.now) 24 c.if-moduli-eq24.false)
