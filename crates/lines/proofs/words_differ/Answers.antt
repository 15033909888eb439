use Prim.Native.Nat.{ℕ, suc}
use mathlib.Core.Bool.{Bool, true, false, not, ◌&&◌, ◌||◌}
use mathlib.Core.Path.{◌≡◌, refl, sym, ap, ◌∙◌}
use Rattle.bounded.proofs.Below.{some-none}
use Rattle.bounded.specs.Below.{all_below, some_below}
use native.Mathlib.Numerals.{add-one}
use Rattle.lines.proofs.words_differ.Goals as goal

-- One place more: something holds below it or at it.
or-not : (a b : Bool) → not a || b ≡ not (a && not b)
or-not true true = refl
or-not true false = refl
or-not false b = refl

more : (f : ℕ → Bool) (n : ℕ) (r : Bool) → r ≡ some_below n f → r || f n ≡ some_below (suc n) f
unfolding some_below all_below
more f n r e = ap (λ (x : Bool). x || f n) e ∙ or-not (all_below n (λ i. not (f i))) (f n)

pub loop-k-init : goal.loop-k-init
loop-k-init c = sym (some-none _)

pub loop-k-preserved : goal.loop-k-preserved
loop-k-preserved c = rw add-one (more _ c.loop-k.k _ c.loop-k.invariant)
