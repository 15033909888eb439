-- Sets that have no line in common.
use Prim.Native.Nat.{ℕ}
use mathlib.Core.Bool.{Bool, true, false, ◌&&◌}
use mathlib.Core.Path.{◌≡◌, refl, sym, ap, ◌∙◌}
use lib.Bits.{bit_and, and_comm}
use lib.Dec.{eqb}
use borrow.Author.Tests.{eqb-true}
use Rattle.masks.specs.Lines.{in_mask, disjoint}
use Rattle.masks.proofs.Bits.{in_and}
use Rattle.masks.proofs.Members.{in-none}

both-in : (a b i : ℕ) → disjoint a b ≡ true → in_mask a i && in_mask b i ≡ false
unfolding disjoint
both-in a b i e = sym (in_and a b i) ∙ ap (λ (x : ℕ). in_mask x i) (eqb-true (bit_and a b) 0 e) ∙ in-none i

pub disjoint-at : (a b : ℕ) → disjoint a b ≡ true → (i : ℕ) → in_mask a i ≡ true → in_mask b i ≡ false
disjoint-at a b e i t = ap (λ (x : Bool). x && in_mask b i) (sym t) ∙ both-in a b i e

pub disjoint-sym : (a b : ℕ) → disjoint a b ≡ disjoint b a
unfolding disjoint
disjoint-sym a b = ap (λ (x : ℕ). eqb x 0) (and_comm a b)

-- the empty set is apart from every set
pub none-disjoint : (b : ℕ) → disjoint 0 b ≡ true
unfolding disjoint
none-disjoint b = refl

pub disjoint-none : (a : ℕ) → disjoint a 0 ≡ true
disjoint-none a = disjoint-sym a 0 ∙ none-disjoint a
