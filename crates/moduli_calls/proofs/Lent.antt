-- How much of a buffer is lent, at most all; and a load's text, a part of it.
use Prim.Native.Nat.{ℕ, ◌+◌, ◌-◌, min}
use mathlib.Core.List.{List}
use mathlib.Core.Path.{◌≡◌, sym, ap, ap₂, ◌∙◌}
use native.Mathlib.Omega.{arith}
use lib.Dec.{leb}
use lib.ListN.{length, take, drop}
use lib.Seq.{take_all}
use borrow.Author.Tests.{leb-true, leb-false}
use Rattle.std.specs.List.{slice_range}
use Rattle.bounded.proofs.Tests.{case_on}
use Rattle.words.specs.Words.{part}

pub take-least : (lent : ℕ) (l : List ℕ) (k : ℕ) → k ≡ min lent (length l) → take k l ≡ take lent l
take-least lent l k e =
    case_on (leb lent (length l))
    (λ t. let same : k ≡ lent = omega (arith, leb-true lent (length l) t) in ap (λ (n : ℕ). take n l) same)
    (λ f. let past = leb-false lent (length l) f in take_all k l (omega arith) ∙ sym (take_all lent l (omega arith)))

pub text-part : (l : List ℕ) (x y at n end : ℕ) → x ≡ at → y ≡ n → end ≡ x + y → slice_range l x end ≡ part l at n
unfolding part
text-part l x y at n end p q e =
    let count : end - x ≡ n = omega arith in
    ap₂ (λ (k j : ℕ). take k (drop j l)) count p
