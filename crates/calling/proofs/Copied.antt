-- A write's data: what its form tells, and the bytes copied out of a line's numbers.
use Prim.Native.Nat.{ℕ, ◌-◌, ◌<◌, ◌≤◌}
use mathlib.Core.Bool.{true}
use mathlib.Core.List.{List, [], ◌∷◌}
use mathlib.Core.Path.{◌≡◌, sym, ap, subst, ◌∙◌}
use lib.Dec.{leb}
use lib.ListN.{length, take, replicate}
use lib.Seq.{ext_get_or, get_or-take, length-take-le}
use native.Mathlib.Omega.{arith}
use borrow.Author.Tests.{leb-true}
use Rattle.bounded.specs.Tab.{tab, filled}
use Rattle.bounded.proofs.Tab.{length-tab, get_or-tab, length-filled, get_or-filled}
use Rattle.bounded.proofs.Tests.{every_held}
use Rattle.calling.specs.WriteLine.{datum, are_bytes, has_data, data_of}

pub record Data (count : ℕ) (numbers : List ℕ) : Type 0 where
  pub five : 5 ≤ count
  pub most : count ≤ 69
  pub bytes : are_bytes (count - 5) numbers ≡ true

pub data-told : (count : ℕ) (numbers : List ℕ) → has_data count numbers ≡ true → Data count numbers
data-told count numbers e =
    let h = every_held (leb 5 count ∷ leb count 69 ∷ are_bytes (count - 5) numbers ∷ []) e in
    record { five = leb-true 5 count h.0; most = leb-true count 69 h.1.0; bytes = h.1.1.0 }

-- what was put into the first n places of l
take-filled : (n : ℕ) (f : ℕ → ℕ) (l : List ℕ) → n ≤ length l → take n (filled n f l) ≡ tab n f
take-filled n f l h =
    let s : n ≤ length (filled n f l) = subst (λ (k : ℕ). n ≤ k) (sym (length-filled n f l)) h in
    let e : length (take n (filled n f l)) ≡ n = length-take-le n (filled n f l) s in
    ext_get_or 0 (take n (filled n f l)) (tab n f) (e ∙ sym (length-tab n f))
    (λ i p.
    let q : i < n = subst (λ (k : ℕ). i < k) e p in
    get_or-take n (filled n f l) i 0 q ∙ get_or-filled n f l i 0 q h ∙ sym (get_or-tab n f i 0 q))

module _ (count : ℕ) (numbers bytes : List ℕ) (e : bytes ≡ filled (count - 5) (datum numbers) (replicate 64 0)) where
  pub length-bytes : length bytes ≡ 64
  length-bytes = ap length e ∙ length-filled (count - 5) (datum numbers) (replicate 64 0)

  -- the bytes that the array starts with are the data
  pub data-copied : count ≤ 69 → take (count - 5) bytes ≡ data_of count numbers
  data-copied h =
      let k : count - 5 ≤ 64 = omega arith in
      ap (take (count - 5)) e ∙ take-filled (count - 5) (datum numbers) (replicate 64 0) k
