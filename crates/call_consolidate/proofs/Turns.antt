-- A turn of the search for the number with the least key, by the tests of the code. may is whether i passes, a and b are the keys of i and of m, the one found below it.
use Prim.Native.Nat.{ℕ, ◌+◌}
use mathlib.Core.Bool.{Bool, true, false, ◌&&◌}
use mathlib.Core.Path.{◌≡◌}
use lib.Dec.{ltb}
use borrow.Author.Tests.{eq-eqb, ne_eqb}
use Rattle.bounded.specs.Below.{least_turn}

module _ (f : ℕ → Bool) (key : ℕ → ℕ) (i m : ℕ) (may : Bool) (e : may ≡ f i) where
  pub first_found : m ≡ i → may ≡ true → i ≡ least_turn f key i m
  first_found q t = rw (← e, t, eq-eqb m i q)

  pub none_found : m ≡ i → may ≡ false → i + 1 ≡ least_turn f key i m
  none_found q t = rw (← e, t, eq-eqb m i q)

  module _ (a b : ℕ) (n : m ≡ i → ⊥) (p : a ≡ key i) (q : b ≡ key m) where
    pub fewer-found : may && ltb a b ≡ true → i ≡ least_turn f key i m
    fewer-found t = rw (← e, ne_eqb m i n, ← p, ← q, t)

    pub kept : may && ltb a b ≡ false → m ≡ least_turn f key i m
    kept t = rw (← e, ne_eqb m i n, ← p, ← q, t)
