-- The stores of an answer.
use Prim.Native.Nat.{ℕ}
use mathlib.Core.Path.{◌≡◌, refl}
use Rattle.std.specs.Prelude.{Ok, Err}
use Rattle.answers.specs.Answers.{Answer, stores_of}

-- an answer that is not taken has none
pub stores-none : (a : Answer) → ((n : ℕ) → ◌≡◌ {A = Answer} a (Ok n) → ⊥) → 0 ≡ stores_of a
stores-none (Ok n) h = absurd (h n refl)
stores-none (Err r) h = refl
