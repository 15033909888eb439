-- Text laid over a buffer, and numbers in decimals, each after a comma or a blank.
use Rattle.std.specs.Prelude.{ℕ, zero, suc, ◌+◌, List, [], ◌∷◌, ◌++◌, ◌≡◌, length}
use Prim.Native.Char.{code}
use Rattle.words.specs.Words.{over}
use Rattle.decimals.specs.Decimal.{decimal_of}

-- text laid over a buffer from a place on, and the place after it
pub record Put (before : List ℕ) (at : ℕ) (text after : List ℕ) (next : ℕ) : Type 0 where
  pub laid : after ≡ over before at text
  pub place : next ≡ at + length text

-- f 0, then f 1, .. f (n - 1)
unfoldable pub each : ℕ → (ℕ → List ℕ) → List ℕ
each zero f = []
each (suc n) f = each n f ++ f n

-- a number after a blank
abbrev pub blank : ℕ → List ℕ
blank v = code " " ∷ decimal_of v

-- numbers, each after a blank
unfoldable pub blanked : List ℕ → List ℕ
blanked [] = []
blanked (v ∷ vs) = blank v ++ blanked vs

-- a field after its comma
abbrev pub field : ℕ → List ℕ
field v = code "," ∷ decimal_of v
