-- What the stores of a line count for: each for one of the five parts, and for one of the last two numbers.
use Prim.Native.Nat.{ℕ, zero, suc, ◌+◌, ◌≤◌}
use mathlib.Core.Bool.{Bool, true, false, not}
use mathlib.Core.List.{List}
use mathlib.Core.Path.{◌≡◌, refl}
use native.Mathlib.Omega.{arith}
use lib.Dec.{ltb, eqb}
use Rattle.bounded.specs.Below.{one, count_below}
use Rattle.bounded.proofs.Below.{count-le}
use Rattle.bounded.proofs.Tests.{row_keeps}
use Rattle.layout.specs.declared.Sizes.{Sizes}
use Rattle.layout.specs.Layout.{slot_word, padding_word, frame_word}
use Rattle.refinement.specs.Stores.{World}
use Rattle.text.specs.declared.Line.{Line}
use Rattle.forms.specs.Forms.{form_of}
use Rattle.executing.specs.Called.{Machine}
use Rattle.script.specs.Turns.{turn_of}
use Rattle.wear.specs.Wear.{part_of, wear_of, word_of, worn_by, pending_by, by_write, stores_in, line_wear}

-- ---- one store

-- a part is one of five
abbrev Once : ℕ → Type 0
Once p = one (eqb p 0) + one (eqb p 1) + one (eqb p 2) + one (eqb p 3) + one (eqb p 4) ≡ 1

part-once : (z : Sizes) (a : ℕ) → Once (part_of z a)
unfolding part_of one
part-once z a =
    row_keeps Once (ltb a 8) 1 _ refl
    (row_keeps Once (ltb a (slot_word z z.slots)) 2 _ refl
    (row_keeps Once (ltb a (padding_word z)) 3 _ refl (row_keeps Once (ltb a (frame_word z)) 4 0 refl refl)))

by-once : (b : Bool) → one (not b) + one b ≡ 1
unfolding one
by-once true = refl
by-once false = refl

-- ---- n stores

module _ (v : World) (by_w : Bool) where
  abbrev worn : ℕ → ℕ → ℕ
  worn = worn_by v by_w

  pub parts_all : (n : ℕ) → worn n 15 + worn n 16 + worn n 17 + worn n 18 + worn n 19 ≡ n
  unfolding worn_by wear_of count_below
  parts_all zero = refl
  parts_all (suc n) = omega (arith, parts_all n, part-once v.st.sizes (word_of v n))

  pub writers-all : (n : ℕ) → worn n 20 + worn n 21 ≡ n
  unfolding worn_by wear_of count_below
  writers-all zero = refl
  writers-all (suc n) = omega (arith, writers-all n, by-once by_w)

  pub worn-low : (n k : ℕ) → worn n k ≤ n
  unfolding worn_by
  worn-low n k = count-le (λ i. wear_of v.st.sizes by_w (word_of v i) k) n

-- ---- a line

module _ (m : Machine) (img : List ℕ) (line : Line) where
  -- the stores that powerhit tells of it
  abbrev pub made : ℕ
  made = stores_in (turn_of m img line).output

  abbrev at : World
  at = pending_by (form_of m.formatted line) m img line

  abbrev by : Bool
  by = by_write (form_of m.formatted line)

  abbrev wear : ℕ → ℕ
  wear = line_wear m img line

  pub line-parts : wear 15 + wear 16 + wear 17 + wear 18 + wear 19 ≡ made
  unfolding line_wear
  line-parts = parts_all at by made

  pub line-writers : wear 20 + wear 21 ≡ made
  unfolding line_wear
  line-writers = writers-all at by made

  pub line_low : (k : ℕ) → wear k ≤ made
  unfolding line_wear
  line_low k = worn-low at by made k
