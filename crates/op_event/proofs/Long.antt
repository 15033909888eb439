-- The lengths of the parts of a state in words.
use Prim.Native.Nat.{ℕ, suc, ◌+◌, ◌≤◌}
use mathlib.Core.List.{List, [], ◌∷◌}
use mathlib.Core.Path.{◌≡◌, refl, ap, ◌∙◌}
use native.Mathlib.Omega.{arith}
use lib.ListN.{length, take, drop, length-drop}
use lib.Seq.{length-take-le}
use Rattle.replay.proofs.Tables.{Sixteen}
use Rattle.state_words.specs.Decoded.{start, size, part, flags, decoded}

length_part : (c : List ℕ) (a n : ℕ) → a + n ≤ length c → length (take n (drop a c)) ≡ n
length_part c a n h = length-take-le n (drop a c) (omega (arith, length-drop a c))

length-flags : (l : List ℕ) → length (flags l) ≡ length l
unfolding flags
length-flags [] = refl
length-flags (n ∷ l) = ap suc (length-flags l)

module _ (c : List ℕ) (n : length c ≡ 1280) where
  pub table-long : Sixteen (decoded c).table
  unfolding decoded part start size
  table-long = record {
    page = length_part c 40 16 (omega arith);
    original = length_part c 56 16 (omega arith);
    spare = length_part c 72 16 (omega arith);
    bitmap = length_part c 88 16 (omega arith);
    last = length_part c 104 16 (omega arith);
  }

  pub held-long : length (decoded c).writers.held ≡ 64
  unfolding decoded part start size
  held-long = length_part c 120 64 (omega arith)

  pub opened-long : length (decoded c).writers.opened ≡ 4
  unfolding decoded part start size
  opened-long = length-flags (take 4 (drop 10 c)) ∙ length_part c 10 4 (omega arith)
