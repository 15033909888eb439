-- The state after one of its sizes is put.
use Prim.Native.Nat.{ℕ, zero, suc, ◌+◌, ◌≤◌}
use mathlib.Core.List.{List}
use mathlib.Core.Path.{◌≡◌, ◌∙◌}
use native.Mathlib.Omega.{arith}
use lib.ListN.{length, set, take, drop, length-drop}
use lib.Seq.{length-take-le, get_or-set_same, get_or-set_other}
use Rattle.state_words.specs.Decoded.{start, size, part, decoded}
use Rattle.state_words.proofs.DecodedLaws.{put-part}
use Rattle.state_edits.specs.Edits.{with_size_at, with_sizes}

module _ (c : List ℕ) (n : length c ≡ 1280) where
  abbrev p : List ℕ
  p = take 4 (drop 0 c)

  long : length p ≡ 4
  long = length-take-le 4 (drop 0 c) (omega (arith, length-drop 0 c))

  pub size-put : (k v : ℕ) → k ≤ 3 → decoded (set c (0 + k) v) ≡ with_sizes (decoded c) (with_size_at (decoded c).sizes k v)
  unfolding decoded start size part
  size-put zero v l =
      put-part c 0 0 v (omega arith) (omega arith)
      ∙ rw (get_or-set_same p 0 v 0 (omega (arith, long)), get_or-set_other p 0 1 v 0 (omega arith), get_or-set_other p 0 2 v 0 (omega arith), get_or-set_other p 0 3 v 0 (omega arith))
  size-put (suc zero) v l =
      put-part c 0 1 v (omega arith) (omega arith)
      ∙ rw (get_or-set_same p 1 v 0 (omega (arith, long)), get_or-set_other p 1 0 v 0 (omega arith), get_or-set_other p 1 2 v 0 (omega arith), get_or-set_other p 1 3 v 0 (omega arith))
  size-put (suc (suc zero)) v l =
      put-part c 0 2 v (omega arith) (omega arith)
      ∙ rw (get_or-set_same p 2 v 0 (omega (arith, long)), get_or-set_other p 2 0 v 0 (omega arith), get_or-set_other p 2 1 v 0 (omega arith), get_or-set_other p 2 3 v 0 (omega arith))
  size-put (suc (suc (suc zero))) v l =
      put-part c 0 3 v (omega arith) (omega arith)
      ∙ rw (get_or-set_same p 3 v 0 (omega (arith, long)), get_or-set_other p 3 0 v 0 (omega arith), get_or-set_other p 3 1 v 0 (omega arith), get_or-set_other p 3 2 v 0 (omega arith))
  size-put (suc (suc (suc (suc k)))) v l = absurd (omega (arith, l))
