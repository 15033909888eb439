-- The types of the words give the lengths of the state's arrays and the ranges of its masks.
use Rattle.std.proofs.Common.{◌≡◌, ℕ, ◌+◌, ◌≤◌, ltb, List, length, get_or, take, drop, arith, length-drop, length-take-le, ltb-false, ltb-true}
use lib.ListN.{get_or-eq_default}
use Rattle.bounded.proofs.Tests.{case_on}
use Rattle.refinement.proofs.Sized.{Low, Sized}
use Rattle.state_words.specs.Decoded.{start, size, part, decoded}
use Rattle.state_words.proofs.DecodedLaws.{part_at}
use Rattle.op_event.proofs.Long.{table-long, held-long, opened-long}

module _ (c : List ℕ) (n : length c ≡ 1280) (low : Low c) where
  -- a part's numbers are the words' or none
  part_low : (k : ℕ) → start k + size k ≤ 1280 → Low (part c k)
  unfolding part
  part_low k h i =
      let long : length (take (size k) (drop (start k) c)) ≡ size k = length-take-le (size k) (drop (start k) c) (omega (arith, length-drop (start k) c)) in
      case_on (ltb i (size k))
      (λ t. rw (part_at c k i (ltb-true i (size k) t)) (low (start k + i)))
      (λ t.
      let z : get_or (take (size k) (drop (start k) c)) i 0 ≡ 0 = get_or-eq_default (take (size k) (drop (start k) c)) 0 (omega (arith, ltb-false i (size k) t)) in
      omega arith)

  pub words-sized : Sized (decoded c)
  unfolding decoded start size part
  words-sized =
      record {
        table = record { sixteen = table-long c n; bitmap-low = part_low 14 (omega arith) };
        writers = record { four = opened-long c n; sixty-four = held-long c n; held_low = part_low 16 (omega arith) };
        keys = length-take-le 64 (drop 184 c) (omega (arith, length-drop 184 c));
        map = length-take-le 1024 (drop 256 c) (omega (arith, length-drop 256 c));
      }
