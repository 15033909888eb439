-- What is pending, part by part.
use Prim.Native.Nat.{ℕ, ◌+◌, ◌<◌, ◌≤◌}
use mathlib.Core.Bool.{false, ◌||◌}
use mathlib.Core.List.{List}
use mathlib.Core.Path.{◌≡◌, sym, ◌∙◌}
use native.Mathlib.Omega.{arith}
use borrow.Author.Tests.{eqb-true, eqb-false, lt-ltb}
use lib.Dec.{eqb, ltb}
use lib.ListN.{length, get_or, set, take, drop, replicate, length-drop, length-replicate}
use lib.Seq.{length-take-le, ext_get_or, get_or-drop, get_or-set_same, get_or-set_other}
use Rattle.bounded.specs.Tab.{filled}
use Rattle.bounded.proofs.Tab.{length-filled, get_or-filled}
use Rattle.bounded.proofs.Tests.{case_on, or_left}
use Rattle.state.specs.declared.Op.{Op}
use Rattle.operations.specs.Operations.{is_idle}
use Rattle.state_words.specs.Decoded.{start, size, part, op_by, decoded, with_made}
use Rattle.state_words.proofs.DecodedLaws.{get_d_take, part_at, put-part}

-- the n words from a on, as a loop copies them
pub copied : (c : List ℕ) (a n : ℕ) → a + n ≤ 1280 → length c ≡ 1280 → filled n (λ i. get_or c (a + i) 0) (replicate n 0) ≡ take n (drop a c)
copied c a n l e =
    let long : n ≤ length (drop a c) = omega (arith, length-drop a c) in
    let same : length (filled n (λ i. get_or c (a + i) 0) (replicate n 0)) ≡ n = length-filled n (λ i. get_or c (a + i) 0) (replicate n 0) ∙ length-replicate {A = ℕ} n 0 in
    ext_get_or 0 (filled n (λ i. get_or c (a + i) 0) (replicate n 0)) (take n (drop a c)) (same ∙ sym (length-take-le n (drop a c) long))
    (λ i h.
    let low : i < n = omega (arith, same, h) in
    get_or-filled n (λ j. get_or c (a + j) 0) (replicate n 0) i 0 low (omega (arith, length-replicate {A = ℕ} n 0)) ∙ sym (get_d_take n (drop a c) i low ∙ get_or-drop a c i 0))

-- an operation of another number than 1 to 10 is none
module _ (k a b c d e : ℕ) where
  past4 : (k ≡ 0 → ⊥) → (k ≡ 1 → ⊥) → (k ≡ 2 → ⊥) → (k ≡ 3 → ⊥) → (k ≡ 4 → ⊥) → 4 < k
  past4 a b c d e = omega arith

  past10 : 4 < k → (k ≡ 5 → ⊥) → (k ≡ 6 → ⊥) → (k ≡ 7 → ⊥) → (k ≡ 8 → ⊥) → (k ≡ 9 → ⊥) → (k ≡ 10 → ⊥) → 10 < k
  past10 l a b c d e f = omega arith

  pub op-idle : is_idle (op_by k a b c d e) ≡ eqb k 0 || ltb 10 k
  op-idle =
      case_on (eqb k 1) (λ t. rw (eqb-true k 1 t))
      (λ f1. case_on (eqb k 2) (λ t. rw (eqb-true k 2 t))
      (λ f2. case_on (eqb k 3) (λ t. rw (eqb-true k 3 t))
      (λ f3. case_on (eqb k 4) (λ t. rw (eqb-true k 4 t))
      (λ f4. case_on (eqb k 5) (λ t. rw (eqb-true k 5 t))
      (λ f5. case_on (eqb k 6) (λ t. rw (eqb-true k 6 t))
      (λ f6. case_on (eqb k 7) (λ t. rw (eqb-true k 7 t))
      (λ f7. case_on (eqb k 8) (λ t. rw (eqb-true k 8 t))
      (λ f8. case_on (eqb k 9) (λ t. rw (eqb-true k 9 t))
      (λ f9. case_on (eqb k 10) (λ t. rw (eqb-true k 10 t))
      (λ f10. case_on (eqb k 0) (λ t. rw (eqb-true k 0 t))
      (λ f0.
      let low : 4 < k = past4 (eqb-false k 0 f0) (eqb-false k 1 f1) (eqb-false k 2 f2) (eqb-false k 3 f3) (eqb-false k 4 f4) in
      let h : 10 < k = past10 low (eqb-false k 5 f5) (eqb-false k 6 f6) (eqb-false k 7 f7) (eqb-false k 8 f8) (eqb-false k 9 f9) (eqb-false k 10 f10) in
      rw (f1, f2, f3, f4, f5, f6, f7, f8, f9, f10, f0, lt-ltb 10 k h))))))))))))

pub idle-read : (c : List ℕ) → eqb (get_or c 14 0) 0 || ltb 10 (get_or c 14 0) ≡ is_idle (decoded c).pending.op
unfolding decoded start size
idle-read c =
    let n = part c 8 in
    rw (sym (part_at c 8 0 (omega arith)))
    (case_on (eqb (get_or n 0 0) 0) (λ t. rw t) (λ f. sym (op-idle (get_or n 0 0) (get_or n 1 0) (get_or n 2 0) (get_or n 3 0) (get_or n 4 0) (get_or n 5 0)) ∙ rw f))

-- the operation, and with one pending how many of its stores are made
module _ (c : List ℕ) where
  pub op-read : (op : Op) → op ≡ op_by (get_or c 14 0) (get_or c 15 0) (get_or c 16 0) (get_or c 17 0) (get_or c 18 0) (get_or c 19 0) → op ≡ (decoded c).pending.op
  unfolding decoded start size
  op-read op e =
      rw (e, part_at c 8 0 (omega arith), part_at c 8 1 (omega arith), part_at c 8 2 (omega arith), part_at c 8 3 (omega arith), part_at c 8 4 (omega arith), part_at c 8 5 (omega arith))
      (case_on (eqb (get_or c 14 0) 0) (λ t. rw (t, eqb-true (get_or c 14 0) 0 t)) (λ t. rw t))

  busy : is_idle (decoded c).pending.op ≡ false → eqb (get_or c 14 0) 0 ≡ false
  busy e = or_left (eqb (get_or c 14 0) 0) (ltb 10 (get_or c 14 0)) (idle-read c ∙ e)

  pub made-read : is_idle (decoded c).pending.op ≡ false → get_or c 20 0 ≡ (decoded c).pending.made
  unfolding decoded start size
  made-read e = rw (part_at c 8 0 (omega arith), busy e, part_at c 8 6 (omega arith))

  pub line_read : is_idle (decoded c).pending.op ≡ false → take 8 (drop 24 c) ≡ (decoded c).pending.line
  unfolding decoded start size part
  line_read e = rw (get_d_take 8 (drop 14 c) 0 (omega arith), get_or-drop 14 c 0 0, busy e)

  pub second-read : is_idle (decoded c).pending.op ≡ false → take 8 (drop 32 c) ≡ (decoded c).pending.second
  unfolding decoded start size part
  second-read e = rw (get_d_take 8 (drop 14 c) 0 (omega arith), get_or-drop 14 c 0 0, busy e)

  pub made-put : length c ≡ 1280 → is_idle (decoded c).pending.op ≡ false → (m : ℕ) → decoded (set c 20 m) ≡ with_made (decoded c) m
  unfolding decoded start size part
  made-put n e m =
      let p = take 8 (drop 14 c) in
      let long : 8 ≤ length (drop 14 c) = omega (arith, length-drop 14 c) in
      let some : eqb (get_or p 0 0) 0 ≡ false = rw (get_d_take 8 (drop 14 c) 0 (omega arith), get_or-drop 14 c 0 0) (busy e) in
      put-part c 8 6 m (omega arith) (omega arith)
      ∙ rw (
        get_or-set_other p 6 0 m 0 (omega arith),
        get_or-set_other p 6 1 m 0 (omega arith),
        get_or-set_other p 6 2 m 0 (omega arith),
        get_or-set_other p 6 3 m 0 (omega arith),
        get_or-set_other p 6 4 m 0 (omega arith),
        get_or-set_other p 6 5 m 0 (omega arith),
        get_or-set_same p 6 m 0 (omega (arith, length-take-le 8 (drop 14 c) long)),
        some,
      )
