-- The sequences rise, and every list of numbers of 1 to 12 is one of them.
use Prim.Native.Nat.{ℕ, zero, suc, ◌+◌, ◌-◌, ◌*◌, ◌/◌, ◌%◌, ◌^◌, ◌<◌, ◌≤◌}
use mathlib.Core.List.{List, [], ◌∷◌, ◌++◌, append_assoc, append-nil}
use mathlib.Core.Logic.{inl, inr, ⊎_elim}
use mathlib.Core.Path.{◌≡◌, refl, sym, ap, ◌∙◌, subst}
use native.Mathlib.Nat.{pow-suc}
use native.Mathlib.Omega.{arith}
use lib.Dec.{ltb}
use lib.ListN.{length, length-append}
use borrow.Author.Tests.{ltb-true, ltb-false}
use Rattle.bounded.proofs.Tests.{case_on}
use Rattle.sequences.specs.Sequences.{sequence, Before, Numbers, Rising, Sound, Complete}

-- ---- how long they are, and of what

pub length-sequence : (n i : ℕ) → length (sequence n i) ≡ n
unfolding sequence
length-sequence zero i = refl
length-sequence (suc n) i = omega (arith, length-append (sequence n (i / 12)) ((i % 12 + 1) ∷ []), length-sequence n (i / 12))

numbers_more : (xs : List ℕ) (x : ℕ) → Numbers xs → 1 ≤ x → x ≤ 12 → Numbers (xs ++ x ∷ [])
numbers_more [] x h a b = (a, b, tt)
numbers_more (y ∷ xs) x h a b = (h.0, h.1, numbers_more xs x h.2 a b)

numbers-sequence : (n i : ℕ) → Numbers (sequence n i)
unfolding sequence
numbers-sequence zero i = tt
numbers-sequence (suc n) i = numbers_more (sequence n (i / 12)) (i % 12 + 1) (numbers-sequence n (i / 12)) (omega arith) (omega arith)

pub sound : Sound
sound n i = (length-sequence n i, numbers-sequence n i)

-- ---- they rise

-- one more number does not change the order of lists that differ before it
before_more : (xs ys : List ℕ) (x y : ℕ) → length xs ≡ length ys → Before xs ys → Before (xs ++ x ∷ []) (ys ++ y ∷ [])
before_more [] [] x y e h = absurd h
before_more [] (b ∷ ys) x y e h = absurd (omega arith)
before_more (a ∷ xs) [] x y e h = absurd (omega arith)
before_more (a ∷ xs) (b ∷ ys) x y e h =
    ⊎_elim (λ l. inl l) (λ q. inr (q.0, before_more xs ys x y (omega arith) q.1)) h

-- and decides that of equal ones
before_last : (xs : List ℕ) (x y : ℕ) → x < y → Before (xs ++ x ∷ []) (xs ++ y ∷ [])
before_last [] x y h = inl h
before_last (a ∷ xs) x y h = inr (refl, before_last xs x y h)

pub rising : Rising
unfolding sequence
rising zero i j h k = absurd (omega arith)
rising (suc n) i j h k =
    let low : j < 12 ^ n * 12 = rw pow-suc at k in
    let xs = sequence n (i / 12) in
    let ys = sequence n (j / 12) in
    case_on (ltb (i / 12) (j / 12))
    (λ t.
    before_more xs ys (i % 12 + 1) (j % 12 + 1) (length-sequence n (i / 12) ∙ sym (length-sequence n (j / 12)))
    (rising n (i / 12) (j / 12) (ltb-true (i / 12) (j / 12) t) (omega arith)))
    (λ t.
    let e : i / 12 ≡ j / 12 = omega (arith, ltb-false (i / 12) (j / 12) t) in
    subst (λ (q : ℕ). Before (xs ++ (i % 12 + 1) ∷ []) (sequence n q ++ (j % 12 + 1) ∷ [])) e
    (before_last xs (i % 12 + 1) (j % 12 + 1) (omega (arith, ltb-false (i / 12) (j / 12) t))))

-- ---- none is missing

-- the number whose digits are those of a, then those of the list
index : ℕ → List ℕ → ℕ
index a [] = a
index a (x ∷ xs) = index (12 * a + (x - 1)) xs

index_same : (m a : ℕ) (xs : List ℕ) → Numbers xs → sequence (m + length xs) (index a xs) ≡ sequence m a ++ xs
unfolding sequence index
index_same m a [] h = let e : m + 0 ≡ m = omega arith in rw e (sym (append-nil (sequence m a)))
index_same m a (x ∷ xs) h =
    let e : m + suc (length xs) ≡ suc m + length xs = omega arith in
    let b = 12 * a + (x - 1) in
    let high : b / 12 ≡ a = omega arith in
    let last : b % 12 + 1 ≡ x = omega arith in
    rw e
    (index_same (suc m) b xs h.2
    ∙ ap (λ (q : ℕ). (sequence m q ++ (b % 12 + 1) ∷ []) ++ xs) high
    ∙ ap (λ (q : ℕ). (sequence m a ++ q ∷ []) ++ xs) last
    ∙ append_assoc (sequence m a) (x ∷ []) xs)

index-low : (a b : ℕ) (xs : List ℕ) → Numbers xs → a < b → index a xs < b * 12 ^ length xs
unfolding index
index-low a b [] h l = omega arith
index-low a b (x ∷ xs) h l =
    let e : b * 12 ^ suc (length xs) ≡ (12 * b) * 12 ^ length xs = rw pow-suc (omega arith) in
    rw e (index-low (12 * a + (x - 1)) (12 * b) xs h.2 (omega arith))

pub complete : Complete
unfolding sequence
complete xs h =
    record {
      index = index 0 xs;
      low = omega (arith, index-low 0 1 xs h (omega arith));
      same = let e : 0 + length xs ≡ length xs = omega arith in rw e at (index_same 0 0 xs h);
    }
