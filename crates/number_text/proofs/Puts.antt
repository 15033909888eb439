-- Texts put one after the other, and how long they are.
use Prim.Native.Nat.{ℕ, zero, suc, ◌+◌, ◌*◌, ◌≤◌, ◌<◌}
use mathlib.Core.List.{List, [], ◌∷◌, ◌++◌, append_assoc, append-nil}
use mathlib.Core.Path.{◌≡◌, refl, sym, ap, subst, ◌∙◌}
use native.Mathlib.Nat.{mul-suc}
use native.Mathlib.Numerals.{add-one}
use native.Mathlib.Omega.{arith}
use lib.ListN.{length, take, get_or, length-append, length-take}
use lib.Seq.{take-suc, take_all}
use Rattle.bounded.proofs.Below.{ends}
use Rattle.words.specs.Words.{over}
use Rattle.words.proofs.Parts.{over-nil, over-over}
use Rattle.decimals.proofs.Printing.{decimal-le}
use Rattle.number_text.specs.Text.{Put, each, blank, blanked}

-- ---- one text after the other

pub put-none : (l : List ℕ) (a : ℕ) → Put l a [] l a
put-none l a = record { laid = sym (over-nil l a); place = omega arith }

pub put_then : {l xs m ys k : List ℕ} {a b c : ℕ} → Put l a xs m b → Put m b ys k c → b ≤ length l → Put l a (xs ++ ys) k c
put_then {l} {xs} {m} {ys} {k} {a} {b} {c} p q h =
    let e : k ≡ over (over l a xs) (a + length xs) ys = rw (p.laid, p.place) at q.laid in
    record { laid = e ∙ over-over l a xs ys (omega arith); place = omega (arith, length-append xs ys) }

-- the same text, said otherwise
pub put_as : {l xs ys m : List ℕ} {a b : ℕ} → xs ≡ ys → Put l a xs m b → Put l a ys m b
put_as {l} {xs} {ys} {m} {a} {b} e p = subst (λ (t : List ℕ). Put l a t m b) e p

-- ---- the numbers of a list, each after a blank

blanked-one : (v : ℕ) → blanked (v ∷ []) ≡ blank v
unfolding blanked
blanked-one v = append-nil (blank v)

pub blanked-append : (xs ys : List ℕ) → blanked (xs ++ ys) ≡ blanked xs ++ blanked ys
unfolding blanked
blanked-append [] ys = refl
blanked-append (x ∷ xs) ys =
    ap (λ (t : List ℕ). blank x ++ t) (blanked-append xs ys) ∙ sym (append_assoc (blank x) (blanked xs) (blanked ys))

pub length-blanked : (xs : List ℕ) → length (blanked xs) ≤ 21 * length xs
unfolding blanked
length-blanked [] = omega arith
length-blanked (x ∷ xs) = omega (arith, length-append (blank x) (blanked xs), decimal-le x, length-blanked xs)

-- three lists of them
pub blanked-three : (a b c : List ℕ) → blanked a ++ (blanked b ++ blanked c) ≡ blanked (a ++ (b ++ c))
blanked-three a b c = sym (blanked-append a (b ++ c) ∙ ap (λ (t : List ℕ). blanked a ++ t) (blanked-append b c))

-- a loop that puts them has come to number i
pub numbers-none : (l : List ℕ) (a : ℕ) (xs : List ℕ) → Put l a (blanked (take 0 xs)) l a
unfolding blanked
numbers-none l a xs = put-none l a

module _ {l m : List ℕ} {a b : ℕ} (xs : List ℕ) (i : ℕ) (p : Put l a (blanked (take i xs)) m b) where
  pub numbers-at : b ≤ a + 21 * i
  numbers-at = omega (arith, length-blanked (take i xs), length-take i xs)

  pub numbers-turn : {k : List ℕ} {c : ℕ} → Put m b (blank (get_or xs i 0)) k c → i < length xs → a + 21 * length xs ≤ length l
      → Put l a (blanked (take (i + 1) xs)) k c
  numbers-turn q h r =
      let x = get_or xs i 0 in
      let e : blanked (take (i + 1) xs) ≡ blanked (take i xs) ++ blank x =
      ap blanked (rw add-one (take-suc xs i 0 h)) ∙ blanked-append (take i xs) (x ∷ []) ∙ ap (λ (t : List ℕ). blanked (take i xs) ++ t) (blanked-one x) in
      put_as (sym e) (put_then p q (omega (arith, numbers-at)))

  pub numbers-end : length xs ≤ i → Put l a (blanked xs) m b
  numbers-end h = put_as (ap blanked (take_all i xs h)) p

-- ---- the numbers of f 0, f 1, .., of which each has at most w

pub length-each : (w : ℕ) (f : ℕ → List ℕ) → ((j : ℕ) → length (f j) ≤ w) → (n : ℕ) → length (each n f) ≤ w * n
unfolding each
length-each w f h zero = omega arith
length-each w f h (suc n) = rw mul-suc (omega (arith, length-append (each n f) (f n), length-each w f h n, h n))

-- a loop that puts them has come to i
pub each_none : (l : List ℕ) (a : ℕ) (f : ℕ → List ℕ) → Put l a (blanked (each 0 f)) l a
unfolding each blanked
each_none l a f = put-none l a

module _ {l m : List ℕ} {a b : ℕ} (f : ℕ → List ℕ) (i : ℕ) (p : Put l a (blanked (each i f)) m b) where
  pub each_at : (w : ℕ) → ((j : ℕ) → length (f j) ≤ w) → b ≤ a + 21 * (w * i)
  each_at w h = omega (arith, length-blanked (each i f), length-each w f h i)

  pub each_turn : {k : List ℕ} {c : ℕ} → Put m b (blanked (f i)) k c → b ≤ length l → Put l a (blanked (each (i + 1) f)) k c
  unfolding each
  each_turn q h = rw add-one (put_as (sym (blanked-append (each i f) (f i))) (put_then p q h))

  pub each-end : (n : ℕ) → i ≤ n → n ≤ i → Put l a (blanked (each n f)) m b
  each-end n h k = put_as (ends (λ j. blanked (each j f)) n i h k) p
