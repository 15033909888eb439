-- Numbers that are named: as a mask, as places and as marks; and that as many numbers as there are to name, none left out, name each once.
use Prim.Native.Nat.{ℕ, zero, suc, ◌+◌, ◌-◌, ◌*◌, ◌/◌, ◌%◌, ◌^◌, ◌<◌, ◌≤◌, min}
use mathlib.Core.Bool.{Bool, true, false, ◌&&◌, ◌||◌, or-true, or-false, or_assoc, and-true, and-false}
use mathlib.Core.List.{List, [], ◌∷◌, ◌++◌}
use mathlib.Core.Path.{◌≡◌, refl, sym, ap, ap₂, ◌∙◌, subst}
use native.Mathlib.Numerals.{add-one}
use native.Mathlib.Omega.{arith}
use lib.Bits.{bit_or, bit_xor, or_add_and, xor_add_and, and_le_l, and_le_r, xor_self, or_lt, or_zero_l}
use lib.Dec.{ltb, leb, eqb}
use lib.ListN.{length, take, drop, get_or, set, replicate, length-append, length-set, length-replicate, get_or-replicate}
use lib.Pow.{ones_lt, pow_mono}
use lib.Seq.{take-suc, take-add, take-length, length-take-le, get_or-take, get_or-set_same, get_or-set_other}
use borrow.Author.Tests.{eqb-true, eqb-false, eq-eqb, ne_eqb, leb-true, leb-false, le-leb, lt-leb, ltb-true, ltb-false, lt-ltb, le-ltb}
use Rattle.bounded.specs.Below.{all_below, one, up_to}
use Rattle.bounded.specs.Count.{count_of, each_once, Once}
use Rattle.bounded.proofs.Tests.{case_on, contradicts, and_left, and_right}
use Rattle.bounded.proofs.Below.{all_none, all-at, all_made, all-fails, all-ext}
use Rattle.bounded.proofs.Pigeonhole.{covered, once-true, true-once, once-below, count-append, count-high, count-get_or}
use Rattle.masks.specs.Lines.{in_mask, with_line}
use Rattle.masks.proofs.Bits.{in-none, in-or, in-pow, in-complement, in-past}
use Rattle.masks.proofs.Members.{same-members}
use Rattle.naming.specs.Marks.{all_low, MaskOf, marked, told, MarkedBut}

-- ---- whether a number is named

abbrev named : ℕ → List ℕ → Bool
named x l = leb 1 (count_of x l)

count_next : (x : ℕ) (l : List ℕ) (i : ℕ) → i < length l → count_of x (take (suc i) l) ≡ count_of x (take i l) + one (eqb x (get_or l i 0))
unfolding count_of
count_next x l i h = ap (count_of x) (take-suc l i 0 h) ∙ count-append x (take i l) (get_or l i 0 ∷ []) ∙ (omega arith)

named-next : (x : ℕ) (l : List ℕ) (i : ℕ) → i < length l → named x (take (suc i) l) ≡ named x (take i l) || eqb x (get_or l i 0)
unfolding one
named-next x l i h =
    let e = count_next x l i h in
    case_on (eqb x (get_or l i 0))
    (λ t. rw t (le-leb 1 (count_of x (take (suc i) l)) (omega (arith, rw t at e)) ∙ sym (or-true (named x (take i l)))))
    (λ t.
    let same : count_of x (take (suc i) l) ≡ count_of x (take i l) = omega (arith, rw t at e) in
    rw t (ap (leb 1) same ∙ sym (or-false (named x (take i l)))))

named-append : (x : ℕ) (a b : List ℕ) → named x (a ++ b) ≡ named x a || named x b
named-append x a b =
    let e = count-append x a b in
    case_on (named x a)
    (λ t. rw t (le-leb 1 (count_of x (a ++ b)) (omega (arith, e, leb-true 1 (count_of x a) t))))
    (λ t.
    let same : count_of x (a ++ b) ≡ count_of x b = omega (arith, e, leb-false 1 (count_of x a) t) in
    rw t (ap (leb 1) same))

-- n numbers that leave out none below n name each once
pub named-once : (n : ℕ) (l : List ℕ) → length l ≡ n → all_below n (λ x. named x l) ≡ each_once n l
named-once n l e =
    case_on (each_once n l)
    (λ t. all_made (λ x. named x l) n (λ x p. le-leb 1 (count_of x l) (omega (arith, once-true n l t x p))) ∙ sym t)
    (λ t.
    case_on (all_below n (λ x. named x l))
    (λ a. contradicts (true-once n l (covered n l e (λ x p. leb-true 1 (count_of x l) (all-at (λ y. named y l) n x p a)))) t)
    (λ a. a ∙ sym t))

-- a number that is not below n is not named by numbers that name each below n once
high-out : (n x : ℕ) (l : List ℕ) → length l ≡ n → Once n l → n ≤ x → count_of x l ≡ 0
high-out n x l e o p = omega (arith, count-high n x l p, once-below n l e o)

-- ---- masks

eqb-sym : (a b : ℕ) → eqb a b ≡ eqb b a
eqb-sym a b =
    case_on (eqb a b)
    (λ t. t ∙ sym (eq-eqb b a (sym (eqb-true a b t))))
    (λ t. t ∙ sym (ne_eqb b a (λ q. eqb-false a b t (sym q))))

or-low : (a b : ℕ) → ltb (bit_or a b) 64 ≡ ltb a 64 && ltb b 64
or-low a b =
    case_on (ltb a 64)
    (λ t.
    rw t
    (case_on (ltb b 64)
    (λ u. lt-ltb (bit_or a b) 64 (or_lt 6 a b (ltb-true a 64 t) (ltb-true b 64 u)) ∙ sym u)
    (λ u. le-ltb (bit_or a b) 64 (omega (arith, or_add_and a b, and_le_l a b, ltb-false b 64 u)) ∙ sym u)))
    (λ t. rw t (le-ltb (bit_or a b) 64 (omega (arith, or_add_and a b, and_le_r a b, ltb-false a 64 t))))

module _ (l : List ℕ) where
  -- what the loop has of the first i names, where all are low
  abbrev pub MaskTo : ℕ → ℕ → Type 0
  MaskTo i m = all_low i l ≡ true → (x : ℕ) → x < 64 → in_mask m x ≡ named x (take i l)

  pub mask-none : MaskTo 0 0
  unfolding count_of
  mask-none t x p = in-none x

  pub low_turn : (a i : ℕ) → ltb a 64 ≡ all_low i l → ltb (bit_or a (get_or l i 0)) 64 ≡ all_low (i + 1) l
  unfolding all_below
  low_turn a i e = or-low a (get_or l i 0) ∙ ap (λ (b : Bool). b && ltb (get_or l i 0) 64) e ∙ rw add-one refl

  pub mask-turn : (m b i : ℕ) → i < length l → MaskTo i m → b ≡ 2 ^ (get_or l i 0 % 64) → MaskTo (i + 1) (bit_or m b)
  mask-turn m b i h k e t x p =
      let y = get_or l i 0 in
      let low : y < 64 = ltb-true y 64 (all-at (λ j. ltb (get_or l j 0) 64) (i + 1) i (omega arith) t) in
      let same : y % 64 ≡ y = omega arith in
      let before : all_low i l ≡ true =
      all_made (λ j. ltb (get_or l j 0) 64) i (λ j q. all-at (λ j. ltb (get_or l j 0) 64) (i + 1) j (omega arith) t) in
      rw add-one
      (in-or m b x
      ∙ ap₂ (λ (a c : Bool). a || c) (k before x p)
      (ap (λ (z : ℕ). in_mask z x) (e ∙ ap (λ (z : ℕ). 2 ^ z) same) ∙ in-pow y x ∙ eqb-sym y x)
      ∙ sym (named-next x l i h))

  module _ (a i : ℕ) (le : i ≤ length l) (ge : length l ≤ i) (so : ltb a 64 ≡ all_low i l) where
    at-end : i ≡ length l
    at-end = omega arith

    whole-low : all_low i l ≡ all_low (length l) l
    whole-low = ap (λ (j : ℕ). all_low j l) at-end

    pub mask-high : 64 ≤ a → MaskOf l 0
    mask-high h x p = in-none x ∙ sym (ap (λ (b : Bool). b && named x l) (sym whole-low ∙ sym so ∙ le-ltb a 64 h))

    pub mask_low : (m : ℕ) → a < 64 → MaskTo i m → MaskOf l m
    mask_low m h k x p =
        let t = sym so ∙ lt-ltb a 64 h in
        k t x p
        ∙ ap (named x) (ap (λ (j : ℕ). take j l) at-end ∙ take-length l)
        ∙ sym (ap (λ (b : Bool). b && named x l) (sym whole-low ∙ t))

-- the mask of the first n numbers
in_ones : (n x : ℕ) → in_mask (2 ^ n - 1) x ≡ ltb x n
in_ones n x =
    case_on (ltb x n)
    (λ t.
    let z : 2 ^ n - 1 ≡ 2 ^ n - 1 - 0 = omega arith in
    ap (λ (m : ℕ). in_mask m x) z ∙ in-complement n 0 x (omega (arith, ones_lt n)) (ltb-true x n t) ∙ rw (in-none x) (sym t))
    (λ t.
    let e : x ≡ n + (x - n) = omega (arith, ltb-false x n t) in
    ap (in_mask (2 ^ n - 1)) e ∙ in-past n (2 ^ n - 1) (x - n) (ones_lt n) ∙ sym t)

-- numbers that name each below n once are below 64 where n is at most 64
low-once : (n : ℕ) (l k : List ℕ) → n ≤ 64 → length l ≡ n → Once n l → ((x : ℕ) → count_of x k ≤ count_of x l) → all_low (length k) k ≡ true
low-once n l k h e o f =
    all_made (λ i. ltb (get_or k i 0) 64) (length k)
    (λ i p.
    let y = get_or k i 0 in
    case_on (ltb y 64) (λ t. t)
    (λ t.
    let g = ltb-false y 64 t in
    absurd (omega (arith, high-out n y l e o (omega arith), count-get_or k i p, f y))))

-- n numbers have the mask of the first n if and only if they name each of these once
pub by_mask : (a b : List ℕ) (m k : ℕ) → m < 2 ^ 64 → k < 2 ^ 64 → length a + length b ≤ 64 → MaskOf a m → MaskOf b k
    → eqb (bit_or m k) (2 ^ (length a + length b) - 1) ≡ each_once (length a + length b) (a ++ b)
by_mask a b m k lm lk h p q =
    let n = length a + length b in
    let l = a ++ b in
    let whole : length l ≡ n = length-append a b in
    case_on (eqb (bit_or m k) (2 ^ n - 1))
    (λ t.
    t ∙ sym (sym (named-once n l whole)
    ∙ all_made (λ x. named x l) n
    (λ x i.
    let in64 : x < 64 = omega arith in
    let shown : in_mask m x || in_mask k x ≡ true =
    sym (in-or m k x) ∙ ap (λ (z : ℕ). in_mask z x) (eqb-true (bit_or m k) (2 ^ n - 1) t) ∙ in_ones n x ∙ lt-ltb x n i in
    named-append x a b
    ∙ case_on (in_mask m x)
    (λ u. ap (λ (c : Bool). c || named x b) (and_right (all_low (length a) a) (named x a) (sym (p x in64) ∙ u)))
    (λ u.
    let v : in_mask k x ≡ true = ap (λ (c : Bool). c || in_mask k x) (sym u) ∙ shown in
    ap (λ (c : Bool). named x a || c) (and_right (all_low (length b) b) (named x b) (sym (q x in64) ∙ v)) ∙ or-true (named x a)))))
    (λ t.
    case_on (each_once n l)
    (λ u.
    let o = once-true n l u in
    let la = low-once n l a h whole o (λ x. omega (arith, count-append x a b)) in
    let lb = low-once n l b h whole o (λ x. omega (arith, count-append x a b)) in
    absurd (eqb-false (bit_or m k) (2 ^ n - 1) t
    (same-members (bit_or m k) (2 ^ n - 1) (or_lt 64 m k lm lk) (omega (arith, ones_lt n, pow_mono h))
    (λ x i.
    in-or m k x
    ∙ ap₂ (λ (c d : Bool). c || d)
    (p x i ∙ ap (λ (c : Bool). c && named x a) la)
    (q x i ∙ ap (λ (c : Bool). c && named x b) lb)
    ∙ sym (named-append x a b)
    ∙ case_on (ltb x n)
    (λ v. le-leb 1 (count_of x l) (omega (arith, o x (ltb-true x n v))) ∙ sym v)
    (λ v. lt-leb 1 (count_of x l) (omega (arith, high-out n x l whole o (ltb-false x n v))) ∙ sym v)
    ∙ sym (in_ones n x)))))
    (λ u. t ∙ sym u))

-- ---- places

or-none : (a b : ℕ) → eqb (bit_or a b) 0 ≡ eqb a 0 && eqb b 0
or-none a b =
    case_on (eqb a 0)
    (λ t. rw t (ap (λ (x : ℕ). eqb (bit_or x b) 0) (eqb-true a 0 t) ∙ ap (λ (x : ℕ). eqb x 0) (or_zero_l b)))
    (λ t. rw t (ne_eqb (bit_or a b) 0 (λ e. eqb-false a 0 t (omega (arith, or_add_and a b, and_le_r a b)))))

xor-none : (a b : ℕ) → eqb (bit_xor a b) 0 ≡ eqb a b
xor-none a b =
    case_on (eqb a b)
    (λ t. ap (λ (x : ℕ). eqb (bit_xor a x) 0) (sym (eqb-true a b t)) ∙ ap (λ (x : ℕ). eqb x 0) (xor_self a) ∙ sym t)
    (λ t. ne_eqb (bit_xor a b) 0 (λ e. eqb-false a b t (omega (arith, xor_add_and a b, and_le_l a b, and_le_r a b))) ∙ sym t)

-- the loop that compares the names from a place on with their places
abbrev own_from : List ℕ → ℕ → ℕ → Bool
own_from l from i = ltb i from || eqb (get_or l i 0) i

pub from-none : (f : ℕ → Bool) (from : ℕ) → true ≡ all_below from (λ i. ltb i from || f i)
from-none f from = sym (all_made (λ i. ltb i from || f i) from (λ i p. ap (λ (b : Bool). b || f i) (lt-ltb i from p)))

pub from-turn : (f : ℕ → Bool) (from i : ℕ) (b r : Bool) → from ≤ i → b ≡ all_below i (λ k. ltb k from || f k) → r ≡ f i
    → b && r ≡ all_below (i + 1) (λ k. ltb k from || f k)
unfolding all_below
from-turn f from i b r h e q = rw (add-one, le-ltb i from h) (ap₂ (λ (x y : Bool). x && y) e q)

pub own_turn : (l : List ℕ) (from d i : ℕ) → from ≤ i → eqb d 0 ≡ all_below i (own_from l from)
    → eqb (bit_or d (bit_xor (get_or l i 0) i)) 0 ≡ all_below (i + 1) (own_from l from)
own_turn l from d i h e = or-none d (bit_xor (get_or l i 0) i) ∙ from-turn (λ k. eqb (get_or l k 0) k) from i (eqb d 0) _ h e (xor-none (get_or l i 0) i)

-- the first of the run is not the number of its place
pub first-other : (l : List ℕ) (from end : ℕ) → from < end → (get_or l from 0 ≡ from → ⊥) → false ≡ all_below end (own_from l from)
first-other l from end h n =
    sym (all-fails (own_from l from) end from h (ap₂ (λ (b c : Bool). b || c) (le-ltb from from (omega arith)) (ne_eqb (get_or l from 0) from n)))

pub from-0 : (f : ℕ → Bool) (n : ℕ) → all_below n (λ i. ltb i 0 || f i) ≡ all_below n f
from-0 f n = all-ext (λ i. ltb i 0 || f i) f n (λ i p. ap (λ (b : Bool). b || f i) (le-ltb i 0 (omega arith)))

-- the numbers below a place and those from it on are all
pub from_all : (f : ℕ → Bool) (from end : ℕ) → from ≤ end → all_below from f && all_below end (λ i. ltb i from || f i) ≡ all_below end f
from_all f from end h =
    case_on (all_below end f)
    (λ t.
    ap₂ (λ (x y : Bool). x && y)
    (all_made f from (λ i p. all-at f end i (omega arith) t))
    (all_made (λ i. ltb i from || f i) end (λ i p. ap (λ (b : Bool). ltb i from || b) (all-at f end i p t) ∙ or-true (ltb i from)))
    ∙ sym t)
    (λ t.
    case_on (all_below from f && all_below end (λ i. ltb i from || f i))
    (λ u.
    contradicts
    (all_made f end
    (λ i p.
    case_on (ltb i from)
    (λ v. all-at f from i (ltb-true i from v) (and_left _ _ u))
    (λ v.
    ap (λ (b : Bool). b || f i) (sym v) ∙ all-at (λ i. ltb i from || f i) end i p (and_right (all_below from f) _ u))))
    t)
    (λ u. u ∙ sym t))

-- ---- marks

pub length_marked : (l : List ℕ) (seen : List Bool) (n : ℕ) → length (up_to n (λ i s. set s (min (get_or l i 0) 1040) true) seen) ≡ length seen
unfolding up_to
length_marked l seen zero = refl
length_marked l seen (suc n) =
    length-set (up_to n (λ i s. set s (min (get_or l i 0) 1040) true) seen) (min (get_or l n 0) 1040) true ∙ length_marked l seen n

marks-at : (l : List ℕ) (seen : List Bool) (n x : ℕ) → length seen ≡ 1041 → n ≤ length l → x < 1040
    → get_or (up_to n (λ i s. set s (min (get_or l i 0) 1040) true) seen) x false ≡ get_or seen x false || named x (take n l)
unfolding up_to count_of
marks-at l seen zero x e h p = sym (or-false (get_or seen x false))
marks-at l seen (suc n) x e h p =
    let s = up_to n (λ i s. set s (min (get_or l i 0) 1040) true) seen in
    let y = get_or l n 0 in
    let next : named x (take (suc n) l) ≡ named x (take n l) || eqb x y = named-next x l n h in
    case_on (eqb x y)
    (λ t.
    let q : x ≡ min y 1040 = omega (arith, eqb-true x y t) in
    ap (λ (z : ℕ). get_or (set s (min y 1040) true) z false) q
    ∙ get_or-set_same s (min y 1040) true false (omega (arith, length_marked l seen n))
    ∙ sym (ap (λ (b : Bool). get_or seen x false || b) (next ∙ rw t (or-true (named x (take n l)))) ∙ or-true (get_or seen x false)))
    (λ t.
    get_or-set_other s (min y 1040) x true false (λ q. eqb-false x y t (omega arith))
    ∙ marks-at l seen n x e (omega arith) p
    ∙ ap (λ (b : Bool). get_or seen x false || b) (sym (next ∙ rw t (or-false (named x (take n l))))))

pub marked-long : (l : List ℕ) (seen marks : List Bool) → marks ≡ marked l seen → length seen ≡ 1041 → length marks ≡ 1041
unfolding marked
marked-long l seen marks e long = ap length e ∙ length_marked l seen (length l) ∙ long

pub marked-at : (l : List ℕ) (seen : List Bool) (x : ℕ) → length seen ≡ 1041 → x < 1040 → get_or (marked l seen) x false ≡ get_or seen x false || named x l
unfolding marked
marked-at l seen x e p = marks-at l seen (length l) x e (omega arith) p ∙ ap (λ (k : List ℕ). get_or seen x false || named x k) (take-length l)

-- ---- runs

-- a number that no entry of a part of the list is, is named by what stands before the part
part_out : (l : List ℕ) (x i d : ℕ) → i + d ≤ length l → ((j : ℕ) → i ≤ j → j < i + d → x ≡ get_or l j 0 → ⊥) → named x (take (i + d) l) ≡ named x (take i l)
part_out l x i zero h f = let e : i + 0 ≡ i = omega arith in ap (λ (k : ℕ). named x (take k l)) e
part_out l x i (suc d) h f =
    let e : i + suc d ≡ suc (i + d) = omega arith in
    ap (λ (k : ℕ). named x (take k l)) e
    ∙ named-next x l (i + d) (omega arith)
    ∙ ap (λ (b : Bool). named x (take (i + d) l) || b) (ne_eqb x (get_or l (i + d) 0) (f (i + d) (omega arith) (omega arith)))
    ∙ or-false (named x (take (i + d) l))
    ∙ part_out l x i d (omega arith) (λ j p q. f j p (omega arith))

-- an entry of the first e is named by them
part_in : (l : List ℕ) (x e : ℕ) → x < e → e ≤ length l → get_or l x 0 ≡ x → named x (take e l) ≡ true
part_in l x e p h q =
    le-leb 1 (count_of x (take e l))
    (subst (λ (y : ℕ). 1 ≤ count_of y (take e l)) (get_or-take e l x 0 p ∙ q) (count-get_or (take e l) x (omega (arith, length-take-le e l h))))

module _ (own k : ℕ) (free : (y : ℕ) → k ≤ y → in_mask own y ≡ false) where
  pub free-kept : (y : ℕ) → k + 1 ≤ y → in_mask own y ≡ false
  free-kept y h = free y (omega arith)

  pub free-with : (y : ℕ) → k + 1 ≤ y → in_mask (with_line own k) y ≡ false
  unfolding with_line
  free-with y h = in-or own (2 ^ k) y ∙ ap₂ (λ (a b : Bool). a || b) (free y (omega arith)) (in-pow k y ∙ ne_eqb k y (λ q. omega arith))

  module _ (b : List ℕ) (before seen : List Bool) (short : 64 * k < length b) (so : MarkedBut b (64 * k) before own seen) where
    abbrev end : ℕ
    end = min (64 * k + 64) (length b)

    -- the run is own: it names its numbers and no others
    pub run-own : all_below end (own_from b (64 * k)) ≡ true → MarkedBut b end before (with_line own k) seen
    unfolding told with_line
    run-own o x p =
        let i = 64 * k in
        let at : (j : ℕ) → i ≤ j → j < end → get_or b j 0 ≡ j =
        (λ j u v.
        eqb-true (get_or b j 0) j (ap (λ (c : Bool). c || eqb (get_or b j 0) j) (sym (le-ltb j i u)) ∙ all-at (own_from b i) end j v o)) in
        let line : in_mask (bit_or own (2 ^ k)) (x / 64) ≡ in_mask own (x / 64) || eqb k (x / 64) =
        in-or own (2 ^ k) (x / 64) ∙ ap (λ (c : Bool). in_mask own (x / 64) || c) (in-pow k (x / 64)) in
        let e : i + (end - i) ≡ end = omega arith in
        let rest : ((j : ℕ) → i ≤ j → j < end → x ≡ j → ⊥) → get_or before x false || named x (take i b) ≡ get_or before x false || named x (take end b) =
        (λ f.
        ap (λ (c : Bool). get_or before x false || c)
        (sym (ap (λ (n : ℕ). named x (take n b)) (sym e)
        ∙ part_out b x i (end - i) (omega arith) (λ j u v q. f j u (omega arith) (q ∙ at j u (omega arith)))))) in
        case_on (ltb x i)
        (λ t.
        let l = ltb-true x i t in
        ap (λ (c : Bool). c || get_or seen x false)
        (ap₂ (λ (c d : Bool). c && d)
        (lt-ltb x end (omega arith) ∙ sym t)
        (line ∙ ap (λ (c : Bool). in_mask own (x / 64) || c) (ne_eqb k (x / 64) (λ q. omega arith)) ∙ or-false (in_mask own (x / 64))))
        ∙ so x p ∙ rest (λ j u v q. omega arith))
        (λ t.
        let g = ltb-false x i t in
        case_on (ltb x end)
        (λ u.
        let l = ltb-true x end u in
        ap (λ (c : Bool). c || get_or seen x false)
        (ap₂ (λ (c d : Bool). c && d) u (line ∙ ap (λ (c : Bool). in_mask own (x / 64) || c) (eq-eqb k (x / 64) (omega arith)) ∙ or-true (in_mask own (x / 64))))
        ∙ sym (ap (λ (c : Bool). get_or before x false || c) (part_in b x end l (omega arith) (at x g l)) ∙ or-true (get_or before x false)))
        (λ u.
        let l = ltb-false x end u in
        ap (λ (c : Bool). c || get_or seen x false)
        (ap (λ (c : Bool). c && in_mask (bit_or own (2 ^ k)) (x / 64)) u ∙ sym (ap (λ (c : Bool). c && in_mask own (x / 64)) t))
        ∙ so x p ∙ rest (λ j v w q. omega arith)))

    -- it is not, and each of its names is marked
    pub run-marked : (marks : List Bool) → length seen ≡ 1041 → marks ≡ marked (take (end - 64 * k) (drop (64 * k) b)) seen → MarkedBut b end before own marks
    unfolding told
    run-marked marks long q x p =
        let i = 64 * k in
        let part = take (end - i) (drop i b) in
        let e : i + (end - i) ≡ end = omega arith in
        let same : ltb x end && in_mask own (x / 64) ≡ ltb x i && in_mask own (x / 64) =
        case_on (ltb x i)
        (λ t.
        let l = ltb-true x i t in
        ap (λ (c : Bool). c && in_mask own (x / 64)) (lt-ltb x end (omega arith) ∙ sym t))
        (λ t.
        let g = ltb-false x i t in
        let none = free (x / 64) (omega arith) in
        ap (λ (c : Bool). ltb x end && c) none ∙ and-false (ltb x end) ∙ sym (ap (λ (c : Bool). ltb x i && c) none ∙ and-false (ltb x i))) in
        ap₂ (λ (c d : Bool). c || d) same (ap (λ (m : List Bool). get_or m x false) q ∙ marked-at part seen x long p)
        ∙ sym (or_assoc (ltb x i && in_mask own (x / 64)) (get_or seen x false) (named x part))
        ∙ ap (λ (c : Bool). c || named x part) (so x p)
        ∙ or_assoc (get_or before x false) (named x (take i b)) (named x part)
        ∙ ap (λ (c : Bool). get_or before x false || c)
        (sym (named-append x (take i b) part) ∙ ap (named x) (sym (take-add i (end - i) b) ∙ ap (λ (n : ℕ). take n b) e))

-- the same with the place said another way
pub runs-at : (b : List ℕ) (before seen : List Bool) (own i j : ℕ) → i ≡ j → MarkedBut b i before own seen → MarkedBut b j before own seen
runs-at b before seen own i j e m = subst (λ (p : ℕ). MarkedBut b p before own seen) e m

-- before the first run
runs-none-0 : (b : List ℕ) (before : List Bool) → MarkedBut b 0 before 0 before
unfolding told count_of
runs-none-0 b before x p =
    ap (λ (c : Bool). c || get_or before x false) (ap (λ (c : Bool). ltb x 0 && c) (in-none (x / 64)) ∙ and-false (ltb x 0))
    ∙ sym (or-false (get_or before x false))

pub runs_none : (b : List ℕ) (before : List Bool) → MarkedBut b (min (64 * 0) (length b)) before 0 before
runs_none b before = runs-at b before before 0 0 (min (64 * 0) (length b)) (omega arith) (runs-none-0 b before)

-- a turn of the loop over the runs, by whether the run is own
module _ (own k : ℕ) (free : (y : ℕ) → k ≤ y → in_mask own y ≡ false) (b : List ℕ) (before seen : List Bool) (short : 64 * k < length b)
    (long : length seen ≡ 1041) (so : MarkedBut b (min (64 * k) (length b)) before own seen) (end : ℕ) (ended : end ≡ min (64 * k + 64) (length b)) where
  abbrev Next : ℕ → List Bool → Type 0
  Next line marks = (length marks ≡ 1041) × (((y : ℕ) → k + 1 ≤ y → in_mask line y ≡ false) × MarkedBut b (min (64 * (k + 1)) (length b)) before line marks)

  here : MarkedBut b (64 * k) before own seen
  here = runs-at b before seen own (min (64 * k) (length b)) (64 * k) (omega arith) so

  next : min (64 * k + 64) (length b) ≡ min (64 * (k + 1)) (length b)
  next = omega arith

  pub turn-own : (line : ℕ) (marks : List Bool) (r : Bool) → r ≡ all_below end (own_from b (64 * k)) → r ≡ true → marks ≡ seen → line ≡ with_line own k
      → Next line marks
  turn-own line marks r e t s l =
      let o = ap (λ (n : ℕ). all_below n (own_from b (64 * k))) (sym ended) ∙ sym e ∙ t in
      let m = runs-at b before seen (with_line own k) _ _ next (run-own own k free b before seen short here o) in
      subst (λ (x : ℕ). Next x marks) (sym l) (subst (λ (x : List Bool). Next (with_line own k) x) (sym s) (long, (free-with own k free, m)))

  pub turn-marked : (line : ℕ) (marks : List Bool) → marks ≡ marked (take (end - 64 * k) (drop (64 * k) b)) seen → line ≡ own
      → Next line marks
  turn-marked line marks s l =
      let e = s ∙ ap (λ (n : ℕ). marked (take (n - 64 * k) (drop (64 * k) b)) seen) ended in
      let m = runs-at b before marks own _ _ next (run-marked own k free b before seen short here marks long e) in
      subst (λ (x : ℕ). Next x marks) (sym l) (marked-long _ seen marks s long, (free-kept own k free, m))

-- ---- what is told of the numbers of a run

pub all_first : (f : ℕ → Bool) (p : ℕ) → true ≡ all_below (min (64 * 0) p) f
all_first f p = let e : 0 ≡ min (64 * 0) p = omega arith in sym (all_none f) ∙ ap (λ (k : ℕ). all_below k f) e

module _ (p own : ℕ) (seen : List Bool) where
  module _ (k : ℕ) (short : 64 * k < p) where
    abbrev stop : ℕ
    stop = min (64 * k + 64) p

    quotient : (x : ℕ) → 64 * k ≤ x → x < stop → x / 64 ≡ k
    quotient x g l = omega arith

    at : min (64 * k) p ≡ 64 * k
    at = omega arith

    next-stop : stop ≡ min (64 * (k + 1)) p
    next-stop = omega arith

    told-own : in_mask own k ≡ true → all_below (64 * k) (told p own seen) ≡ all_below stop (told p own seen)
    unfolding told
    told-own t =
        let i = 64 * k in
        let run : all_below stop (λ x. ltb x i || told p own seen x) ≡ true =
        all_made (λ x. ltb x i || told p own seen x) stop
        (λ x l.
        case_on (ltb x i)
        (λ u. ap (λ (c : Bool). c || told p own seen x) u)
        (λ u.
        ap₂ (λ (c d : Bool). c || d) u
        (ap (λ (c : Bool). c || get_or seen x false)
        (ap₂ (λ (c d : Bool). c && d) (lt-ltb x p (omega arith)) (ap (in_mask own) (quotient x (ltb-false x i u) l) ∙ t))))) in
        sym (ap (λ (c : Bool). all_below i (told p own seen) && c) run ∙ and-true (all_below i (told p own seen)))
        ∙ from_all (told p own seen) i stop (omega arith)

    told-marked : (r : Bool) → in_mask own k ≡ false → r ≡ all_below stop (λ x. ltb x (64 * k) || get_or seen x false)
        → all_below (64 * k) (told p own seen) && r ≡ all_below stop (told p own seen)
    unfolding told
    told-marked r t e =
        let i = 64 * k in
        ap (λ (c : Bool). all_below i (told p own seen) && c)
        (e
        ∙ all-ext (λ x. ltb x i || get_or seen x false) (λ x. ltb x i || told p own seen x) stop
        (λ x l.
        case_on (ltb x i)
        (λ u. ap (λ (c : Bool). c || get_or seen x false) u ∙ sym (ap (λ (c : Bool). c || told p own seen x) u))
        (λ u.
        ap (λ (c : Bool). ltb x i || c)
        (sym (ap (λ (c : Bool). c || get_or seen x false)
        (ap (λ (c : Bool). ltb x p && c) (ap (in_mask own) (quotient x (ltb-false x i u) l) ∙ t) ∙ and-false (ltb x p)))))))
        ∙ from_all (told p own seen) i stop (omega arith)

    -- a turn of the loop over the runs, by whether the run is own
    module _ (was : Bool) (so : was ≡ all_below (min (64 * k) p) (told p own seen)) where
      pub told-turn-own : (all : Bool) → in_mask own k ≡ true → all ≡ was → all ≡ all_below (min (64 * (k + 1)) p) (told p own seen)
      told-turn-own all t e =
          e ∙ so ∙ ap (λ (i : ℕ). all_below i (told p own seen)) at ∙ told-own t ∙ ap (λ (i : ℕ). all_below i (told p own seen)) next-stop

      pub told-turn-marked : (all r : Bool) (end : ℕ) → in_mask own k ≡ false → end ≡ stop → r ≡ all_below end (λ x. ltb x (64 * k) || get_or seen x false)
          → all ≡ was && r → all ≡ all_below (min (64 * (k + 1)) p) (told p own seen)
      told-turn-marked all r end t e q a =
          a
          ∙ ap (λ (b : Bool). b && r) (so ∙ ap (λ (i : ℕ). all_below i (told p own seen)) at)
          ∙ told-marked r t (q ∙ ap (λ (i : ℕ). all_below i (λ x. ltb x (64 * k) || get_or seen x false)) e)
          ∙ ap (λ (i : ℕ). all_below i (told p own seen)) next-stop

  -- behind the last run
  pub told-past : (n : ℕ) (all r : Bool) (i : ℕ) → i ≡ p → p ≤ n → all ≡ all_below i (told p own seen) → r ≡ all_below n (λ x. ltb x p || get_or seen x false)
      → all && r ≡ all_below n (told p own seen)
  unfolding told
  told-past n all r i q h a e =
      ap₂ (λ (c d : Bool). c && d) (a ∙ ap (λ (k : ℕ). all_below k (told p own seen)) q)
      (e
      ∙ all-ext (λ x. ltb x p || get_or seen x false) (λ x. ltb x p || told p own seen x) n
      (λ x l. case_on (ltb x p) (λ u. rw u refl) (λ u. rw u refl)))
      ∙ from_all (told p own seen) p n h

-- each number is told of if and only if it is named
pub by_runs : (a b : List ℕ) (own : ℕ) (before seen : List Bool) (n : ℕ) → n ≡ length a + length b → n ≤ 1040
    → before ≡ marked a (replicate 1041 false) → MarkedBut b (length b) before own seen
    → all_below n (told (length b) own seen) ≡ each_once (length a + length b) (a ++ b)
by_runs a b own before seen n e h m so =
    let none = replicate 1041 false in
    all-ext (told (length b) own seen) (λ x. named x (a ++ b)) n
    (λ x p.
    so x (omega arith)
    ∙ ap₂ (λ (c d : Bool). c || d)
    (ap (λ (l : List Bool). get_or l x false) m
    ∙ marked-at a none x (length-replicate 1041 false) (omega arith)
    ∙ ap (λ (c : Bool). c || named x a) (get_or-replicate 1041 x false false (omega arith)))
    (ap (named x) (take-length b))
    ∙ sym (named-append x a b))
    ∙ named-once n (a ++ b) (length-append a b ∙ sym e)
    ∙ ap (λ (k : ℕ). each_once k (a ++ b)) e
