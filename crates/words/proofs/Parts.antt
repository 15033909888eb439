-- A part of a list, and a list with another laid over it.
use mathlib.Core.Path.{◌≡◌, refl, sym, ap, ap₂, ◌∙◌}
use mathlib.Core.List.{List, [], ◌++◌, append_assoc, append-nil}
use mathlib.Core.Logic.{◌⊎◌, inl, inr}
use Prim.Native.Nat.{ℕ, ◌+◌, ◌-◌, ◌≤◌, ◌<◌}
use native.Mathlib.Omega.{arith}
use lib.ListN.{length, take, drop, get_or, length-append, length-take, length-drop, take-append-drop, drop_of_length-le, get_or-append}
use lib.Seq.{length-take-le, take-length, take-add, drop_at, take_at, take-take, drop-drop, drop-append-le, take-append-le, drop-append-add, get_or-take, get_or-drop, ext_get_or}
use lib.Dec.{ltb}
use borrow.Author.Tests.{ltb-true, ltb-false}
use Rattle.bounded.proofs.Tests.{case_on}
use Rattle.words.specs.Words.{part, over, Bytes}
use Rattle.words.proofs.Bytes.{bytes-append, bytes_take, bytes_drop}

-- ---- parts

pub length_part : (l : List ℕ) (a n : ℕ) → a + n ≤ length l → length (part l a n) ≡ n
unfolding part
length_part l a n h = simp (length-take, length-drop) (omega arith)

pub part-part : (l : List ℕ) (a n o m : ℕ) → o + m ≤ n → a + n ≤ length l → part (part l a n) o m ≡ part l (a + o) m
unfolding part
part-part l a n o m h k =
    let e : n ≡ o + (n - o) = omega arith in
    let s : o ≤ length (drop a l) = simp length-drop (omega arith) in
    let t : m ≤ n - o = omega arith in
    ap (λ (x : ℕ). take m (drop o (take x (drop a l)))) e
    ∙ ap (λ (x : List ℕ). take m (drop o x)) (take-add o (n - o) (drop a l))
    ∙ ap (take m) (drop_at (take o (drop a l)) (take (n - o) (drop o (drop a l))) o (length-take-le o (drop a l) s))
    ∙ take-take m (n - o) (drop o (drop a l)) t
    ∙ ap (take m) (drop-drop o a l)

pub bytes-part : (l : List ℕ) (a n : ℕ) → Bytes l → Bytes (part l a n)
unfolding part
bytes-part l a n h = bytes_take n (drop a l) (bytes_drop a l h)

-- a part by what stands before its end
part_end : (l : List ℕ) (a n : ℕ) → a ≤ length l → part l a n ≡ drop a (take (a + n) l)
unfolding part
part_end l a n h = rw take-add (sym (drop_at (take a l) (take n (drop a l)) a (length-take-le a l h)))

-- ---- what is laid over a list, and what is left as it was

pub bytes-over : (l : List ℕ) (a : ℕ) (ys : List ℕ) → Bytes l → Bytes ys → Bytes (over l a ys)
unfolding over
bytes-over l a ys h k = bytes-append (take a l) _ (bytes_take a l h) (bytes-append ys _ k (bytes_drop (length ys) (drop a l) (bytes_drop a l h)))

module _ (l : List ℕ) (a : ℕ) (ys : List ℕ) (fits : a + length ys ≤ length l) where
  pub length_over : length (over l a ys) ≡ length l
  unfolding over
  length_over = simp (length-append, length-take, length-drop) (omega arith)

  -- from a on
  drop-over : drop a (over l a ys) ≡ ys ++ drop (length ys) (drop a l)
  unfolding over
  drop-over = drop_at (take a l) (ys ++ drop (length ys) (drop a l)) a (length-take-le a l (omega arith))

  pub part-over : part (over l a ys) a (length ys) ≡ ys
  unfolding part
  part-over = ap (take (length ys)) drop-over ∙ take_at ys (drop (length ys) (drop a l)) (length ys) refl

  pub get_d_over : (i : ℕ) → a ≤ i → i < a + length ys → get_or (over l a ys) i 0 ≡ get_or ys (i - a) 0
  get_d_over i h k =
      let e : i ≡ a + (i - a) = omega arith in
      ap (λ (x : ℕ). get_or (over l a ys) x 0) e
      ∙ sym (get_or-drop a (over l a ys) (i - a) 0)
      ∙ ap (λ (t : List ℕ). get_or t (i - a) 0) drop-over
      ∙ get_or-append ys (drop (length ys) (drop a l)) 0 (i - a) (omega arith)

  -- before
  pub take-over : (n : ℕ) → n ≤ a → take n (over l a ys) ≡ take n l
  unfolding over
  take-over n h =
      let m : n ≤ length (take a l) = rw (length-take-le a l (omega arith)) h in
      take-append-le n (take a l) (ys ++ drop (length ys) (drop a l)) m ∙ take-take n a l h

  -- past
  pub drop-over-past : (n : ℕ) → a + length ys ≤ n → drop n (over l a ys) ≡ drop n l
  drop-over-past n h =
      let j = n - (a + length ys) in
      let e : n ≡ a + (length ys + j) = omega arith in
      ap (λ (x : ℕ). drop x (over l a ys)) e
      ∙ sym (drop-drop (length ys + j) a (over l a ys))
      ∙ ap (drop (length ys + j)) drop-over
      ∙ drop-append-add ys (drop (length ys) (drop a l)) j
      ∙ drop-drop j (length ys) (drop a l)
      ∙ drop-drop (length ys + j) a l
      ∙ ap (λ (x : ℕ). drop x l) (sym e)

  -- apart
  pub part-over-other : (b n : ℕ) → (a + length ys ≤ b) ⊎ (b + n ≤ a) → part (over l a ys) b n ≡ part l b n
  unfolding part
  part-over-other b n (inl h) = ap (take n) (drop-over-past b h)
  part-over-other b n (inr h) =
      part_end (over l a ys) b n (omega (arith, length_over)) ∙ ap (drop b) (take-over (b + n) h) ∙ sym (part_end l b n (omega arith))

  pub get_or-over-other : (i : ℕ) → (a + length ys ≤ i) ⊎ (i < a) → get_or (over l a ys) i 0 ≡ get_or l i 0
  get_or-over-other i (inl h) =
      let e : i ≡ i + 0 = omega arith in
      ap (λ (k : ℕ). get_or (over l a ys) k 0) e
      ∙ sym (get_or-drop i (over l a ys) 0 0)
      ∙ ap (λ (t : List ℕ). get_or t 0 0) (drop-over-past i h)
      ∙ get_or-drop i l 0 0
      ∙ ap (λ (k : ℕ). get_or l k 0) (sym e)
  get_or-over-other i (inr h) =
      sym (get_or-take a (over l a ys) i 0 h) ∙ ap (λ (t : List ℕ). get_or t i 0) (take-over a (omega arith)) ∙ get_or-take a l i 0 h

-- ---- one laid over the other

pub over-nil : (l : List ℕ) (a : ℕ) → over l a [] ≡ l
unfolding over
over-nil l a = take-append-drop a l

-- the part that is there changes nothing
pub over-same : (l : List ℕ) (a n : ℕ) → a + n ≤ length l → over l a (part l a n) ≡ l
unfolding over part
over-same l a n h =
    let m : length (take n (drop a l)) ≡ n = length_part l a n h in
    ap (λ (k : ℕ). take a l ++ (take n (drop a l) ++ drop k (drop a l))) m
    ∙ ap (λ (t : List ℕ). take a l ++ t) (take-append-drop n (drop a l))
    ∙ take-append-drop a l

-- at the same place the later one is what is seen
over-seen : (l m : List ℕ) (a : ℕ) (ys : List ℕ) → take a m ≡ take a l → drop (length ys) (drop a m) ≡ drop (length ys) (drop a l)
    → over m a ys ≡ over l a ys
unfolding over
over-seen l m a ys p q = rw (p, q)

pub over-again : (l : List ℕ) (a : ℕ) (xs ys : List ℕ) → length xs ≡ length ys → a + length ys ≤ length l
    → over (over l a xs) a ys ≡ over l a ys
over-again l a xs ys e h =
    let f : a + length xs ≤ length l = omega arith in
    over-seen l (over l a xs) a ys (take-over l a xs f a (omega arith))
    (ap (drop (length ys)) (drop-over l a xs f)
    ∙ drop_at xs (drop (length xs) (drop a l)) (length ys) e
    ∙ ap (λ (k : ℕ). drop k (drop a l)) e)

-- one after the other
pub over-over : (l : List ℕ) (a : ℕ) (xs ys : List ℕ) → a + length xs ≤ length l
    → over (over l a xs) (a + length xs) ys ≡ over l a (xs ++ ys)
unfolding over
over-over l a xs ys h =
    let D : List ℕ = drop a l in
    let P : List ℕ = take a l ++ xs in
    let R : List ℕ = drop (length xs) D in
    let n : length P ≡ a + length xs = length-append (take a l) xs ∙ ap (λ (k : ℕ). k + length xs) (length-take-le a l (omega arith)) in
    ap (λ (t : List ℕ). take (a + length xs) t ++ (ys ++ drop (length ys) (drop (a + length xs) t))) (sym (append_assoc (take a l) xs R))
    ∙ ap₂ (λ (t u : List ℕ). t ++ (ys ++ drop (length ys) u)) (take_at P R (a + length xs) n) (drop_at P R (a + length xs) n)
    ∙ append_assoc (take a l) xs (ys ++ drop (length ys) R)
    ∙ ap (λ (t : List ℕ). take a l ++ t) (sym (append_assoc xs ys (drop (length ys) R)))
    ∙ ap (λ (t : List ℕ). take a l ++ ((xs ++ ys) ++ t)) (drop-drop (length ys) (length xs) D ∙ ap (λ (k : ℕ). drop k D) (sym (length-append xs ys)))

-- by where a place lies to the n places from a on
pub placed : {X : Type 0} (a n i : ℕ) → (a ≤ i → i < a + n → X) → ((a + n ≤ i) ⊎ (i < a) → X) → X
placed a n i f g =
    case_on (ltb i a)
    (λ t. g (inr (ltb-true i a t)))
    (λ t. case_on (ltb i (a + n)) (λ u. f (ltb-false i a t) (ltb-true i (a + n) u)) (λ u. g (inl (ltb-false i (a + n) u))))

-- two that lie apart, in either order
over-swap : (l : List ℕ) (a : ℕ) (xs : List ℕ) (b : ℕ) (ys : List ℕ) → a + length xs ≤ b → b + length ys ≤ length l
    → over (over l a xs) b ys ≡ over (over l b ys) a xs
over-swap l a xs b ys d h =
    let f : a + length xs ≤ length l = omega arith in
    let p : length (over l a xs) ≡ length l = length_over l a xs f in
    let q : length (over l b ys) ≡ length l = length_over l b ys h in
    let h' : b + length ys ≤ length (over l a xs) = omega arith in
    let f' : a + length xs ≤ length (over l b ys) = omega arith in
    ext_get_or 0 (over (over l a xs) b ys) (over (over l b ys) a xs)
    (length_over (over l a xs) b ys h' ∙ p ∙ sym (length_over (over l b ys) a xs f' ∙ q))
    (λ i _.
    placed a (length xs) i
    (λ u v.
    get_or-over-other (over l a xs) b ys h' i (inr (omega arith))
    ∙ get_d_over l a xs f i u v
    ∙ sym (get_d_over (over l b ys) a xs f' i u v))
    (λ w.
    placed b (length ys) i
    (λ u v.
    get_d_over (over l a xs) b ys h' i u v
    ∙ sym (get_or-over-other (over l b ys) a xs f' i w ∙ get_d_over l b ys h i u v))
    (λ v.
    get_or-over-other (over l a xs) b ys h' i v
    ∙ get_or-over-other l a xs f i w
    ∙ sym (get_or-over-other (over l b ys) a xs f' i w ∙ get_or-over-other l b ys h i v))))

pub over-comm : (l : List ℕ) (a : ℕ) (xs : List ℕ) (b : ℕ) (ys : List ℕ) → a + length xs ≤ length l → b + length ys ≤ length l
    → (a + length xs ≤ b) ⊎ (b + length ys ≤ a) → over (over l a xs) b ys ≡ over (over l b ys) a xs
over-comm l a xs b ys f g (inl d) = over-swap l a xs b ys d g
over-comm l a xs b ys f g (inr d) = sym (over-swap l b ys a xs d f)

-- a list as long as another, laid over it from the start, is all there is
pub over-whole : (l ys : List ℕ) → length ys ≡ length l → over l 0 ys ≡ ys
unfolding over
over-whole l ys e = ap (λ (t : List ℕ). ys ++ t) (drop_of_length-le l {i = length ys} (omega arith)) ∙ append-nil ys

-- ---- a part that is lent and comes back

-- as zs: zs is laid over the whole
pub over-back : (l : List ℕ) (a e : ℕ) {ys zs : List ℕ} → ys ≡ zs → e - a ≡ length zs → take a l ++ (ys ++ drop (e - a) (drop a l)) ≡ over l a zs
unfolding over
over-back l a e p q = rw (p, q)

-- with ys laid over it at o: ys is laid over the whole at a + o
pub over-part : (l : List ℕ) (a n o : ℕ) (ys : List ℕ) → a + n ≤ length l → o + length ys ≤ n
    → over l a (over (part l a n) o ys) ≡ over l (a + o) ys
unfolding over part
over-part l a n o ys h k =
    let D : List ℕ = drop a l in
    let M : List ℕ = take n D in
    let R : List ℕ = drop n D in
    let X : List ℕ = drop (length ys) (drop o M) in
    let w : length M ≡ n = length-take-le n D (simp length-drop (omega arith)) in
    let x : o ≤ length M = omega arith in
    let y : length ys ≤ length (drop o M) = simp length-drop (omega arith) in
    let z : X ++ R ≡ drop (length ys) (drop o D) =
    sym (drop-append-le (length ys) (drop o M) R y)
    ∙ ap (drop (length ys)) (sym (drop-append-le o M R x) ∙ ap (drop o) (take-append-drop n D)) in
    ap (λ (m : ℕ). take a l ++ (over M o ys ++ drop m D)) (length_over M o ys (omega arith) ∙ w)
    ∙ ap (λ (t : List ℕ). take a l ++ t) (append_assoc (take o M) (ys ++ X) R ∙ ap (λ (t : List ℕ). take o M ++ t) (append_assoc ys X R ∙ ap (λ (t : List ℕ). ys ++ t) z))
    ∙ ap (λ (t : List ℕ). take a l ++ (t ++ (ys ++ drop (length ys) (drop o D)))) (take-take o n D (omega arith))
    ∙ sym (append_assoc (take a l) (take o D) (ys ++ drop (length ys) (drop o D)))
    ∙ ap (λ (t : List ℕ). t ++ (ys ++ drop (length ys) (drop o D))) (sym (take-add a o l))
    ∙ ap (λ (t : List ℕ). take (a + o) l ++ (ys ++ drop (length ys) t)) (drop-drop o a l)

-- what `bytes::copy` leaves, where the target is as long as the source
pub copied : (s d : List ℕ) → length d ≡ length s → take (length s) s ++ drop (length s) d ≡ s
copied s d e = ap₂ (λ (t u : List ℕ). t ++ u) (take-length s) (drop_of_length-le d {i = length s} (omega arith)) ∙ append-nil s
