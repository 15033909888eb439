-- Parts of the words lent as slices: the first spares, the first entries of the map, and entries that come back.
use Prim.Native.Nat.{ℕ, ◌+◌, ◌<◌, ◌≤◌}
use mathlib.Core.Bool.{true, cond}
use mathlib.Core.List.{List, ◌++◌}
use mathlib.Core.Path.{◌≡◌, refl, sym, ap, ◌∙◌}
use native.Mathlib.Omega.{arith}
use borrow.Author.Tests.{leb-true, eqb-true, eqb-false}
use lib.Dec.{leb, eqb}
use lib.ListN.{length, get_or, take, drop, length-drop, length-append, take-append-drop}
use lib.Seq.{ext_get_or, get_or-drop, length-take-le, take-append-le, drop-append-le, drop_at, take_all}
use Rattle.bounded.specs.Below.{all_below}
use Rattle.bounded.specs.Tab.{tab}
use Rattle.bounded.proofs.Below.{all-at}
use Rattle.bounded.proofs.Tab.{length-tab, get_or-tab}
use Rattle.bounded.proofs.Tests.{case_on}
use Rattle.state_words.specs.Decoded.{start, size, part, decoded, with_map}
use Rattle.state_words.proofs.DecodedLaws.{get_d_take, part_at, from-ext}

-- the first n words of part k
front : (c : List ℕ) (k n : ℕ) → n ≤ size k → start k + n ≤ length c → take n (drop (start k) c) ≡ tab n (λ i. get_or (part c k) i 0)
front c k n h l =
    let long : n ≤ length (drop (start k) c) = omega (arith, length-drop (start k) c) in
    let same : length (take n (drop (start k) c)) ≡ n = length-take-le n (drop (start k) c) long in
    ext_get_or 0 (take n (drop (start k) c)) (tab n (λ i. get_or (part c k) i 0)) (same ∙ sym (length-tab n (λ i. get_or (part c k) i 0)))
    (λ i p.
    let low : i < n = omega (arith, same) in
    get_d_take n (drop (start k) c) i low
    ∙ get_or-drop (start k) c i 0
    ∙ sym (get_or-tab n (λ j. get_or (part c k) j 0) i 0 low ∙ part_at c k i (omega (arith, h, low))))

-- the words below the map
low_parts : all_below 18 (λ j. leb (start j + size j) 256) ≡ true
unfolding all_below start size
low_parts = refl

low_part : (a r : List ℕ) (j : ℕ) → length a ≡ 256 → j < 18 → part (a ++ r) j ≡ take (size j) (drop (start j) a)
unfolding part
low_part a r j e p =
    let fits : start j + size j ≤ 256 = leb-true (start j + size j) 256 (all-at (λ i. leb (start i + size i) 256) 18 j p low_parts) in
    let room : size j ≤ length (drop (start j) a) = omega (arith, length-drop (start j) a, fits) in
    ap (take (size j)) (drop-append-le (start j) a r (omega (arith, fits))) ∙ take-append-le (size j) (drop (start j) a) r room

module _ (c : List ℕ) (long : length c ≡ 1280) where
  pub spares-front : (n : ℕ) → n ≤ 16 → take n (drop 72 c) ≡ tab n (λ s. get_or (decoded c).table.spare s 0)
  unfolding decoded start size
  spares-front n h = front c 13 n h (omega arith)

  pub map-front : (n : ℕ) → n ≤ 1024 → take n (drop 256 c) ≡ tab n (λ p. get_or (decoded c).map p 0)
  unfolding decoded start size
  map-front n h = front c 18 n h (omega arith)

  -- entries lent and come back from the first on
  module _ (hs : List ℕ) (n : ℕ) (e : length hs ≡ n) (h : n ≤ 1024) where
    abbrev back : List ℕ
    back = take 256 c ++ (hs ++ drop n (drop 256 c))

    below : length (take 256 c) ≡ 256
    below = length-take-le 256 c (omega arith)

    low : (j : ℕ) → j < 18 → part back j ≡ part c j
    low j p =
        low_part (take 256 c) (hs ++ drop n (drop 256 c)) j below p
        ∙ sym (ap (λ (l : List ℕ). part l j) (sym (take-append-drop 256 c)) ∙ low_part (take 256 c) (drop 256 c) j below p)

    rest : length (drop 256 c) ≡ 1024
    rest = omega (arith, length-drop 256 c)

    whole : length (hs ++ drop n (drop 256 c)) ≡ 1024
    whole = omega (arith, length-append hs (drop n (drop 256 c)), length-drop n (drop 256 c), rest)

    high : part back 18 ≡ hs ++ drop n (part c 18)
    unfolding part start size
    high =
        let few : length (drop 256 c) ≤ 1024 = omega (arith, rest) in
        let more : length (hs ++ drop n (drop 256 c)) ≤ 1024 = omega (arith, whole) in
        ap (take 1024) (drop_at (take 256 c) (hs ++ drop n (drop 256 c)) 256 below)
        ∙ take_all 1024 (hs ++ drop n (drop 256 c)) more
        ∙ ap (λ (l : List ℕ). hs ++ drop n l) (sym (take_all 1024 (drop 256 c) few))

    pub map_is_back : decoded back ≡ with_map (decoded c) (hs ++ drop n (decoded c).map)
    unfolding decoded
    map_is_back =
        from-ext (part back) (λ j. cond (eqb j 18) (hs ++ drop n (part c 18)) (part c j))
        (λ j p. case_on (eqb j 18) (λ t. rw t (ap (part back) (eqb-true j 18 t) ∙ high)) (λ t. rw t (low j (omega (arith, p, eqb-false j 18 t)))))
