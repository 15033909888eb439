-- The state after the words of what is pending are put.
use Prim.Native.Nat.{ℕ, ◌+◌, ◌<◌, ◌≤◌}
use mathlib.Core.Bool.{true, false, cond}
use mathlib.Core.List.{List, [], ◌∷◌}
use mathlib.Core.Path.{◌≡◌, refl, sym, ap, ◌∙◌}
use native.Mathlib.Omega.{arith}
use borrow.Author.Tests.{eq-eqb, eqb-true}
use lib.Dec.{eqb}
use lib.ListN.{length, get_or, set, drop, length-set, length-drop}
use lib.Seq.{length-take-le}
use Rattle.bounded.proofs.Tests.{case_on, contradicts}
use Rattle.state.specs.declared.Pending.{Pending}
use Rattle.state.specs.declared.Op.{Op}
use Rattle.operations.specs.Operations.{is_idle}
use Rattle.state_words.specs.Decoded.{start, size, part, decoded}
use Rattle.state_words.proofs.DecodedLaws.{part-put, from-ext}
use Rattle.state_words.proofs.PendingLaws.{op-idle}
use Rattle.state_pending.specs.Put.{eight, op_in, with_pending}

-- part j after one store to part k, where it is another, and where it is k
other : (c : List ℕ) (k s v j : ℕ) → k < 19 → s < size k → j < 19 → eqb j k ≡ false → part (set c (start k + s) v) j ≡ part c j
other c k s v j hk hs hj e = part-put c k s v hk hs j hj ∙ rw e

same : (c : List ℕ) (k s v : ℕ) → k < 19 → s < size k → part (set c (start k + s) v) k ≡ set (part c k) s v
same c k s v hk hs = part-put c k s v hk hs k hk ∙ rw (eq-eqb k k refl)

-- a list of eight, place by place; and after eight stores
expand : (l : List ℕ) → length l ≡ 8
    → l ≡ get_or l 0 0 ∷ get_or l 1 0 ∷ get_or l 2 0 ∷ get_or l 3 0 ∷ get_or l 4 0 ∷ get_or l 5 0 ∷ get_or l 6 0 ∷ get_or l 7 0 ∷ []
expand [] x = absurd (omega arith)
expand (a ∷ []) x = absurd (omega arith)
expand (a ∷ b ∷ []) x = absurd (omega arith)
expand (a ∷ b ∷ c ∷ []) x = absurd (omega arith)
expand (a ∷ b ∷ c ∷ d ∷ []) x = absurd (omega arith)
expand (a ∷ b ∷ c ∷ d ∷ e ∷ []) x = absurd (omega arith)
expand (a ∷ b ∷ c ∷ d ∷ e ∷ f ∷ []) x = absurd (omega arith)
expand (a ∷ b ∷ c ∷ d ∷ e ∷ f ∷ g ∷ []) x = absurd (omega arith)
expand (a ∷ b ∷ c ∷ d ∷ e ∷ f ∷ g ∷ h ∷ []) x = refl
expand (a ∷ b ∷ c ∷ d ∷ e ∷ f ∷ g ∷ h ∷ k ∷ l) x = absurd (omega arith)

filled : (m l : List ℕ) → length m ≡ 8 → length l ≡ 8 → eight m 0 l ≡ l
filled m l x y = ap (λ (q : List ℕ). eight q 0 l) (expand m x) ∙ sym (expand l y)

length-eight : (c : List ℕ) (i : ℕ) (l : List ℕ) → length (eight c i l) ≡ length c
length-eight c i l =
    let d0 = set c i (get_or l 0 0) in
    let d1 = set d0 (i + 1) (get_or l 1 0) in
    let d2 = set d1 (i + 2) (get_or l 2 0) in
    let d3 = set d2 (i + 3) (get_or l 3 0) in
    let d4 = set d3 (i + 4) (get_or l 4 0) in
    let d5 = set d4 (i + 5) (get_or l 5 0) in
    let d6 = set d5 (i + 6) (get_or l 6 0) in
    length-set d6 (i + 7) (get_or l 7 0) ∙ length-set d5 (i + 6) (get_or l 6 0) ∙ length-set d4 (i + 5) (get_or l 5 0) ∙ length-set d3 (i + 4) (get_or l 4 0) ∙ length-set d2 (i + 3) (get_or l 3 0) ∙ length-set d1 (i + 2) (get_or l 2 0) ∙ length-set d0 (i + 1) (get_or l 1 0) ∙ length-set c i (get_or l 0 0)

long : (c : List ℕ) (k : ℕ) → length c ≡ 1280 → size k ≡ 8 → start k + 8 ≤ 1280 → length (part c k) ≡ 8
unfolding part
long c k n e l =
    let more : size k ≤ length (drop (start k) c) = omega (arith, length-drop (start k) c) in
    length-take-le (size k) (drop (start k) c) more ∙ e

-- part j after eight stores to part k
module _ (c : List ℕ) (k : ℕ) (l : List ℕ) (hk : k < 19) (e : size k ≡ 8) where
  low : (s : ℕ) → s < 8 → s < size k
  low s h = omega (arith, e, h)

  abbrev c0 : List ℕ
  c0 = set c (start k + 0) (get_or l 0 0)

  abbrev c1 : List ℕ
  c1 = set c0 (start k + 1) (get_or l 1 0)

  abbrev c2 : List ℕ
  c2 = set c1 (start k + 2) (get_or l 2 0)

  abbrev c3 : List ℕ
  c3 = set c2 (start k + 3) (get_or l 3 0)

  abbrev c4 : List ℕ
  c4 = set c3 (start k + 4) (get_or l 4 0)

  abbrev c5 : List ℕ
  c5 = set c4 (start k + 5) (get_or l 5 0)

  abbrev c6 : List ℕ
  c6 = set c5 (start k + 6) (get_or l 6 0)

  abbrev c7 : List ℕ
  c7 = set c6 (start k + 7) (get_or l 7 0)

  others : (j : ℕ) → j < 19 → eqb j k ≡ false → part c7 j ≡ part c j
  others j hj f =
      other c6 k 7 _ j hk (low 7 (omega arith)) hj f ∙ other c5 k 6 _ j hk (low 6 (omega arith)) hj f ∙ other c4 k 5 _ j hk (low 5 (omega arith)) hj f ∙ other c3 k 4 _ j hk (low 4 (omega arith)) hj f
      ∙ other c2 k 3 _ j hk (low 3 (omega arith)) hj f ∙ other c1 k 2 _ j hk (low 2 (omega arith)) hj f ∙ other c0 k 1 _ j hk (low 1 (omega arith)) hj f ∙ other c k 0 _ j hk (low 0 (omega arith)) hj f

  own : part c7 k ≡ eight (part c k) 0 l
  own =
      rw (same c6 k 7 (get_or l 7 0) hk (low 7 (omega arith)), same c5 k 6 (get_or l 6 0) hk (low 6 (omega arith)), same c4 k 5 (get_or l 5 0) hk (low 5 (omega arith)), same c3 k 4 (get_or l 4 0) hk (low 4 (omega arith)), same c2 k 3 (get_or l 3 0) hk (low 3 (omega arith)), same c1 k 2 (get_or l 2 0) hk (low 2 (omega arith)), same c0 k 1 (get_or l 1 0) hk (low 1 (omega arith)), same c k 0 (get_or l 0 0) hk (low 0 (omega arith)))

  pub eight-part : length (part c k) ≡ 8 → length l ≡ 8 → (j : ℕ) → j < 19 → part c7 j ≡ cond (eqb j k) l (part c j)
  eight-part m n j hj =
      case_on (eqb j k) (λ t. let q : j ≡ k = eqb-true j k t in rw t (ap (part c7) q ∙ own ∙ filled (part c k) l m n)) (λ f. rw f (others j hj f))

busy : (n : List ℕ) (op : Op) → op_in n ≡ op → is_idle op ≡ false → eqb (get_or n 0 0) 0 ≡ false
busy n op e b =
    case_on (eqb (get_or n 0 0) 0)
    (λ t.
    let idle : is_idle (op_in n) ≡ true = op-idle (get_or n 0 0) (get_or n 1 0) (get_or n 2 0) (get_or n 3 0) (get_or n 4 0) (get_or n 5 0) ∙ rw t in
    contradicts (sym (ap is_idle e) ∙ idle) b)
    (λ f. f)

pub pending-put : (c n : List ℕ) (p : Pending) → length c ≡ 1280 → length n ≡ 8 → length p.line ≡ 8 → length p.second ≡ 8 → op_in n ≡ p.op → get_or n 6 0 ≡ p.made
    → is_idle p.op ≡ false → decoded (eight (eight (eight c 14 n) 24 p.line) 32 p.second) ≡ with_pending (decoded c) p
unfolding decoded start size
pending-put c n p lc ln ll ls e m b =
    let d = eight c 14 n in
    let g = eight d 24 p.line in
    let ld : length d ≡ 1280 = length-eight c 14 n ∙ lc in
    let lg : length g ≡ 1280 = length-eight d 24 p.line ∙ ld in
    from-ext (part (eight g 32 p.second)) (λ j. cond (eqb j 10) p.second (cond (eqb j 9) p.line (cond (eqb j 8) n (part c j))))
    (λ j hj.
    eight-part g 10 p.second (omega arith) refl (long g 10 lg refl (omega arith)) ls j hj
    ∙ ap (cond (eqb j 10) p.second) (eight-part d 9 p.line (omega arith) refl (long d 9 ld refl (omega arith)) ll j hj
    ∙ ap (cond (eqb j 9) p.line) (eight-part c 8 n (omega arith) refl (long c 8 lc refl (omega arith)) ln j hj)))
    ∙ rw (busy n p.op e b, e, m)
