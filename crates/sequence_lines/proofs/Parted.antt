-- A line in its parts.
use Prim.Native.Nat.{ℕ, ◌+◌, ◌*◌, ◌<◌, ◌≤◌}
use Prim.Native.Char.{code}
use mathlib.Core.List.{List, [], ◌∷◌, ◌++◌, append_assoc, append-nil}
use mathlib.Core.Path.{◌≡◌, refl, sym, ap, ◌∙◌}
use native.Mathlib.Numerals.{add-one}
use native.Mathlib.Omega.{arith}
use lib.Dec.{eqb}
use lib.ListN.{length, take, get_or, length-append, length-take}
use lib.Seq.{take-suc, take_all}
use borrow.Author.Tests.{ne_eqb}
use mathlib.Core.Bool.{Bool, false}
use Rattle.decimals.specs.Decimal.{decimal_of}
use Rattle.decimals.proofs.Printing.{decimal-le}
use Rattle.number_text.specs.Text.{Put}
use Rattle.number_text.proofs.Puts.{put-none, put_then, put_as}
use Rattle.sequence_runs.specs.declared.Played.{Played}
use Rattle.sequence_runs.specs.Calls.{call_of}
use Rattle.sequence_runs.specs.Runs.{Ran, start, one_more, ran, first_byte, played_of}
use Rattle.sequence_lines.specs.Listing.{marked, parted, numbers_of, line_of}
use Rattle.sequence_lines.specs.Parts.{followed, PutLine}

-- ---- numbers, each followed by a comma

followed-append : (xs ys : List ℕ) → followed (xs ++ ys) ≡ followed xs ++ followed ys
unfolding followed
followed-append [] ys = refl
followed-append (x ∷ xs) ys = ap (λ (t : List ℕ). marked x (code ",") ++ t) (followed-append xs ys) ∙ sym (append_assoc (marked x (code ",")) (followed xs) (followed ys))

followed-one : (v : ℕ) → followed (v ∷ []) ≡ marked v (code ",")
unfolding followed
followed-one v = append-nil (marked v (code ","))

pub length_marked : (v mark : ℕ) → length (marked v mark) ≤ 21
length_marked v mark = omega (arith, length-append (decimal_of v) (mark ∷ []), decimal-le v)

pub length-followed : (xs : List ℕ) → length (followed xs) ≤ 21 * length xs
unfolding followed
length-followed [] = omega arith
length-followed (x ∷ xs) = omega (arith, length-append (marked x (code ",")) (followed xs), length_marked x (code ","), length-followed xs)

pub followed-place : {l m : List ℕ} {a b : ℕ} (xs : List ℕ) → Put l a (followed xs) m b → b ≤ a + 21 * length xs
followed-place xs p = omega (arith, p.place, length-followed xs)

-- a loop that puts them has come to number i
pub followed-none : (l : List ℕ) (a : ℕ) (xs : List ℕ) → Put l a (followed (take 0 xs)) l a
unfolding followed
followed-none l a xs = put-none l a

module _ {l m : List ℕ} {a b : ℕ} (xs : List ℕ) (i : ℕ) (p : Put l a (followed (take i xs)) m b) where
  pub followed-at : b ≤ a + 21 * i
  followed-at = omega (arith, length-followed (take i xs), length-take i xs)

  pub followed-turn : {k : List ℕ} {c : ℕ} → Put m b (marked (get_or xs i 0) (code ",")) k c → i < length xs → a + 21 * length xs ≤ length l
      → Put l a (followed (take (i + 1) xs)) k c
  followed-turn q h r =
      let x = get_or xs i 0 in
      let e : followed (take (i + 1) xs) ≡ followed (take i xs) ++ marked x (code ",") =
      ap followed (rw add-one (take-suc xs i 0 h)) ∙ followed-append (take i xs) (x ∷ []) ∙ ap (λ (t : List ℕ). followed (take i xs) ++ t) (followed-one x) in
      put_as (sym e) (put_then p q (omega (arith, followed-at)))

  pub followed-end : length xs ≤ i → Put l a (followed xs) m b
  followed-end h = put_as (ap followed (take_all i xs h)) p

-- ---- a line

-- what stands before the last numbers is followed by commas
parted-more : (x : ℕ) (xs : List ℕ) → 0 < length xs → parted (x ∷ xs) ≡ marked x (code ",") ++ parted xs
unfolding parted
parted-more x xs h = let t : eqb (length xs) 0 ≡ false = ne_eqb (length xs) 0 (λ e. omega arith) in rw t

pub parted-three : (x y z : ℕ) → marked x (code ",") ++ (marked y (code ",") ++ marked z (code "\n")) ≡ parted (x ∷ y ∷ z ∷ [])
unfolding parted
parted-three x y z = rw append-nil

parted-append : (xs : List ℕ) (y : ℕ) (ys : List ℕ) → parted (xs ++ (y ∷ ys)) ≡ followed xs ++ parted (y ∷ ys)
unfolding followed
parted-append [] y ys = refl
parted-append (x ∷ xs) y ys =
    parted-more x (xs ++ (y ∷ ys)) (omega (arith, length-append xs (y ∷ ys)))
    ∙ ap (λ (t : List ℕ). marked x (code ",") ++ t) (parted-append xs y ys)
    ∙ sym (append_assoc (marked x (code ",")) (followed xs) (parted (y ∷ ys)))

-- how many stores the last call needs does not depend on the cut
ran-more : (k c : ℕ) (cs : List ℕ) (r : Ran) → 0 < length cs → ran k (c ∷ cs) r ≡ ran k cs (one_more false k (call_of c) r)
unfolding ran
ran-more k c cs r h = ap (λ (b : Bool). ran k cs (one_more b k (call_of c) r)) (ne_eqb (length cs) 0 (λ e. omega arith))

needed-same : (k : ℕ) (calls : List ℕ) (r : Ran) → (ran k calls r).needed ≡ (ran 0 calls r).needed
unfolding ran one_more
needed-same k [] r = refl
needed-same k (c ∷ []) r = refl
needed-same k (c ∷ d ∷ cs) r =
    ap (λ (q : Ran). q.needed) (ran-more k c (d ∷ cs) r (omega arith))
    ∙ needed-same k (d ∷ cs) (one_more false k (call_of c) r)
    ∙ sym (ap (λ (q : Ran). q.needed) (ran-more 0 c (d ∷ cs) r (omega arith)))

parted-both : (xs ys : List ℕ) (z : ℕ) (zs : List ℕ) → parted (xs ++ (ys ++ (z ∷ zs))) ≡ followed xs ++ (followed ys ++ parted (z ∷ zs))
parted-both xs ys z zs = ap parted (sym (append_assoc xs ys (z ∷ zs))) ∙ parted-append (xs ++ ys) z zs ∙ rw (followed-append, append_assoc)

pub line-put : {l m₁ m₂ m₃ : List ℕ} {a b₁ b₂ b₃ : ℕ} (calls answers : List ℕ) (k : ℕ) (p : Played)
    → p ≡ played_of (ran k calls start) → answers ≡ (ran k calls start).answers → length answers ≡ length calls
    → Put l a (followed calls) m₁ b₁ → Put m₁ b₁ (followed answers) m₂ b₂ → Put m₂ b₂ (parted (k ∷ p.first ∷ p.second ∷ [])) m₃ b₃
    → length m₁ ≡ length l → a + (42 * length calls + 63) ≤ length l
    → PutLine l a calls k m₃ (record { next = b₃; needed = p.needed })
unfolding line_of
line-put {l} calls answers k p played answered same p₁ p₂ p₃ n room =
    let r = ran k calls start in
    let end = k ∷ first_byte r.world 0 ∷ first_byte r.world 1 ∷ [] in
    let text : followed calls ++ (followed answers ++ parted (k ∷ p.first ∷ p.second ∷ [])) ≡ parted (numbers_of calls k r) =
    rw (played, answered) (sym (parted-both calls r.answers k (first_byte r.world 0 ∷ first_byte r.world 1 ∷ []))) in
    record {
      text = put_as text (put_then p₁ (put_then p₂ p₃ (omega (arith, p₁.place, p₂.place, length-followed calls, length-followed answers))) (omega (arith, p₁.place, length-followed calls)));
      needed = ap (λ (q : Played). q.needed) played ∙ needed-same k calls start;
    }
