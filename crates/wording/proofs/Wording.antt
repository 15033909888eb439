-- How long the names and texts are, and that they are printable without a digit: one test over each table.
use mathlib.Core.Path.{◌≡◌, refl}
use mathlib.Core.Bool.{Bool, true, ◌&&◌, not}
use mathlib.Core.List.{List, [], ◌∷◌, ◌++◌}
use Prim.Native.Nat.{ℕ, zero, suc, ◌<◌, ◌≤◌}
use native.Mathlib.Omega.{arith}
use lib.Dec.{leb, eqb}
use lib.ListN.{length, get_or, get_or-append}
use borrow.Author.Tests.{leb-true, eqb-true}
use Rattle.bounded.specs.Below.{all_below, first_below}
use Rattle.bounded.proofs.Below.{all-at}
use Rattle.bounded.proofs.Tests.{and_left, and_right}
use Rattle.wording.specs.Calls.{call_count}
use Rattle.wording.specs.Words.{codes, names, texts, name_of, text_of, call_named, is_digit, printable, plain}

-- each text of a table has at most m bytes and is plain
unfoldable fitting : ℕ → List (List ℕ) → Bool
fitting m [] = true
fitting m (t ∷ ts) = (leb (length t) m && plain t) && fitting m ts

pub record Fits (m : ℕ) (t : List ℕ) : Type 0 where
  pub short : length t ≤ m
  pub clear : plain t ≡ true

fits-at : (m : ℕ) (ts : List (List ℕ)) (n : ℕ) → fitting m ts ≡ true → Fits m (get_or ts n [])
unfolding fitting plain
fits-at m [] n e = record { short = omega arith; clear = refl }
fits-at m (t ∷ ts) zero e =
    let h = and_left (leb (length t) m && plain t) (fitting m ts) e in
    record { short = leb-true (length t) m (and_left (leb (length t) m) (plain t) h); clear = and_right (leb (length t) m) (plain t) h }
fits-at m (t ∷ ts) (suc n) e = fits-at m ts n (and_right (leb (length t) m && plain t) (fitting m ts) e)

pub name-fits : (c : ℕ) → Fits 11 (name_of c)
unfolding names codes fitting plain
name-fits c = fits-at 11 names c refl

pub text-fits : (n : ℕ) → Fits 48 (text_of n)
unfolding texts codes fitting plain
text-fits n = fits-at 48 texts n refl

-- ---- printable and plain texts

pub plain-printable : (t : List ℕ) → plain t ≡ true → printable t ≡ true
unfolding plain printable
plain-printable [] e = refl
plain-printable (b ∷ bs) e =
    let h = and_left ((leb 32 b && leb b 126) && not (is_digit b)) (plain bs) e in
    rw (and_left (leb 32 b && leb b 126) (not (is_digit b)) h, plain-printable bs (and_right ((leb 32 b && leb b 126) && not (is_digit b)) (plain bs) e))

pub printable-append : (s t : List ℕ) → printable s ≡ true → printable t ≡ true → printable (s ++ t) ≡ true
unfolding printable
printable-append [] t e f = f
printable-append (b ∷ bs) t e f =
    rw (and_left (leb 32 b && leb b 126) (printable bs) e, printable-append bs t (and_right (leb 32 b && leb b 126) (printable bs) e) f)

-- ---- a name tells its call by its first three bytes

own_name : (c : ℕ) → c < call_count → call_named (get_or (name_of c) 0 0) (get_or (name_of c) 1 0) (get_or (name_of c) 2 0) ≡ c
unfolding names codes call_named first_below all_below
own_name c h =
    eqb-true _ c (all-at (λ k. eqb (call_named (get_or (name_of k) 0 0) (get_or (name_of k) 1 0) (get_or (name_of k) 2 0)) k) call_count c h refl)

pub three-bytes : (c : ℕ) → c < call_count → 3 ≤ length (name_of c)
unfolding names codes all_below
three-bytes c h = leb-true 3 (length (name_of c)) (all-at (λ k. leb 3 (length (name_of k))) call_count c h refl)

-- and so does a text that starts with it
pub named : (c : ℕ) (rest : List ℕ) → c < call_count → (let t = name_of c ++ rest in call_named (get_or t 0 0) (get_or t 1 0) (get_or t 2 0) ≡ c)
named c rest h =
    let n = three-bytes c h in
    rw (get_or-append (name_of c) rest 0 0 (omega arith), get_or-append (name_of c) rest 0 1 (omega arith), get_or-append (name_of c) rest 0 2 (omega arith))
    (own_name c h)
