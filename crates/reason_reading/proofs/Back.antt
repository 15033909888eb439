-- Reading back, by its tests.
use mathlib.Core.Path.{◌≡◌, refl, sym, ap, ap₂, subst, ◌∙◌}
use mathlib.Core.Bool.{Bool, true, false}
use mathlib.Core.List.{List, [], ◌∷◌}
use Prim.Native.Nat.{ℕ, ◌+◌, ◌≤◌}
use native.Mathlib.Omega.{arith}
use lib.Dec.{eqb}
use lib.ListN.{length, take, drop}
use lib.Seq.{take_at}
use borrow.Author.Tests.{eq-eqb, eqb-true}
use Rattle.bounded.proofs.Tests.{case_on, contradicts, and_left, and_right}
use Rattle.words.specs.Words.{over}
use Rattle.words.proofs.Parts.{length_over}
use Rattle.wording.specs.Calls.{can_return}
use Rattle.reasons.specs.declared.Reason.{Reason}
use Rattle.rows.specs.declared.Refusal.{Refusal}
use Rattle.reasons.specs.Sentence.{sentence, composed, composed_in}
use Rattle.reasons.proofs.Composing.{composed-by, composed-taken, refused-by, row-taken}
use Rattle.reasons.proofs.Printable.{shown}
use Rattle.std.specs.Prelude.{Result, Ok, Err, Some, None}
use Rattle.reason_reading.specs.Reading.{guess, same_text, read_back}

-- ---- texts compared

pub same-eq : (xs ys : List ℕ) → same_text xs ys ≡ true → xs ≡ ys
unfolding same_text
same-eq [] [] e = refl
same-eq [] (y ∷ ys) e = contradicts e refl
same-eq (x ∷ xs) [] e = contradicts e refl
same-eq (x ∷ xs) (y ∷ ys) e =
    ap₂ (λ (b : ℕ) (l : List ℕ). b ∷ l) (eqb-true x y (and_left (eqb x y) (same_text xs ys) e)) (same-eq xs ys (and_right (eqb x y) (same_text xs ys) e))

same_refl : (xs : List ℕ) → same_text xs xs ≡ true
unfolding same_text
same_refl [] = refl
same_refl (x ∷ xs) = rw (eq-eqb x x refl, same_refl xs)

pub eq-same : {xs ys : List ℕ} → xs ≡ ys → same_text xs ys ≡ true
eq-same {xs} e = subst (λ (l : List ℕ). same_text xs l ≡ true) e (same_refl xs)

-- ---- by the tests

module _ (text : List ℕ) where
  abbrev can : Bool
  can = can_return (guess text).call (guess text).number

  abbrev same : Bool
  same = same_text text (sentence (guess text))

  pub back-these : can ≡ true → text ≡ sentence (guess text) → read_back text ≡ Some (guess text)
  unfolding read_back
  back-these e f = rw (e, eq-same f)

  pub back-cannot : can ≡ false → read_back text ≡ None
  unfolding read_back
  back-cannot e = rw e

  pub back-other : can ≡ true → (text ≡ sentence (guess text) → ⊥) → read_back text ≡ None
  unfolding read_back
  back-other e f = case_on same (λ t. absurd (f (same-eq text (sentence (guess text)) t))) (λ t. rw (e, t))

-- ---- the guess r composed again in a target of 200 bytes: d is what comes of it, and out the target after it

module _ (text : List ℕ) (r : Reason) (d : Result ℕ Refusal) (target out : List ℕ) (g : r ≡ guess text) (sized : length target ≡ 200)
    (n : d ≡ composed r (length target)) (o : out ≡ composed_in r target) where
  guessed : (b : Bool) → can_return r.call r.number ≡ b → can_return (guess text).call (guess text).number ≡ b
  guessed b e = subst (λ (q : Reason). can_return q.call q.number ≡ b) g e

  pub again-cannot : {e : Refusal} → d ≡ Err e → None ≡ read_back text
  again-cannot f =
      case_on (can_return r.call r.number)
      (λ t. absurd (let q = (refused-by r target (sym n ∙ f)).0 in let z = row-taken r target (omega arith) t in omega (arith, q, z)))
      (λ t. sym (back-cannot text (guessed false t)))

  module _ (k : ℕ) (z : d ≡ Ok k) where
    can-be : can_return r.call r.number ≡ true
    can-be = (composed-by r target (sym n ∙ z)).can

    length-is : k ≡ length (sentence r)
    length-is = (composed-by r target (sym n ∙ z)).count

    fits : 0 + length (sentence r) ≤ length target
    fits = omega (arith, (shown r can-be).short)

    laid : out ≡ over target 0 (sentence r)
    laid = o ∙ (composed-taken r target (omega arith) can-be).1

    pub again-low : k ≤ length out
    again-low = omega (arith, length-is, fits, ap length laid, length_over target 0 (sentence r) fits)

    text-is : take k out ≡ sentence r
    unfolding over
    text-is =
        ap₂ (λ (n : ℕ) (l : List ℕ). take n l) length-is laid
        ∙ take_at (sentence r) (drop (length (sentence r)) target) (length (sentence r)) refl

    pub again-other : (text ≡ take k out → ⊥) → None ≡ read_back text
    again-other f =
        sym (back-other text (guessed true can-be) (λ e. f (e ∙ ap sentence (sym g) ∙ sym text-is)))

    pub again-these : text ≡ take k out → Some r ≡ read_back text
    again-these e = ap Some g ∙ sym (back-these text (guessed true can-be) (e ∙ text-is ∙ ap sentence g))
