-- Laws of tests. In a law about code, r is what a call returned and a the test that it stands for.
use Prim.Native.Nat.{ℕ, zero, suc}
use lib.ListN.{get_or}
use mathlib.Core.Bool.{Bool, true, false, not, ◌&&◌, ◌||◌, cond, and-false, true≢false}
use mathlib.Core.List.{List, [], ◌∷◌}
use mathlib.Core.Path.{◌≡◌, refl, sym, ap, ◌∙◌}
use borrow.Author.Tests.{not-true, not-false}
use Rattle.bounded.specs.Tests.{chain, every, Held}

-- by cases on a test
pub case_on : {X : Type 0} (b : Bool) → (b ≡ true → X) → (b ≡ false → X) → X
case_on true f g = f refl
case_on false f g = g refl

pub contradicts : {X : Type 0} {b : Bool} → b ≡ true → b ≡ false → X
contradicts t f = absurd (true≢false (sym t ∙ f))

-- the first test failed, so the whole does: `if !r { return false; }`
pub and-stops : (a b r : Bool) → r ≡ a → not r ≡ true → false ≡ a && b
and-stops a b r e t = ap (λ (x : Bool). x && b) (sym (not-true r t) ∙ e)

-- the first test held, so the whole is what is left
pub and-goes : (a b r q : Bool) → r ≡ a → not r ≡ false → q ≡ b → q ≡ a && b
and-goes a b r q e t h = h ∙ ap (λ (x : Bool). x && b) (sym (not-false r t) ∙ e)

pub and_left : (a b : Bool) → a && b ≡ true → a ≡ true
and_left true b e = refl
and_left false b e = e

pub and_right : (a b : Bool) → a && b ≡ true → b ≡ true
and_right true b e = e
and_right false b e = contradicts e refl

pub or_left : (a b : Bool) → a || b ≡ false → a ≡ false
or_left true b e = e
or_left false b e = refl

pub or_right : (a b : Bool) → a || b ≡ false → b ≡ false
or_right true b e = contradicts refl e
or_right false b e = e

-- r held, so the test that it stands for did
pub held : (a r : Bool) → r ≡ a → not r ≡ false → a ≡ true
held a r e t = sym e ∙ not-false r t

-- a row of a table: it applies, or it does not and the rest answers
pub row-yes : {A : Type 0} (b : Bool) (x y : A) → b ≡ true → x ≡ cond b x y
row-yes b x y e = ap (λ (t : Bool). cond t x y) (sym e)

pub row-no : {A : Type 0} (b : Bool) (x y z : A) → b ≡ false → z ≡ y → z ≡ cond b x y
row-no b x y z e h = h ∙ ap (λ (t : Bool). cond t x y) (sym e)

-- what holds of both answers of a row holds of the row
pub row_keeps : {A : Type 0} (P : A → Type 0) (b : Bool) (x y : A) → P x → P y → P (cond b x y)
row_keeps P true x y p q = p
row_keeps P false x y p q = q

-- ---- a list of tests

chain_head : (a : Bool) (bs : List Bool) → chain a bs ≡ true → a ≡ true
chain_head a [] e = e
chain_head a (b ∷ bs) e = and_left a b (chain_head (a && b) bs e)

chain-tail : (a : Bool) (bs : List Bool) → chain a bs ≡ true → Held bs
chain-tail a [] e = tt
chain-tail a (b ∷ bs) e = (and_right a b (chain_head (a && b) bs e), chain-tail (a && b) bs e)

-- from the test to its parts
pub every_held : (l : List Bool) → every l ≡ true → Held l
every_held [] e = tt
every_held (a ∷ bs) e = (chain_head a bs e, chain-tail a bs e)

chain-made : (a : Bool) (bs : List Bool) → a ≡ true → Held bs → chain a bs ≡ true
chain-made a [] e h = e
chain-made a (b ∷ bs) e h = chain-made (a && b) bs (ap (λ (x : Bool). x && b) e ∙ h.0) h.1

-- and back
pub held-every : (l : List Bool) → Held l → every l ≡ true
held-every [] h = refl
held-every (a ∷ bs) h = chain-made a bs h.0 h.1

chain-no : (a : Bool) (bs : List Bool) → a ≡ false → chain a bs ≡ false
chain-no a [] e = e
chain-no a (b ∷ bs) e = chain-no (a && b) bs (ap (λ (x : Bool). x && b) e)

chain-fails : (a : Bool) (bs : List Bool) (k : ℕ) → get_or bs k true ≡ false → chain a bs ≡ false
chain-fails a [] k e = contradicts refl e
chain-fails a (b ∷ bs) zero e = chain-no (a && b) bs (ap (λ (x : Bool). a && x) e ∙ and-false a)
chain-fails a (b ∷ bs) (suc k) e = chain-fails (a && b) bs k e

-- one test of the list fails, so the whole does
pub every-fails : (l : List Bool) (k : ℕ) → get_or l k true ≡ false → false ≡ every l
every-fails [] k e = contradicts refl e
every-fails (a ∷ bs) zero e = sym (chain-no a bs e)
every-fails (a ∷ bs) (suc k) e = sym (chain-fails a bs k e)

pub or-goes : (a b r : Bool) → a ≡ false → r ≡ b → r ≡ a || b
or-goes a b r e h = h ∙ ap (λ (x : Bool). x || b) (sym e)
