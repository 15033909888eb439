-- Programs fed the same bytes: what each line keeps between them holds at the end.
use Prim.Native.Nat.{ℕ}
use mathlib.Core.Bool.{Bool, true, false, cond}
use mathlib.Core.List.{List, [], ◌∷◌, ◌++◌}
use lib.Dec.{eqb}
use lib.ListN.{length}
use Rattle.bounded.proofs.Tests.{case_on}
use Rattle.cutting.specs.Feeding.{Fed, fed_byte, fed, ended}

module _ {A B C : Type 0} (f : A → List ℕ → A) (g : B → List ℕ → B) (h : C → List ℕ → C) (Keeps : A → B → C → Type 0)
    (line : (a : A) (b : B) (c : C) (l : List ℕ) → Keeps a b c → Keeps (f a l) (g b l) (h c l)) where
  abbrev Ends : List ℕ → Fed A → Fed B → Fed C → Type 0
  Ends bytes x y z = Keeps (ended f (fed f x bytes)) (ended g (fed g y bytes)) (ended h (fed h z bytes))

  by_byte : (t : Bool) (bytes : List ℕ) (x x' : Fed A) (y y' : Fed B) (z z' : Fed C) → Ends bytes x y z → Ends bytes x' y' z'
      → Ends bytes (cond t x x') (cond t y y') (cond t z z')
  by_byte true bytes x x' y y' z z' p q = p
  by_byte false bytes x x' y y' z z' p q = q

  pub three : (bytes begun : List ℕ) (a : A) (b : B) (c : C) → Keeps a b c
      → Ends bytes (record { done = a; begun = begun }) (record { done = b; begun = begun }) (record { done = c; begun = begun })
  unfolding fed fed_byte ended
  three [] begun a b c k = case_on (eqb (length begun) 0) (λ t. rw t k) (λ t. rw t (line a b c begun k))
  three (x ∷ bytes) begun a b c k =
      by_byte (eqb x 10) bytes _ _ _ _ _ _ (three bytes [] (f a begun) (g b begun) (h c begun) (line a b c begun k)) (three bytes (begun ++ (x ∷ [])) a b c k)

-- of two, and of one
idle : ℕ → List ℕ → ℕ
idle n line = n

pub two : {A B : Type 0} (f : A → List ℕ → A) (g : B → List ℕ → B) (Keeps : A → B → Type 0)
    → ((a : A) (b : B) (l : List ℕ) → Keeps a b → Keeps (f a l) (g b l)) → (bytes begun : List ℕ) (a : A) (b : B) → Keeps a b
    → Keeps (ended f (fed f (record { done = a; begun = begun }) bytes)) (ended g (fed g (record { done = b; begun = begun }) bytes))
two f g Keeps line bytes begun a b k = three f g idle (λ x y z. Keeps x y) (λ x y z l h. line x y l h) bytes begun a b 0 k

pub alone : {A : Type 0} (f : A → List ℕ → A) (Keeps : A → Type 0) → ((a : A) (l : List ℕ) → Keeps a → Keeps (f a l)) → (bytes begun : List ℕ) (a : A)
    → Keeps a → Keeps (ended f (fed f (record { done = a; begun = begun }) bytes))
alone f Keeps line bytes begun a k = two f idle (λ x y. Keeps x) (λ x y l h. line x l h) bytes begun a 0 k
