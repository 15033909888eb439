-- One element set, as a list of one laid over.
use mathlib.Core.Path.{◌≡◌, sym, ap, ◌∙◌}
use mathlib.Core.List.{List, [], ◌∷◌, ◌++◌}
use Prim.Native.Nat.{ℕ, ◌+◌, ◌<◌}
use native.Mathlib.Numerals.{add-one}
use native.Mathlib.Omega.{arith}
use lib.ListN.{length, take, drop, set}
use lib.Seq.{set_split, drop-drop}
use Rattle.words.specs.Words.{over}
use Rattle.words.proofs.Parts.{over-over}

pub set-over : (l : List ℕ) (a v : ℕ) → a < length l → set l a v ≡ over l a (v ∷ [])
unfolding over
set-over l a v h =
    set_split l a v h
    ∙ ap (λ (k : ℕ). take a l ++ v ∷ drop k l) (sym (add-one a))
    ∙ ap (λ (t : List ℕ). take a l ++ v ∷ t) (sym (drop-drop 1 a l))

-- the first of several
pub set_first : (l : List ℕ) (a v : ℕ) (ys : List ℕ) → a < length l → over (set l a v) (a + 1) ys ≡ over l a (v ∷ ys)
set_first l a v ys h = ap (λ (t : List ℕ). over t (a + 1) ys) (set-over l a v h) ∙ over-over l a (v ∷ []) ys (omega arith)
