-- Two tables of refusals that agree in each row, once the rows before it do not apply, give the same number.
use mathlib.Core.Bool.{false}
use mathlib.Core.List.{List, [], ◌∷◌}
use mathlib.Core.Path.{◌≡◌, refl, sym, ◌∙◌}
use Rattle.bounded.specs.Rows.{Row, refusal}
use Rattle.bounded.proofs.Tests.{case_on}

abbrev pub Matching : List Row → List Row → Type 0
Matching [] [] = Unit
Matching [] (s ∷ ss) = ⊥
Matching (r ∷ rs) [] = ⊥
Matching (r ∷ rs) (s ∷ ss) = (r.0 ≡ s.0) × (r.1 ≡ s.1) × (r.0 ≡ false → Matching rs ss)

pub same-refusal : (rs ss : List Row) → Matching rs ss → refusal rs ≡ refusal ss
same-refusal [] [] m = refl
same-refusal [] (s ∷ ss) m = absurd m
same-refusal (r ∷ rs) [] m = absurd m
same-refusal (r ∷ rs) (s ∷ ss) m =
    case_on r.0
    (λ t. rw (t, sym m.0 ∙ t) m.1)
    (λ t. rw (t, sym m.0 ∙ t) (same-refusal rs ss (m.2 t)))
