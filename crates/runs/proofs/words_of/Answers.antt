use mathlib.Core.Path.{◌≡◌, refl, ap₂}
use mathlib.Core.List.{List, ◌∷◌}
use Prim.Native.Nat.{ℕ}
use Rattle.words.specs.Words.{words_at}
use Rattle.runs.proofs.words_of.Goals as goal

-- Each read is a word of the definition, written out.
-- two lists agree where their first elements and the rest do
and : {a b : ℕ} → a ≡ b → {l m : List ℕ} → l ≡ m → a ∷ l ≡ b ∷ m
and e f = ap₂ (λ (n : ℕ) (l : List ℕ). n ∷ l) e f

pub returns : goal.returns
unfolding words_at
returns c =
    and c.word_at.ensures (and c.word_at-2.ensures (and c.word_at-3.ensures (and c.word_at-4.ensures (and c.word_at-5.ensures (and c.word_at-6.ensures (and c.word_at-7.ensures (and c.word_at-8.ensures refl)))))))
