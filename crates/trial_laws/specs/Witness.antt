-- A witness of `equal-bytes`: two settings and one round, which both finish; byte 0 of page 0 is then the round's number in both.
use Rattle.std.specs.Prelude.{ℕ, List, [], ◌∷◌, ◌≡◌, replicate}
use Rattle.trial_laws.specs.Pages.{line_shown, Given, end_of}

-- settings `1,1,1` and `1,1,2`, and one round on page `0`
abbrev pub one_setting : List ℕ
one_setting = 49 ∷ 44 ∷ 49 ∷ 44 ∷ 49 ∷ []

abbrev pub other_setting : List ℕ
other_setting = 49 ∷ 44 ∷ 49 ∷ 44 ∷ 50 ∷ []

abbrev pub one_round : List (List ℕ)
one_round = (48 ∷ []) ∷ []

unfoldable pub buffer : List ℕ
buffer = replicate 8384 0

-- the line in which the round wrote
abbrev pub line : List ℕ
line = 1 ∷ replicate 63 0

pub record RoundShown : Type 0 where
  pub given : Given buffer one_setting one_round
  pub given-other : Given buffer other_setting one_round
  pub shown : line_shown (end_of buffer one_setting one_round) 0 0 ≡ line
  pub same : line_shown (end_of buffer other_setting one_round) 0 0 ≡ line
