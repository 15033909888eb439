-- Calls on the host's own state record, by value or lent by `&mut` (document 01: "the host's own state record is changed directly").
use Rattle.std.specs.Prelude.{◌≡◌}
use Rattle.answers.specs.Answers.{Answer}
use Rattle.answers.specs.Answers.{number_of, answered_at}
use Rattle.refinement.specs.Outcome.{Outcome}
use Rattle.state_words.specs.Decoded.{decoded}
use Rattle.host.specs.declared.record.State.{State}

-- the answer and the record that a call leaves are this outcome's, and a refused call leaves the record as it was
abbrev pub CameTo : Outcome → State → Answer → State → Type 0
CameTo o before answer left =
    (answered_at answer (decoded left.words) ≡ o) × ((number_of answer ≡ 0 → ⊥) → left.words ≡ before.words)
