-- The operation that a line of O describes, by the numbers that stand in the words.
use Prim.Native.Nat.{ℕ, ◌≤◌}
use mathlib.Core.Bool.{false}
use mathlib.Core.List.{[], ◌∷◌}
use mathlib.Core.Path.{◌≡◌, ◌∙◌}
use borrow.Author.Tests.{ne_eqb, le-ltb}
use Rattle.operations.specs.Operations.{is_idle}
use Rattle.state_words.specs.Decoded.{op_by}
use Rattle.state_words.proofs.PendingLaws.{op-idle}
use Rattle.text.specs.declared.Line.{Line}
use Rattle.workbench.specs.Turns.{arg}
use Rattle.pending_edits.specs.Edits.{pending_in, pending_of}

-- a number from 1 to 10 is an operation's
pub described-busy : (k a b c d e : ℕ) → (k ≡ 0 → ⊥) → k ≤ 10 → is_idle (op_by k a b c d e) ≡ false
described-busy k a b c d e n l = op-idle k a b c d e ∙ rw (ne_eqb k 0 n, le-ltb 10 k l)

pub described : (line : Line) (k : ℕ) → arg line 0 ≡ k → (k ≡ 0 → ⊥)
    → pending_in (k ∷ arg line 1 ∷ arg line 2 ∷ arg line 3 ∷ arg line 4 ∷ arg line 5 ∷ arg line 6 ∷ 0 ∷ []) ≡ pending_of line
described line k e n = rw (e, ne_eqb k 0 n)
