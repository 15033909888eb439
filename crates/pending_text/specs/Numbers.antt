-- The numbers of the pending operation, as G prints them (PROBE.md).
use Rattle.std.specs.Prelude.{ℕ, cond, List, [], ◌∷◌, ◌++◌, eqb, get_or}
use Rattle.words.specs.Words.{bytes_of}
use Rattle.state.specs.declared.Op.TheVariants.{Idle, Write, Commit, Consolidate, Checkpoint, Event, Prepare, Confirm, Log, Copy, Format}
use Rattle.state.specs.declared.Op.{Op}
use Rattle.state.specs.declared.Pending.{Pending}
use Rattle.number_text.specs.Text.{each}
use Rattle.workbench.specs.Finished.{finished_lines}

-- the seven numbers of O, 0 for those that a kind does not have
abbrev pub op_numbers : Op → ℕ → List ℕ
op_numbers Idle made = 0 ∷ 0 ∷ 0 ∷ 0 ∷ 0 ∷ 0 ∷ 0 ∷ []
op_numbers (Write w p l o n) made = 1 ∷ w ∷ p ∷ l ∷ o ∷ n ∷ made ∷ []
op_numbers (Commit w) made = 2 ∷ w ∷ 0 ∷ 0 ∷ 0 ∷ 0 ∷ made ∷ []
op_numbers (Consolidate p) made = 3 ∷ p ∷ 0 ∷ 0 ∷ 0 ∷ 0 ∷ made ∷ []
op_numbers Checkpoint made = 4 ∷ 0 ∷ 0 ∷ 0 ∷ 0 ∷ 0 ∷ made ∷ []
op_numbers (Event k m a) made = 5 ∷ k ∷ m ∷ a ∷ 0 ∷ 0 ∷ made ∷ []
op_numbers (Prepare w) made = 6 ∷ w ∷ 0 ∷ 0 ∷ 0 ∷ 0 ∷ made ∷ []
op_numbers (Confirm w) made = 7 ∷ w ∷ 0 ∷ 0 ∷ 0 ∷ 0 ∷ made ∷ []
op_numbers (Log p l o n) made = 8 ∷ p ∷ l ∷ o ∷ n ∷ 0 ∷ made ∷ []
op_numbers Copy made = 9 ∷ 0 ∷ 0 ∷ 0 ∷ 0 ∷ 0 ∷ made ∷ []
op_numbers Format made = 10 ∷ 0 ∷ 0 ∷ 0 ∷ 0 ∷ 0 ∷ made ∷ []

-- the 64 bytes of a line of words
abbrev pub line_bytes : List ℕ → ℕ → List ℕ
line_bytes words i = bytes_of 8 (get_or words i 0)

abbrev pub line_numbers : List ℕ → List ℕ
line_numbers words = each 8 (line_bytes words)

-- the bytes of n finished lines, at most two
abbrev pub finished_numbers : ℕ → List ℕ → List ℕ → List ℕ
finished_numbers n line second = cond (eqb n 0) [] (line_numbers line ++ cond (eqb n 1) [] (line_numbers second))

abbrev pub pending_numbers : Pending → List ℕ
pending_numbers p = op_numbers p.op p.made ++ finished_numbers (finished_lines p.op) p.line p.second
