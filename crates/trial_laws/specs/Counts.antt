-- The six numbers that are printed are plain sums over the calls that the rounds make, one by one: natural numbers, without a bound and without a remainder
-- (the counts are machine words: trials, `sum`).
use Rattle.std.specs.Prelude.{ℕ, ◌+◌, ◌%◌, ◌≤◌, Bool, true, cond, ◌&&◌, List, [], ◌∷◌, ◌++◌, ◌≡◌, eqb, length, take}
use Prim.Native.Char.{code}
use Rattle.refinement.specs.Run.{exec}
use Rattle.decimals.specs.Decimal.{decimal_of}
use Rattle.number_text.specs.Text.{field}
use Rattle.text.specs.declared.Line.{Line}
use Rattle.trials.specs.declared.Ask.{Ask}
use Rattle.trials.specs.declared.Ask.TheVariants.{Begin, Write, Free, Checkpoint, Commit, Abort}
use Rattle.trials.specs.declared.Spent.{Spent}
use Rattle.trials.specs.Trials.{call_of, nothing, stores_for, Tried, made, with_room, put, put_all}
use Rattle.trial_lines.specs.Lines.{Work, first, numbers_of, is_round, act, spent_text, response}
use Rattle.trial_laws.specs.Pages.{after}
use Rattle.trial_laws.specs.Ends.{last_of}
use Rattle.trial_laws.specs.Inputs.{worked, setting_of, rounds_of}

-- every count is at most b
pub record Within (b : ℕ) (s : Spent) : Type 0 where
  pub written : s.written ≤ b
  pub journal : s.journal ≤ b
  pub copies : s.copies ≤ b
  pub tables : s.tables ≤ b

-- a sum without remainders
abbrev pub exactly : Spent → Spent → Spent
exactly s t =
    record {
      written = s.written + t.written;
      journal = s.journal + t.journal;
      copies = s.copies + t.copies;
      tables = s.tables + t.tables;
    }

-- ---- the stores of the calls, call by call as trials makes them

abbrev pub of_call : Ask → Tried → Spent
of_call a t = stores_for a (exec (call_of a) t.world).stores

-- on 19 a checkpoint's, and the call's again
unfoldable pub of_room : Ask → Tried → Spent
of_room a t =
    let u = made a t in
    exactly (of_call a t) (cond (eqb u.number 19) (exactly (of_call Checkpoint u) (of_call a (made Checkpoint u))) nothing)

-- a page's: on 15 those of the freeing of a slot, and where one was the write's again
unfoldable pub of_page : ℕ → ℕ → Tried → Spent
of_page b p t =
    let u = made (Write p b) t in
    let f = with_room Free u in
    exactly (of_call (Write p b) t) (cond (eqb u.number 15) (exactly (of_room Free u) (cond (eqb f.number 0) (of_call (Write p b) f) nothing)) nothing)

unfoldable pub of_pages : ℕ → List ℕ → Tried → Spent
of_pages b [] t = nothing
of_pages b (p ∷ ps) t = let u = put b p t in exactly (of_page b p t) (cond (eqb u.number 0) (of_pages b ps u) nothing)

-- a round's: a begin, the pages, where all are written a commit, and where it is not done an abort
unfoldable pub of_round : List ℕ → ℕ → Tried → Spent
of_round ps b t =
    let w = put_all b ps (made Begin t) in
    exactly (of_call Begin t)
    (exactly (of_pages b ps (made Begin t))
    (exactly (cond (eqb w.number 0) (of_room Commit w) nothing) (cond (eqb (last_of ps b t).number 0) nothing (of_call Abort (last_of ps b t)))))

-- ---- lines: those of another form are rounds abandoned unbegun

abbrev pub pages_in : Line → List ℕ
pages_in q = take q.count q.numbers

unfoldable pub of_lines : List (List ℕ) → Work → Spent
of_lines [] w = nothing
of_lines (line ∷ lines) w =
    let q = numbers_of line in
    exactly (cond (is_round q) (of_round (pages_in q) (w.lines % 256) w.tried) nothing) (of_lines lines (act w line))

abbrev pub is_done : Line → Work → Bool
is_done q w = is_round q && eqb (last_of (pages_in q) (w.lines % 256) w.tried).number 0

unfoldable pub done_in : List (List ℕ) → Work → ℕ
done_in [] w = 0
done_in (line ∷ lines) w = cond (is_done (numbers_of line) w) 1 0 + done_in lines (act w line)

unfoldable pub abandoned_in : List (List ℕ) → Work → ℕ
abandoned_in [] w = 0
abandoned_in (line ∷ lines) w = cond (is_done (numbers_of line) w) 0 1 + abandoned_in lines (act w line)

-- ---- the statement

-- the six numbers
abbrev pub plain_text : List (List ℕ) → Work → List ℕ
plain_text rounds w =
    decimal_of (done_in rounds w) ++ (field (abandoned_in rounds w) ++ (spent_text (of_lines rounds w) ++ (code "\n" ∷ [])))

-- they are printed; and no sum of stores is large: no call of a round needs more than 262, and a round makes at most 325 calls
pub record Plain (buffer input : List ℕ) : Type 0 where
  pub printed : response (worked buffer input) ≡ plain_text (rounds_of input) (act (first buffer) (setting_of input))
  pub low : Within 85150000 (of_lines (rounds_of input) (act (first buffer) (setting_of input)))

-- of every input whose setting is taken, rounds abandoned or not
abbrev pub CountsPlain : Type 0
CountsPlain = (buffer input : List ℕ) → (worked buffer input).set ≡ true → Plain buffer input

-- every round is counted, once: as done or as abandoned
abbrev pub RoundsCounted : Type 0
RoundsCounted =
    (buffer setting : List ℕ) (rounds : List (List ℕ)) → (act (first buffer) setting).set ≡ true → length rounds ≤ 1000
    → (let t = (after rounds (act (first buffer) setting)).tried in t.done + t.abandoned ≡ length rounds)
