-- How a round ends (request L11): its commit is taken, or a write is turned back with 11, or the freeing of a slot with 22; by no other number.
use Rattle.std.specs.Prelude.{ℕ, ◌<◌, ◌≤◌, true, List, ◌⊎◌, ◌≡◌}
use Rattle.words.specs.Words.{Bytes}
use Rattle.trials.specs.declared.Ask.TheVariants.{Begin, Write, Free, Abort}
use Rattle.trials.specs.Trials.{Tried, made, put_all, committed}
use Rattle.trial_lines.specs.Lines.{first, numbers_of, sizes_of, act}
use Rattle.trial_laws.specs.Pages.{after}

-- what a round's calls came to, an abort apart (trials, `played`): 0 is the number of its commit
abbrev pub last_of : List ℕ → ℕ → Tried → Tried
last_of ps b t = committed (put_all b ps (made Begin t))

-- the last of them is a write, to a page that the setting does not have, with 11; or the freeing of a slot, with 22
pub data Stopped (pages b : ℕ) (t : Tried) : Type 0 where
  by-write : (u : Tried) (p : ℕ) → t ≡ made (Write p b) u → t.number ≡ 11 → pages ≤ p → Stopped pages b t
  by-freeing : (u : Tried) → t ≡ made Free u → t.number ≡ 22 → Stopped pages b t

-- the round is done or stopped, and a stopped one's abort is taken
pub record Ends (pages : ℕ) (ps : List ℕ) (b : ℕ) (t : Tried) : Type 0 where
  pub last : ((last_of ps b t).number ≡ 0) ⊎ Stopped pages b (last_of ps b t)
  pub aborted : ((last_of ps b t).number ≡ 0 → ⊥) → (made Abort (last_of ps b t)).number ≡ 0

-- every setting that format takes in a buffer of bytes, any lines before it, whether rounds or not, done or abandoned, and any pages
abbrev pub RoundsEnd : Type 0
RoundsEnd =
    (buffer setting : List ℕ) (rounds : List (List ℕ)) → Bytes buffer → (act (first buffer) setting).set ≡ true
    → (ps : List ℕ) (b : ℕ) → b < 256 → Ends (sizes_of (numbers_of setting)).pages ps b (after rounds (act (first buffer) setting)).tried
