-- Witnesses of the theorems with premises (demand 3, the meters, L3's last sentence): for each a list of calls on the smallest image that meets the premises
-- and in which something happens. What happens is computed, or follows from the theorem and what is computed.
use Rattle.std.specs.Prelude.{ℕ, zero, suc, ◌+◌, ◌/◌, ◌%◌, cond, List, [], ◌∷◌, ◌++◌, ◌≡◌, ltb, take, replicate}
use Rattle.meters.specs.Meters.{fixed_moduli}
use Rattle.refinement.specs.Stores.{World}
use Rattle.refinement.specs.Run.{Call, mount, begin, commit, run, read, recall, event, load, exec, after}
use Rattle.refinement.specs.Reference.{blank}
use Rattle.refinement.specs.Statement.{AllLent}
use Rattle.refinement.specs.Totals.{Move, AllSpare, AllLend, NoLoad, found, account, history, opened}
use Rattle.refinement.specs.Before.{Whole, through, exec_before, played, AllBytes}
use Rattle.refinement.specs.Witness.{fresh, put, zeros}

-- ---- demand 3: a commit is cut after four of its five stores, and a read shows the old byte; then it is made whole, and a recall shows the new one

abbrev pub cut_and_whole : List Call
cut_and_whole =
    (begin 0 ∷ put ∷ run 8 ∷ commit 0 ∷ run 4 ∷ mount ∷ read 1 0 0 zeros ∷ [])
    ++ (begin 0 ∷ put ∷ run 8 ∷ commit 0 ∷ run 5 ∷ recall 0 0 zeros ∷ [])

-- of each call of a list the number, the stores and the first byte of its target
unfoldable pub seen : List Call → World → List (List ℕ)
seen [] v = []
seen (c ∷ cs) v = let d = exec c v in (d.number ∷ d.stores ∷ take 1 d.target) ∷ seen cs d.world

abbrev pub sights : List (List ℕ)
sights =
    ((0 ∷ 0 ∷ []) ∷ (0 ∷ 8 ∷ []) ∷ (0 ∷ 8 ∷ []) ∷ (0 ∷ 5 ∷ []) ∷ (0 ∷ 4 ∷ []) ∷ (0 ∷ 0 ∷ []) ∷ (0 ∷ 0 ∷ 0 ∷ []) ∷ [])
    ++ ((0 ∷ 0 ∷ []) ∷ (0 ∷ 8 ∷ []) ∷ (0 ∷ 8 ∷ []) ∷ (0 ∷ 5 ∷ []) ∷ (0 ∷ 5 ∷ []) ∷ (0 ∷ 0 ∷ 165 ∷ []) ∷ [])

pub record CommitCut : Type 0 where
  pub lent : AllLent cut_and_whole
  pub shown : seen cut_and_whole fresh ≡ sights

-- ---- the meters: cash in of 60, by the fixed moduli, and with 100 loaded for each meter

abbrev pub cash_in : List ℕ → List Call
cash_in ms = event ms 1 0 60 ∷ run 21 ∷ []

abbrev pub paid : List Move
paid = record { kind = 1; meter = 0; amount = 60 } ∷ []

-- the text `0,100` to `23,100`: from line m on, n lines
unfoldable pub digits : ℕ → List ℕ
digits m = cond (ltb m 10) ((48 + m) ∷ []) ((48 + m / 10) ∷ (48 + m % 10) ∷ [])

unfoldable pub hundreds : ℕ → ℕ → List ℕ
hundreds m zero = []
hundreds m (suc n) = digits m ++ (44 ∷ 49 ∷ 48 ∷ 48 ∷ 10 ∷ hundreds (m + 1) n)

abbrev pub loaded_cash_in : List Call
loaded_cash_in = load (hundreds 0 24) ∷ cash_in (replicate 24 100)

pub record MetersMove : Type 0 where
  pub lent : AllLent loaded_cash_in
  pub spared : AllSpare loaded_cash_in fresh
  pub lends : AllLend loaded_cash_in fresh fixed_moduli
  pub completed : (account loaded_cash_in fresh blank opened).all ≡ paid
  pub credit : found (after loaded_cash_in fresh) 0 ≡ 60

pub record FixedMetersMove : Type 0 where
  pub lent : AllLent (cash_in fixed_moduli)
  pub spared : AllSpare (cash_in fixed_moduli) fresh
  pub lends : AllLend (cash_in fixed_moduli) fresh fixed_moduli
  pub unloaded : NoLoad (cash_in fixed_moduli) fresh
  pub completed : history (cash_in fixed_moduli) fresh blank ≡ paid
  pub credit : found (after (cash_in fixed_moduli) fresh) 0 ≡ 60

-- ---- L3's last sentence: a byte is written twice, and the second write changes nothing

abbrev pub twice : List Whole
twice = through (begin 0) ∷ through put ∷ through put ∷ through (commit 0) ∷ []

abbrev pub once : List Whole
once = through (begin 0) ∷ through put ∷ []

pub record WriteIdle : Type 0 where
  pub bytes : AllBytes twice
  pub now : (exec put (played exec once fresh)).stores ≡ 0
  pub before : (exec_before put (played exec_before once fresh)).stores ≡ 8
  pub same : played exec twice fresh ≡ played exec_before twice fresh
