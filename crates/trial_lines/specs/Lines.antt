-- The lines of request L11: a setting, then rounds; and the line that is printed.
use Rattle.std.specs.Prelude.{ℕ, ◌+◌, ◌%◌, Bool, false, not, cond, ◌||◌, List, [], ◌∷◌, ◌++◌, ltb, eqb, get_or, take, replicate}
use Prim.Native.Char.{code}
use Rattle.layout.specs.declared.Sizes.{Sizes}
use Rattle.refinement.specs.Calls.{world_of}
use Rattle.state_words.specs.Decoded.{decoded}
use Rattle.text.specs.declared.Line.{Line}
use Rattle.text.specs.Fields.{parsed}
use Rattle.decimals.specs.Decimal.{decimal_of}
use Rattle.number_text.specs.Text.{Put, field}
use Rattle.trials.specs.declared.Spent.{Spent}
use Rattle.trials.specs.declared.Trial.{Trial}
use Rattle.trials.specs.Trials.{Tried, trial_of, untried, formatted, as_abandoned, played}
use Rattle.trial_lines.specs.declared.Session.{Session}

-- what the lines so far came to; a taken setting is set
pub record Work : Type 0 where
  pub tried : Tried
  pub lines : ℕ
  pub set : Bool

-- the code keeps the state's words and the image apart
abbrev pub work_of : Session → List ℕ → List ℕ → Work
work_of s words img = record { tried = trial_of s.trial words img; lines = s.lines; set = s.set }

-- before the first line there is no store: its words are 0
unfoldable pub first : List ℕ → Work
first img = record { tried = untried (world_of (decoded (replicate 1280 0)) img); lines = 0; set = false }

-- a line's numbers, as powerhit reads them after a letter and a comma; a line of another form has none
abbrev pub prefixed : List ℕ → List ℕ
prefixed line = code "R" ∷ code "," ∷ line

abbrev pub numbers_of : List ℕ → Line
numbers_of line = parsed 9 (prefixed line)

-- ---- a line of these numbers

abbrev pub sizes_of : Line → Sizes
sizes_of q = record { pages = get_or q.numbers 0 0; slots = get_or q.numbers 1 0; places = get_or q.numbers 2 0; entries = 0 }

-- the first: three numbers, which format takes in the buffer as it is
unfoldable pub with_setting : Line → Work → Work
with_setting q w =
    let t = formatted (sizes_of q) w.tried.world in
    cond (eqb q.count 3) (record { tried = t; lines = 1; set = eqb t.number 0 }) (record { tried = w.tried; lines = 1; set = false })

-- 1 to 64 pages
abbrev pub is_round : Line → Bool
is_round q = not (ltb q.count 1 || ltb 64 q.count)

-- another: a round, whose number is that of the line among the rounds', or a round that is abandoned unbegun
unfoldable pub with_round : Line → Work → Work
with_round q w =
    record {
      tried = cond (is_round q) (played (take q.count q.numbers) (w.lines % 256) w.tried) (as_abandoned w.tried);
      lines = w.lines + 1;
      set = w.set;
    }

-- where the setting is refused, and past 1,000 rounds, no line is read
unfoldable pub acted : Line → Work → Work
acted q w =
    cond (eqb w.lines 0) (with_setting q w) (cond (not w.set || ltb 1000 w.lines) w (with_round q w))

abbrev pub act : Work → List ℕ → Work
act w line = acted (numbers_of line) w

-- ---- what is printed

-- data, journal with head, copies, tables with tail, each after a comma
abbrev pub spent_text : Spent → List ℕ
spent_text s = field s.written ++ (field s.journal ++ (field s.copies ++ field s.tables))

abbrev pub counts_text : Tried → List ℕ
counts_text t = decimal_of t.done ++ (field t.abandoned ++ (spent_text t.spent ++ (code "\n" ∷ [])))

unfoldable pub response : Work → List ℕ
response w = cond w.set (counts_text w.tried) (code "?" ∷ code "\n" ∷ [])

-- it depends on neither state nor image: put at the start of a buffer
pub record PutCounts (t : Trial) (out out' : List ℕ) (n : ℕ) : Type 0 where
  pub text : (words img : List ℕ) → Put out 0 (counts_text (trial_of t words img)) out' n

pub record PutResponse (s : Session) (out out' : List ℕ) (n : ℕ) : Type 0 where
  pub text : (words img : List ℕ) → Put out 0 (response (work_of s words img)) out' n
