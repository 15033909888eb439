-- Where the code stands after lines: powerhit's machine, its buffer and the counts are what the lines came to.
use Rattle.std.specs.Prelude.{ℕ, List, ◌≡◌, get_or}
use Rattle.executing.specs.Called.{Machine}
use Rattle.number_text.specs.Text.{Put}
use Rattle.wear.specs.Performs.{Counts, NarrowMachine}
use Rattle.wear_lines.specs.Lines.{Work, act, response}

-- counts are kept as machine words
pub record Stands (m : Machine) (img counts : List ℕ) (w : Work) : Type 0 where
  pub machine : m ≡ w.machine
  pub image : img ≡ w.image
  pub sums : Counts counts (λ k. get_or w.worn k 0)

-- that a line brings the one to the other; no writer is wide after it
pub record Acts (m : Machine) (img counts line : List ℕ) (m' : Machine) (img' counts' : List ℕ) : Type 0 where
  pub stands : (w : Work) → Stands m img counts w → Stands m' img' counts' (act w line)
  pub narrow : NarrowMachine m'

-- the response to all that came, put at the start of a buffer; it depends on neither machine nor image
pub record PutResponse (counts out out' : List ℕ) (n : ℕ) : Type 0 where
  pub text : (m : Machine) (img : List ℕ) (w : Work) → Stands m img counts w → Put out 0 (response w) out' n
