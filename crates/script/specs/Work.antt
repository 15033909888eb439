-- What the lines of an input came to in program powerhit, and all that is printed for them.
use Rattle.std.specs.Prelude.{ℕ, ◌+◌, ◌%◌, ◌^◌, cond, List, ◌++◌, leb, length}
use Rattle.executing.specs.Called.{Machine}
use Rattle.printing.specs.Output.{output_line}
use Rattle.script.specs.Listing.{text}
use Rattle.script.specs.Performed.{started, line_turn}

-- the machine, its image, how many the lines were, all that is printed, and how many of its last bytes are not yet handed to a write
pub record Work : Type 0 where
  pub machine : Machine
  pub image : List ℕ
  pub lines : ℕ
  pub printed : List ℕ
  pub waiting : ℕ

-- before a line all that waits is written where there may be too little room for what the line prints
abbrev pub roomed : ℕ → ℕ
roomed waiting = cond (leb waiting 65000) waiting 0

-- one line more; the count of lines is a machine word
unfoldable pub act : Work → List ℕ → Work
act w line =
    let n = (w.lines + 1) % 2 ^ 64 in
    let t = line_turn w.machine w.image line in
    let text = output_line n t.output in
    record {
      machine = t.machine;
      image = t.image;
      lines = n;
      printed = w.printed ++ text;
      waiting = roomed w.waiting + length text;
    }

-- before the first line the heading is printed
abbrev pub heading : List ℕ
heading = text "line,call,answer,stores,byte\n"

abbrev pub opening : List ℕ → Work
opening image = record { machine = started; image = image; lines = 0; printed = heading; waiting = 0 }
