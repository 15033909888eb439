-- The lines that read and recall a line into t bytes, at first zero: R and E of PROBE.md. A taken one prints the hash of its 64 bytes.
use Rattle.std.specs.Prelude.{ℕ, ◌&&◌, cond, List, leb, eqb, take, replicate, Option}
use Rattle.state.specs.State.{State}
use Rattle.refinement.specs.Calls.{read_row, read_bytes}
use Rattle.refinement.specs.Recall.{recall_row, recall_bytes}
use Rattle.text.specs.declared.Line.{Line}
use Rattle.workbench.specs.Turns.{arg, formed_said}
use Rattle.workbench.specs.declared.Said.TheVariants.{Answered, Hash}
use Rattle.workbench.specs.declared.Said.{Said}
use Rattle.hashing.specs.Hash.{hash_of}

abbrev pub line_said : ℕ → List ℕ → Said
line_said row target = cond (eqb row 0) (Hash (hash_of (take 64 target))) (Answered row 0)

abbrev pub read_into : State → List ℕ → Line → List ℕ → Said
read_into st img line target =
    line_said (read_row st img (arg line 0) (arg line 1) (arg line 2) target) (read_bytes st img (arg line 0) (arg line 1) (arg line 2) target)

abbrev pub read_said : State → List ℕ → Line → Option Said
read_said st img line = formed_said (eqb line.count 4 && leb (arg line 3) 128) (read_into st img line (replicate (arg line 3) 0))

abbrev pub recall_into : List ℕ → Line → List ℕ → Said
recall_into img line target = line_said (recall_row img (arg line 0) (arg line 1) target) (recall_bytes img (arg line 0) (arg line 1) target)

abbrev pub recall_said : List ℕ → Line → Option Said
recall_said img line = formed_said (eqb line.count 3 && leb (arg line 2) 128) (recall_into img line (replicate (arg line 2) 0))
