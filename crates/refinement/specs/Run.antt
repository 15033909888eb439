-- Calls as data: one call of document 01 with its arguments, what it does to a state and an image, and lists of calls.
use Rattle.std.specs.Prelude.{ℕ, Bool, cond, List, [], ◌∷◌, eqb}
use Rattle.layout.specs.declared.Sizes.{Sizes}
use Rattle.fresh.specs.Fresh.{format_bytes}
use Rattle.state.specs.State.{State}
use Rattle.refinement.specs.Stores.{World}
use Rattle.refinement.specs.Outcome.{Outcome}
use Rattle.refinement.specs.Calls.{begin_of, begin_wide_of, abort_of, write_of, commit_of, prepare_of, confirm_of, withdraw_of, consolidate_of, free_of}
use Rattle.refinement.specs.Calls.{checkpoint_of, read_row, read_bytes, step_of, step_bytes, run_of, run_bytes, event_of, load_of}
use Rattle.refinement.specs.Mount.{mount_call, format_call}
use Rattle.refinement.specs.Recall.{recall_row, recall_bytes}

-- the calls that may follow a taken format
pub data Call : Type 0 where
  mount checkpoint free step : Call
  begin begin_wide abort commit prepare confirm withdraw consolidate run : ℕ → Call
  -- writer, page, line, offset, length, data
  write : ℕ → ℕ → ℕ → ℕ → ℕ → List ℕ → Call
  -- writer, page, line, the target's bytes
  read : ℕ → ℕ → ℕ → List ℕ → Call
  -- page, line, the target's bytes
  recall : ℕ → ℕ → List ℕ → Call
  -- the moduli lent, kind, meter, amount
  event : List ℕ → ℕ → ℕ → ℕ → Call
  -- the text of the moduli
  load : List ℕ → Call

-- the number and the stores of a call's answer, the world after it, and the target after it, of a load the moduli
pub record Result : Type 0 where
  pub number : ℕ
  pub stores : ℕ
  pub world : World
  pub target : List ℕ

abbrev pub result : Outcome → List ℕ → Result
result o img = record { number = o.number; stores = o.stores; world = record { st = o.state; image = img }; target = [] }

-- mount: after a refusal the state stays the one last returned
abbrev pub replaces : Outcome → World → Result
replaces o v =
    record { number = o.number; stores = o.stores; world = record { st = cond (eqb o.number 0) o.state v.st; image = v.image }; target = [] }

unfoldable pub exec : Call → World → Result
exec mount v = replaces (mount_call v.image) v
exec checkpoint v = result (checkpoint_of v.st v.image) v.image
exec free v = result (free_of v.st v.image) v.image
exec step v = result (step_of v.st v.image) (step_bytes v.st v.image)
exec (begin w) v = result (begin_of v.st w) v.image
exec (begin_wide w) v = result (begin_wide_of v.st w) v.image
exec (abort w) v = result (abort_of v.st w) v.image
exec (commit w) v = result (commit_of v.st v.image w) v.image
exec (prepare w) v = result (prepare_of v.st v.image w) v.image
exec (confirm w) v = result (confirm_of v.st v.image w) v.image
exec (withdraw w) v = result (withdraw_of v.st v.image w) v.image
exec (consolidate p) v = result (consolidate_of v.st v.image p) v.image
exec (run k) v = result (run_of v.st v.image k) (run_bytes v.st v.image k)
exec (write w p l o n bytes) v = result (write_of v.st v.image w p l o n bytes) v.image
exec (read w p l target) v =
    record { number = read_row v.st v.image w p l target; stores = 0; world = v; target = read_bytes v.st v.image w p l target }
exec (recall p l target) v =
    record { number = recall_row v.image p l target; stores = 0; world = v; target = recall_bytes v.image p l target }
exec (event ms k m a) v = result (event_of v.st v.image ms k m a) v.image
exec (load text) v = let o = load_of v.st v.image text in record { number = o.number; stores = 0; world = v; target = o.moduli }

-- where a format leaves the bytes lent and the state
abbrev pub formatted_world : Sizes → List ℕ → World
formatted_world z buffer = record { st = (format_call z buffer).state; image = format_bytes z buffer }

-- the world after a list of calls
unfoldable pub after : List Call → World → World
after [] v = v
after (c ∷ cs) v = after cs (exec c v).world
