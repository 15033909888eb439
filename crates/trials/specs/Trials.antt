-- Rounds tried on a store of one setting (request L11): each round is one transaction by writer 0, made of document 01's calls, each run to its end.
use Rattle.std.specs.Prelude.{◌≡◌, ℕ, ◌+◌, ◌-◌, ◌%◌, ◌^◌, cond, List, [], ◌∷◌, ◌==◌, nat_lt}
use Rattle.layout.specs.declared.Sizes.{Sizes}
use Rattle.fresh.specs.Fresh.{format_bytes}
use Rattle.refinement.specs.Stores.{World}
use Rattle.refinement.specs.Calls.{world_of}
use Rattle.refinement.specs.Mount.{format_call}
use Rattle.refinement.specs.Run.{Call, checkpoint, free, begin, abort, commit, run, write, Result, result, exec}
use Rattle.answers.specs.Answers.{Answer}
use Rattle.answers.specs.Answers.{answered_at}
use Rattle.state_words.specs.Decoded.{decoded}
use Rattle.call_mount.specs.Replacing.{replacing}
use Rattle.trials.specs.declared.Ask.{Ask}
use Rattle.trials.specs.declared.Ask.TheVariants.{Begin, Write, Free, Checkpoint, Commit, Abort}
use Rattle.trials.specs.declared.Spent.{Spent}
use Rattle.trials.specs.declared.Trial.{Trial}

-- the calls: a write puts one byte at the start of line 0
abbrev pub call_of : Ask → Call
call_of Begin = begin 0
call_of (Write p b) = write 0 p 0 0 1 (b ∷ [])
call_of Free = free
call_of Checkpoint = checkpoint
call_of Commit = commit 0
call_of Abort = abort 0

-- a call with all the stores that it needs made
abbrev pub to_end : Result → Result
to_end d = record { number = d.number; stores = d.stores; world = (exec (run d.stores) d.world).world; target = d.target }

-- that an answer, with the words and the image after it, is what such a call comes to
abbrev pub Finishes : Call → List ℕ → List ℕ → Answer → List ℕ → List ℕ → Type 0
Finishes c words img a words' img' = result (answered_at a (decoded words')) img' ≡ to_end (exec c (world_of (decoded words) img))

-- ---- stores by what they are for

abbrev pub nothing : Spent
nothing = record { written = 0; journal = 0; copies = 0; tables = 0 }

-- n stores of a call that is run to its end (a refused one has none). A write's are data. A commit's are its records and head: journal. Of a
-- consolidation's 8c + 6 the first 8c copy lines, one is the page table's, and the freeing record's four with head are the journal's. A
-- checkpoint's are the slot table's and tail
unfoldable pub stores_for : Ask → ℕ → Spent
stores_for Begin n = nothing
stores_for (Write p b) n = record { written = n; journal = 0; copies = 0; tables = 0 }
stores_for Free n = cond (nat_lt n 6) nothing (record { written = 0; journal = 5; copies = n - 6; tables = 1 })
stores_for Checkpoint n = record { written = 0; journal = 0; copies = 0; tables = n }
stores_for Commit n = record { written = 0; journal = n; copies = 0; tables = 0 }
stores_for Abort n = nothing

-- a count is a machine word
abbrev pub sum : ℕ → ℕ → ℕ
sum a b = (a + b) % 2 ^ 64

unfoldable pub plus : Spent → Spent → Spent
plus s t =
    record {
      written = sum s.written t.written;
      journal = sum s.journal t.journal;
      copies = sum s.copies t.copies;
      tables = sum s.tables t.tables;
    }

-- ---- what the calls so far came to

pub record Tried : Type 0 where
  pub world : World
  -- of the last call's answer
  pub number : ℕ
  pub spent : Spent
  -- rounds
  pub done : ℕ
  pub abandoned : ℕ

-- the code keeps the state's words and the image apart
abbrev pub trial_of : Trial → List ℕ → List ℕ → Tried
trial_of t words img =
    record { world = world_of (decoded words) img; number = t.number; spent = t.spent; done = t.done; abandoned = t.abandoned }

-- before the first call
abbrev pub untried : World → Tried
untried v = record { world = v; number = 0; spent = nothing; done = 0; abandoned = 0 }

-- a format; its stores are not counted. Where it is refused the world stays
unfoldable pub formatted : Sizes → World → Tried
formatted z v =
    let o = format_call z v.image in
    record {
      world = world_of (replacing v.st o).state (format_bytes z v.image);
      number = o.number;
      spent = nothing;
      done = 0;
      abandoned = 0;
    }

-- one call, and all the stores that it needs
unfoldable pub made : Ask → Tried → Tried
made a t =
    let d = to_end (exec (call_of a) t.world) in
    record {
      world = d.world;
      number = d.number;
      spent = plus t.spent (stores_for a d.stores);
      done = t.done;
      abandoned = t.abandoned;
    }

-- on 19 a checkpoint, and the call again
unfoldable pub with_room : Ask → Tried → Tried
with_room a t = let u = made a t in cond (u.number == 19) (made a (made Checkpoint u)) u

-- ---- a round

-- a page is written; on 15 a slot is freed, and where one was the write is made again
unfoldable pub put : ℕ → ℕ → Tried → Tried
put b p t =
    let u = made (Write p b) t in
    let f = with_room Free u in
    cond (u.number == 15) (cond (f.number == 0) (made (Write p b) f) f) u

-- the pages one after the other, as long as each is written
unfoldable pub put_all : ℕ → List ℕ → Tried → Tried
put_all b [] t = t
put_all b (p ∷ ps) t = let u = put b p t in cond (u.number == 0) (put_all b ps u) u

-- all of them written, a commit
unfoldable pub committed : Tried → Tried
committed t = cond (t.number == 0) (with_room Commit t) t

-- rounds are counted up to 1,000: there are no more
abbrev pub counted : ℕ → ℕ
counted n = cond (nat_lt n 1000) (n + 1) n

unfoldable pub as_done : Tried → Tried
as_done t =
    record { world = t.world; number = t.number; spent = t.spent; done = counted t.done; abandoned = t.abandoned }

unfoldable pub as_abandoned : Tried → Tried
as_abandoned t =
    record { world = t.world; number = t.number; spent = t.spent; done = t.done; abandoned = counted t.abandoned }

-- the round is done, or what came last was refused (a write 11, the freeing of a slot 22) and it is abandoned by abort
unfoldable pub played : List ℕ → ℕ → Tried → Tried
played ps b t =
    let u = committed (put_all b ps (made Begin t)) in
    cond (u.number == 0) (as_done u) (as_abandoned (made Abort u))
