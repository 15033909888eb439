-- A round in one call: begin, the writes of a list and a commit, each run to its end, one after the other; an abort behind the first refusal.
use Rattle.std.specs.Prelude.{◌≡◌, ℕ, ◌+◌, ◌%◌, ◌^◌, Bool, cond, ◌&&◌, List, [], ◌∷◌, drop, ◌==◌}
use Rattle.refinement.specs.Stores.{World}
use Rattle.refinement.specs.Calls.{world_of}
use Rattle.refinement.specs.Run.{Call, checkpoint, free, begin, abort, commit, run, write, Result, result, exec}
use Rattle.answers.specs.Answers.{Answer}
use Rattle.answers.specs.Answers.{answered_at}
use Rattle.state_words.specs.Decoded.{decoded}
use Rattle.call_round.specs.declared.Room.{Room}
use Rattle.call_round.specs.declared.Round.{Round}

-- a call with all the stores that it needs made
abbrev pub to_end : Result → Result
to_end d = record { number = d.number; stores = d.stores; world = (exec (run d.stores) d.world).world; target = d.target }

-- that an answer, with the words and the image after it, is what such a call comes to
abbrev pub Finishes : Call → List ℕ → List ℕ → Answer → List ℕ → List ℕ → Type 0
Finishes c words img a words' img' = result (answered_at a (decoded words')) img' ≡ to_end (exec c (world_of (decoded words) img))

-- what the calls so far came to: the world, the number of the last answer, which call of the list gave it (0 is begin, then the writes, then the commit),
-- and the stores made, as a machine word
pub record Played : Type 0 where
  pub world : World
  pub number : ℕ
  pub call : ℕ
  pub stores : ℕ

-- the code keeps the state's words and the image apart
abbrev pub played_of : Round → List ℕ → List ℕ → Played
played_of r words img = record { world = world_of (decoded words) img; number = r.number; call = r.call; stores = r.stores }

-- one call, and all the stores that it needs
unfoldable pub made : Call → Played → Played
made c t =
    let d = to_end (exec c t.world) in
    record { world = d.world; number = d.number; call = t.call; stores = (t.stores + d.stores) % 2 ^ 64 }

-- the next call of the list
abbrev pub next : Played → Played
next t = record { world = t.world; number = t.number; call = t.call + 1; stores = t.stores }

-- where the journal is full (19), and it is asked for, a checkpoint and the call again
unfoldable pub with_journal : Bool → Call → Played → Played
with_journal b c t = let u = made c t in cond (b && u.number == 19) (made c (made checkpoint u)) u

-- a write; where no slot is free (15), and it is asked for, one is freed, and where it was, the write again
unfoldable pub put : Room → Call → Played → Played
put r c t =
    let u = made c t in
    let f = with_journal r.checkpoint free u in
    cond (r.free && u.number == 15) (cond (f.number == 0) (made c f) f) u

-- the writes, as long as each is taken. Four numbers are a write: page, line, offset and length; fewer at the end are none. The bytes stand one after the other
unfoldable pub put_all : Room → ℕ → List ℕ → List ℕ → Played → Played
put_all r w (p ∷ l ∷ o ∷ n ∷ more) bytes t =
    let u = put r (write w p l o n bytes) (next t) in cond (u.number == 0) (put_all r w more (drop n bytes) u) u
put_all r w (p ∷ l ∷ o ∷ []) bytes t = t
put_all r w (p ∷ l ∷ []) bytes t = t
put_all r w (p ∷ []) bytes t = t
put_all r w [] bytes t = t

-- all of them taken, a commit
unfoldable pub committed : Room → ℕ → Played → Played
committed r w t = cond (t.number == 0) (with_journal r.checkpoint (commit w) (next t)) t

-- behind a refusal an abort; the answer is that of the refused call
unfoldable pub closed : ℕ → Played → Played
closed w t =
    cond (t.number == 0) t
    (record { world = (to_end (exec (abort w) t.world)).world; number = t.number; call = t.call; stores = t.stores })

-- before the first call
abbrev pub unplayed : World → Played
unplayed v = record { world = v; number = 0; call = 0; stores = 0 }

-- where begin is refused nothing follows it
unfoldable pub round_of : Room → ℕ → List ℕ → List ℕ → World → Played
round_of r w writes bytes v =
    let b = made (begin w) (unplayed v) in
    cond (b.number == 0) (closed w (committed r w (put_all r w writes bytes b))) b
