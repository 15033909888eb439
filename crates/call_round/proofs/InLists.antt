-- A round is a list of calls.
use Rattle.std.proofs.Common.{◌≡◌, ℕ, Bool, ◌&&◌, eqb, List, [], ◌∷◌, ◌++◌, drop, refl, ap, ◌∙◌}
use Rattle.bounded.proofs.Tests.{row_keeps}
use Rattle.refinement.specs.Stores.{World}
use Rattle.refinement.specs.Run.{Call, checkpoint, free, begin, abort, commit, run, write, Result, exec, after}
use Rattle.call_round.specs.declared.Room.{Room}
use Rattle.call_round.specs.Round.{Played, made, next, with_journal, put, put_all, committed, closed, unplayed, round_of}
use Rattle.call_round.specs.InLists.{Listed, InLists}

after-joined : (cs ds : List Call) (v : World) → after (cs ++ ds) v ≡ after ds (after cs v)
unfolding after
after-joined [] ds v = refl
after-joined (c ∷ cs) ds v = after-joined cs ds (exec c v).world

-- a list goes on
on : (v u x : World) → Listed v u → Listed u x → Listed v x
on v u x a b = record { calls = a.calls ++ b.calls; come-to = after-joined a.calls b.calls v ∙ ap (after b.calls) a.come-to ∙ b.come-to }

-- a call run to its end is two calls
call-listed : (c : Call) (u : World) → let d : Result = exec c u in Listed u (exec (run d.stores) d.world).world
unfolding after
call-listed c u = let d : Result = exec c u in record { calls = c ∷ run d.stores ∷ []; come-to = refl }

module _ (v : World) where
  abbrev Come : Played → Type 0
  Come t = Listed v t.world

  made-listed : (c : Call) (t : Played) → Come t → Come (made c t)
  unfolding made
  made-listed c t h = on v t.world (made c t).world h (call-listed c t.world)

  journal-listed : (b : Bool) (c : Call) (t : Played) → Come t → Come (with_journal b c t)
  unfolding with_journal
  journal-listed b c t h =
      let u = made c t in
      let k = made-listed c t h in
      row_keeps Come (b && eqb u.number 19) (made c (made checkpoint u)) u (made-listed c (made checkpoint u) (made-listed checkpoint u k)) k

  put-listed : (r : Room) (c : Call) (t : Played) → Come t → Come (put r c t)
  unfolding put
  put-listed r c t h =
      let u = made c t in
      let k = made-listed c t h in
      let f = with_journal r.checkpoint free u in
      let g = journal-listed r.checkpoint free u k in
      row_keeps Come (r.free && eqb u.number 15) _ u (row_keeps Come (eqb f.number 0) (made c f) f (made-listed c f g) g) k

  all_listed : (r : Room) (w : ℕ) (ws bytes : List ℕ) (t : Played) → Come t → Come (put_all r w ws bytes t)
  unfolding put_all
  all_listed r w [] bytes t h = h
  all_listed r w (p ∷ []) bytes t h = h
  all_listed r w (p ∷ l ∷ []) bytes t h = h
  all_listed r w (p ∷ l ∷ o ∷ []) bytes t h = h
  all_listed r w (p ∷ l ∷ o ∷ n ∷ more) bytes t h =
      let u = put r (write w p l o n bytes) (next t) in
      let k = put-listed r (write w p l o n bytes) (next t) h in
      row_keeps Come (eqb u.number 0) (put_all r w more (drop n bytes) u) u (all_listed r w more (drop n bytes) u k) k

  committed-listed : (r : Room) (w : ℕ) (t : Played) → Come t → Come (committed r w t)
  unfolding committed
  committed-listed r w t h =
      row_keeps Come (eqb t.number 0) (with_journal r.checkpoint (commit w) (next t)) t (journal-listed r.checkpoint (commit w) (next t) h) h

  closed-listed : (w : ℕ) (t : Played) → Come t → Come (closed w t)
  unfolding closed
  closed-listed w t h = row_keeps Come (eqb t.number 0) t _ h (on v t.world _ h (call-listed (abort w) t.world))

pub round-in-lists : InLists
unfolding round_of after
round-in-lists r w writes bytes v =
    let b = made (begin w) (unplayed v) in
    let first : Listed v v = record { calls = []; come-to = refl } in
    let h = made-listed v (begin w) (unplayed v) first in
    let y = put_all r w writes bytes b in
    let all = all_listed v r w writes bytes b h in
    row_keeps (λ (t : Played). Listed v t.world) (eqb b.number 0) (closed w (committed r w y)) b
    (closed-listed v w (committed r w y) (committed-listed v r w y all)) h
