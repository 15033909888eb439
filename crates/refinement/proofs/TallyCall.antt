-- The tally of the events completed holds after every call.
use Prim.Native.Nat.{ℕ, zero, suc, ◌-◌, ◌%◌, ◌≤◌}
use mathlib.Core.Bool.{false, cond, not}
use mathlib.Core.List.{List, []}
use mathlib.Core.Path.{◌≡◌, refl, sym, ap, ◌∙◌, subst}
use native.Mathlib.Nat.{mod-eq_of_lt}
use native.Mathlib.Omega.{arith}
use lib.Dec.{eqb, eqb-suc-zero}
use borrow.Author.Tests.{lt-ltb, eq-eqb}
use Rattle.bounded.specs.Rows.{refusal}
use Rattle.bounded.proofs.Rows.{none-apply}
use Rattle.bounded.proofs.Tests.{contradicts, row_keeps, row-yes}
use Rattle.meters.specs.Meters.{modulus_of, event_needs}
use Rattle.operations.specs.Operations.{is_idle}
use Rattle.operations.proofs.Taken.{event-taken}
use Rattle.refinement.specs.Stores.{World}
use Rattle.refinement.specs.Calls.{commit_call_rows, commit_of, prepare_call_rows, prepare_of, confirm_call_rows, confirm_of, withdraw_of, consolidate_call_rows, consolidate_of, free_call_rows, free_of, checkpoint_call_rows, checkpoint_of, write_of, event_call_rows, event_of, load_rows, load_of}
use Rattle.refinement.specs.Run.{Call, mount, checkpoint, free, step, begin, begin_wide, abort, commit, prepare, confirm, withdraw, consolidate, run, write, read, recall, event, load, exec}
use Rattle.refinement.specs.Reference.{Reference, Cell, none, idle, under, writing, committing, moving, nothing, with_work, emptied, meter_on, starts, starts_copy, taken, turn}
use Rattle.refinement.specs.Totals.{Move, completes, total, Spares, loads, found, Account, gained, loaded, next, Lends}
use Rattle.refinement.proofs.AskEvent.{facts}
use Rattle.refinement.proofs.Cases.{Invariant, standing-of}
use Rattle.refinement.proofs.CaseSound.{call-sound}
use Rattle.refinement.proofs.EventCalls.{starts-some}
use Rattle.refinement.proofs.EventRows.{event-some, event-op-row, event-moduli}
use Rattle.refinement.proofs.WriterCalls.{write-first}
use Rattle.refinement.proofs.Tally.{WorkFits, Tally, no_move, starts-tally, copy-starts-tally, advance}

-- a refused call completes nothing
none-completed : (c : Call) (n : ℕ) (b : Reference) → completes c (suc n) b ≡ []
none-completed mount n b = refl
none-completed checkpoint n b = refl
none-completed free n b = refl
none-completed step n b = refl
none-completed (begin w) n b = refl
none-completed (begin_wide w) n b = refl
none-completed (abort w) n b = refl
none-completed (commit w) n b = refl
none-completed (prepare w) n b = refl
none-completed (confirm w) n b = refl
none-completed (withdraw w) n b = refl
none-completed (consolidate p) n b = refl
none-completed (run k) n b = refl
none-completed (write w p l o i bytes) n b = refl
none-completed (read w p l target) n b = refl
none-completed (recall p l target) n b = refl
none-completed (event ms k m a) n b = refl
none-completed (load text) n b = refl

-- nor loads
none-loaded : (c : Call) (n : ℕ) → loads c (suc n) ≡ false
none-loaded (load text) n = eqb-suc-zero n
none-loaded mount n = refl
none-loaded checkpoint n = refl
none-loaded free n = refl
none-loaded step n = refl
none-loaded (begin w) n = refl
none-loaded (begin_wide w) n = refl
none-loaded (abort w) n = refl
none-loaded (commit w) n = refl
none-loaded (prepare w) n = refl
none-loaded (confirm w) n = refl
none-loaded (withdraw w) n = refl
none-loaded (consolidate p) n = refl
none-loaded (run k) n = refl
none-loaded (write w p l o i bytes) n = refl
none-loaded (read w p l target) n = refl
none-loaded (recall p l target) n = refl
none-loaded (event ms k m a) n = refl

-- d being the result of c in v
by_number : (c : Call) (x n : ℕ) (ms : List ℕ) (v : World) (b : Reference) (h : Account) → Tally b h
    → (x ≡ 0 → Tally (taken c n b) (cond (loads c 0) (loaded h ms v) (gained h (completes c 0 b))))
    → Tally (turn c x n b) (cond (loads c x) (loaded h ms v) (gained h (completes c x b)))
by_number c zero n ms v b h T f = f refl
by_number c (suc x) n ms v b h T f =
    rw (none-loaded c x) (subst (λ (es : List Move). Tally b (gained h es)) (sym (none-completed c x b)) (no_move b h T))

module _ {past : List ℕ} (v : World) (b : Reference) (h : Account) (R : Invariant past v b) (finds : (m : ℕ) → m ≤ 23 → found v m ≡ meter_on b m) (T : Tally b h) where
  -- nothing is under way where an operation is asked for
  quiet : not (is_idle v.st.pending.op) ≡ false → b.work ≡ idle
  quiet = (standing-of v b R).work-idle

  event-tally : (ms : List ℕ) (k m a : ℕ) → ms ≡ h.moduli → refusal (event_call_rows v.st v.image ms k m a) ≡ 0 → Tally (starts (moving ms k m a) (event_needs k) b) (gained h [])
  event-tally ms k m a s e =
      let st = v.st in
      let img = v.image in
      let E = event-taken st k m a (event-op-row st img ms k m a e) in
      let q = (standing-of v b R).quiet (none-apply (event_call_rows st img ms k m a) (omega arith) e).1.1.0 (λ l. contradicts (lt-ltb st.wide.writer 4 l) E.none-wide) in
      let machine = with_work (under (moving ms k m a) (event_needs k)) b in
      let T' : Tally machine h =
      record { clean = T.clean; adds = T.adds; fits = (s, E.known, event-moduli st img ms k m a e, (facts st img b ms k m a q e).amount) } in
      subst (λ (c : Reference). Tally c (gained h [])) (sym (starts-some (moving ms k m a) (event_needs k) b (event-some k))) (no_move machine h T')

  -- a load: every meter starts from its number
  load-tally : (text : List ℕ) → (exec (load text) v).number ≡ 0 → Tally b (loaded h (exec (load text) v).target v)
  unfolding exec load_of total
  load-tally text e =
      let ms : List ℕ = (exec (load text) v).target in
      let below = (call-sound (load text) tt v b R).right e in
      let idle-work = quiet (none-apply (load_rows v.st v.image text) (omega arith) e).1.1.0 in
      record {
        clean = T.clean;
        adds =
            record {
              credit = T.adds.credit;
              in-range = below 0 (omega arith);
              rolls =
                  λ i l u.
                  let low = below i (omega arith) in
                  sym (mod-eq_of_lt low) ∙ ap (λ (x : ℕ). x % modulus_of ms i) (let f = finds i u in omega (arith, f));
            };
        fits = subst (WorkFits ms (meter_on b)) (sym idle-work) tt;
      }

  taken-tally : (c : Call) → Spares c (exec c v).number → Lends c (exec c v).number h.moduli → (exec c v).number ≡ 0
      → Tally (taken c (exec c v).stores b) (cond (loads c 0) (loaded h (exec c v).target v) (gained h (completes c 0 b)))
  unfolding exec commit_of prepare_of confirm_of withdraw_of consolidate_of free_of checkpoint_of write_of event_of
  taken-tally mount s t e = no_move (taken mount 0 b) h (record { clean = λ w l i. refl; adds = T.adds; fits = tt })
  taken-tally step s t e = advance 1 b.work b h T.fits T
  taken-tally (run k) s t e = advance k b.work b h T.fits T
  taken-tally (begin w) s t e = no_move b h T
  taken-tally (begin_wide w) s t e = no_move (taken (begin_wide w) 0 b) h (record { clean = T.clean; adds = T.adds; fits = T.fits })
  taken-tally (abort w) s t e =
      no_move (emptied w b) h (record { clean = λ u l i. row_keeps (λ (c : Cell). c ≡ none) (eqb u w) none (b.writes u 0 l i) refl (T.clean u l i); adds = T.adds; fits = T.fits })
  taken-tally (read w p l target) s t e = no_move b h T
  taken-tally (recall p l target) s t e = no_move b h T
  taken-tally (load text) s t e = load-tally text e
  taken-tally checkpoint s t e =
      starts-tally nothing (exec checkpoint v).stores b h refl (quiet (none-apply (checkpoint_call_rows v.st v.image) (omega arith) e).1.1.0) tt T
  taken-tally free s t e =
      starts-tally nothing (exec free v).stores b h refl (quiet (none-apply (free_call_rows v.st v.image) (omega arith) e).1.1.0) tt T
  taken-tally (commit w) s t e =
      let n : ℕ = (exec (commit w) v).stores in
      let i = quiet (none-apply (commit_call_rows v.st v.image w) (omega arith) e).1.1.0 in
      row_keeps (λ (c : Reference). Tally c (gained h [])) (eqb b.wide w) (starts_copy w n b) (starts (committing w) n b) (copy-starts-tally w n b h i T) (starts-tally (committing w) n b h refl i tt T)
  taken-tally (prepare w) s t e =
      starts-tally nothing (exec (prepare w) v).stores b h refl (quiet (none-apply (prepare_call_rows v.st v.image w) (omega arith) e).1.1.0) tt T
  taken-tally (confirm w) s t e =
      starts-tally (committing w) (exec (confirm w) v).stores b h refl (quiet (none-apply (confirm_call_rows v.st v.image w) (omega arith) e).1.1.0) tt T
  taken-tally (withdraw w) s t e = no_move b h T
  taken-tally (consolidate p) s t e =
      starts-tally nothing (exec (consolidate p) v).stores b h refl (quiet (none-apply (consolidate_call_rows v.st v.image p) (omega arith) e).1.1.0) tt T
  taken-tally (write w p l o n bytes) s t e =
      starts-tally (writing w p l o n bytes) (exec (write w p l o n bytes) v).stores b h refl (quiet (write-first v.st v.image w p l o n bytes e).1.1.0) (s e) T
  taken-tally (event ms k m a) s t e =
      subst (λ (n : ℕ). Tally (starts (moving ms k m a) n b) (gained h [])) (row-yes (eqb (refusal (event_call_rows v.st v.image ms k m a)) 0) (event_needs k) 0 (eq-eqb _ 0 e)) (event-tally ms k m a (t e) e)

  pub next-tally : (c : Call) → Spares c (exec c v).number → Lends c (exec c v).number h.moduli
      → Tally (turn c (exec c v).number (exec c v).stores b) (next c (exec c v) v b h)
  next-tally c s t = by_number c (exec c v).number (exec c v).stores (exec c v).target v b h T (taken-tally c s t)
