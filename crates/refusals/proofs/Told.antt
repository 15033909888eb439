-- The reason of a refused call is composed and reads back, and the writer that it says is the lowest in the way.
use Prim.Native.Nat.{ℕ, ◌≤◌}
use mathlib.Core.Bool.{true, false}
use mathlib.Core.List.{List, ◌++◌}
use mathlib.Core.Path.{◌≡◌, refl, sym, subst}
use lib.Dec.{ltb, eqb}
use lib.ListN.{length, take, drop}
use lib.Seq.{take-append_seam}
use borrow.Author.Tests.{eqb-true, eq-eqb, le-ltb}
use Rattle.bounded.specs.Rows.{refusal}
use Rattle.bounded.proofs.Tests.{case_on, contradicts}
use Rattle.words.specs.Words.{word, over}
use Rattle.mount.specs.Mount.{mount_rows, mount_read, mount_of}
use Rattle.state.specs.State.{State}
use Rattle.refinement.specs.Stores.{World}
use Rattle.refinement.specs.Mount.{mount_call, format_call}
use Rattle.refinement.specs.Recall.{recall_row}
use Rattle.refinement.specs.Calls.{begin_of, begin_wide_of, abort_of, write_of, commit_of, prepare_of, confirm_of, withdraw_of, consolidate_of, free_of, checkpoint_of, read_row, step_of, run_of, event_of, load_of}
use Rattle.refinement.specs.Run.{Call, mount, checkpoint, free, step, begin, begin_wide, abort, commit, prepare, confirm, withdraw, consolidate, run, write, read, recall, event, load, exec}
use Rattle.wording.specs.Calls as named
use Rattle.wording.specs.Calls.{can_return, meets_writer, places, stands_in, one_of, one_more}
use Rattle.reasons.specs.declared.Reason.{Reason}
use Rattle.reasons.specs.Sentence.{sentence, compose_row, composed, composed_in}
use Rattle.reason_reading.specs.Reading.{Composable}
use Rattle.reason_reading.proofs.Theorem.{reads-back}
use Rattle.refusals.specs.Met.{holder_met, reason_met, Lowest}
use Rattle.refusals.specs.Told.{call_number, Passed, PassedOf, Words, reason_of, in_the_way, Told, RefusalsTold, FormatsTold}
use Rattle.refusals.proofs.Composable.{met-composable}
use Rattle.refusals.proofs.InTheWay.{write-met, consolidate-met, event-met}
use Rattle.refusals.proofs.Returned.{format-returns, mount-returns, recall-returns, begin-returns, begin-wide-returns, abort-returns, write-returns, commit-returns, prepare-returns, confirm-returns, withdraw-returns, consolidate-returns, checkpoint-returns, read-returns, step-returns, run-returns, free-returns, event-returns, load-returns}

-- ---- composed, and read back

told : (r : Reason) → Composable r → (target : List ℕ) → 200 ≤ length target → Told r target
unfolding composed composed_in compose_row over
told r h target l =
    let long : ltb (length target) 200 ≡ false = le-ltb (length target) 200 l in
    let s = sentence r in
    let put : take (length s) (s ++ drop (length s) target) ≡ s = take-append_seam s (drop (length s) target) in
    record {
      count = length s;
      taken = rw (long, h.returns);
      back = rw (long, h.returns, put) ((reads-back s r).1 (refl, h));
    }

-- ---- the number is one that the call can return

mount-row : (img : List ℕ) → (mount_of img).row ≡ refusal (mount_rows (length img) (word img))
unfolding mount_of mount_read
mount-row img = let row = refusal (mount_rows (length img) (word img)) in case_on (eqb row 0) (λ t. rw t (sym (eqb-true row 0 t))) (λ t. rw t)

can : (c : Call) (v : World) → ((exec c v).number ≡ 0 → ⊥) → can_return (call_number c) (exec c v).number ≡ true
unfolding exec mount_call begin_of begin_wide_of abort_of write_of commit_of prepare_of confirm_of withdraw_of consolidate_of free_of checkpoint_of event_of load_of read_row recall_row step_of run_of
can mount v n = (mount-returns v.image).answers _ (sym (mount-row v.image)) n
can checkpoint v n = (checkpoint-returns v.st v.image).answers _ refl n
can free v n = (free-returns v.st v.image).answers _ refl n
can step v n = (step-returns v.st v.image).answers _ refl n
can (begin w) v n = (begin-returns v.st v.image w).answers _ refl n
can (begin_wide w) v n = (begin-wide-returns v.st v.image w).answers _ refl n
can (abort w) v n = (abort-returns v.st v.image w).answers _ refl n
can (commit w) v n = (commit-returns v.st v.image w).answers _ refl n
can (prepare w) v n = (prepare-returns v.st v.image w).answers _ refl n
can (confirm w) v n = (confirm-returns v.st v.image w).answers _ refl n
can (withdraw w) v n = (withdraw-returns v.st v.image w).answers _ refl n
can (consolidate p) v n = (consolidate-returns v.st v.image p).answers _ refl n
can (run k) v n = (run-returns v.st v.image).answers _ refl n
can (write w p l o k bytes) v n = (write-returns v.st v.image w p l o k bytes).answers _ refl n
can (read w p l target) v n = (read-returns v.st v.image w p l target).answers _ refl n
can (recall p l target) v n = (recall-returns v.image p l target).answers _ refl n
can (event ms k m a) v n = (event-returns v.st v.image ms k m a).answers _ refl n
can (load text) v n = (load-returns v.st v.image text).answers _ refl n

-- ---- the writer in the way

by_number : {X : Type 0} (n : ℕ) → meets_writer n ≡ true → (n ≡ 14 → X) → (n ≡ 18 → X) → X
unfolding meets_writer one_of one_more
by_number n e f g = case_on (eqb n 14) (λ t. f (eqb-true n 14 t)) (λ t. g (eqb-true n 18 (rw t at e)))

-- a call that does not return a number did not
not-that : {X : Type 0} (c n k : ℕ) → can_return c n ≡ true → can_return c k ≡ false → n ≡ k → X
not-that c n k e f q = contradicts (subst (λ (x : ℕ). can_return c x ≡ true) q e) f

nobody : {X : Type 0} (c n : ℕ) → can_return c n ≡ true → can_return c 14 ≡ false → can_return c 18 ≡ false → meets_writer n ≡ true → X
nobody c n e f g m = by_number n m (not-that c n 14 e f) (not-that c n 18 e g)

module _ (v : World) (a : Passed) where
  abbrev met : Call → ℕ
  met c = holder_met v.st (call_number c) (exec c v).number a.writer a.page a.line a.kind a.meter

  abbrev Way : Call → Type 0
  Way c = can_return (call_number c) (exec c v).number ≡ true → meets_writer (exec c v).number ≡ true → Lowest (in_the_way v.st c) (met c)

  write-way : (w p l o k : ℕ) (bytes : List ℕ) → PassedOf (write w p l o k bytes) a → Way (write w p l o k bytes)
  unfolding can_return stands_in places one_of one_more holder_met exec write_of
  write-way w p l o k bytes g r m =
      let n = (exec (write w p l o k bytes) v).number in
      by_number n m
      (λ e. rw (eq-eqb n 14 e, g.0, g.1, g.2) (write-met v.st v.image w p l o k bytes e))
      (not-that named.write n 18 r refl)

  consolidate-way : (p : ℕ) → PassedOf (consolidate p) a → Way (consolidate p)
  unfolding can_return stands_in places one_of one_more holder_met exec consolidate_of
  consolidate-way p g r m =
      let n = (exec (consolidate p) v).number in
      by_number n m
      (not-that named.consolidate n 14 r refl)
      (λ e.
      let said : ℕ → ℕ = λ x. holder_met v.st named.consolidate x a.writer a.page a.line a.kind a.meter in
      subst (λ (x : ℕ). Lowest (in_the_way v.st (consolidate p)) (said x)) (sym e)
      (rw g (consolidate-met v.st v.image p e)))

  event-way : (ms : List ℕ) (k m b : ℕ) → PassedOf (event ms k m b) a → Way (event ms k m b)
  unfolding can_return stands_in places one_of one_more holder_met exec event_of
  event-way ms k m b g r t =
      let n = (exec (event ms k m b) v).number in
      by_number n t
      (λ e. rw (eq-eqb n 14 e, g.0, g.1) (event-met v.st v.image ms k m b e))
      (not-that named.event n 18 r refl)

  way : (c : Call) → PassedOf c a → Way c
  unfolding can_return stands_in places one_of one_more
  way (write w p l o k bytes) g r t = write-way w p l o k bytes g r t
  way (consolidate p) g r t = consolidate-way p g r t
  way (event ms k m b) g r t = event-way ms k m b g r t
  way mount g r t = nobody named.mount _ r refl refl t
  way checkpoint g r t = nobody named.checkpoint _ r refl refl t
  way free g r t = nobody named.free_slot _ r refl refl t
  way step g r t = nobody named.step _ r refl refl t
  way (begin w) g r t = nobody named.begin _ r refl refl t
  way (begin_wide w) g r t = nobody named.begin_wide _ r refl refl t
  way (abort w) g r t = nobody named.abort _ r refl refl t
  way (commit w) g r t = nobody named.commit _ r refl refl t
  way (prepare w) g r t = nobody named.prepare _ r refl refl t
  way (confirm w) g r t = nobody named.confirm _ r refl refl t
  way (withdraw w) g r t = nobody named.withdraw _ r refl refl t
  way (run k) g r t = nobody named.run _ r refl refl t
  way (read w p l target) g r t = nobody named.read _ r refl refl t
  way (recall p l target) g r t = nobody named.recall _ r refl refl t
  way (load text) g r t = nobody named.load _ r refl refl t

-- ---- the laws

reason-told : (st : State) (c n : ℕ) (a : Passed) → can_return c n ≡ true → Words a → (target : List ℕ) → 200 ≤ length target → Told (reason_of st c n a) target
reason-told st c n a e w target l =
    told (reason_of st c n a) (met-composable st c n a.writer a.page a.line a.kind a.meter e w.writer w.page w.line) target l

pub refusals-told : RefusalsTold
unfolding reason_met
refusals-told c v n a g w =
    let r = can c v n in
    (reason-told v.st (call_number c) (exec c v).number a r w, way v a c g r)

pub formats-told : FormatsTold
unfolding format_call
formats-told z buffer n st a w = reason-told st named.format (format_call z buffer).number a ((format-returns z (length buffer)).answers _ refl n) w
