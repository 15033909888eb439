-- The states of an event's transaction: each write and the commit is one that no row turns back, and each state is valid.
use Rattle.state.specs.Wide.{some_wide}
use Prim.Native.Nat.{ℕ, zero, suc, ◌+◌, ◌*◌, ◌<◌, ◌≤◌}
use mathlib.Core.Bool.{Bool, true, false, ◌&&◌, ◌||◌, not, cond}
use mathlib.Core.List.{List}
use mathlib.Core.Logic.{◌⊎◌, ⊎_elim}
use mathlib.Core.Path.{◌≡◌, refl, sym, ap, ◌∙◌, subst}
use native.Mathlib.Omega.{arith}
use lib.Dec.{ltb, leb, eqb}
use lib.ListN.{length, get_or, set, length-set}
use lib.Seq.{get_or-set_same}
use borrow.Author.Tests.{eqb-true, eqb-false, eq-eqb, ne_eqb, ltb-true, ltb-false, lt-ltb, le-ltb, lt-leb}
use Rattle.bounded.specs.Below.{count_below, one}
use Rattle.bounded.specs.Rows.{refusal}
use Rattle.bounded.proofs.Below.{split_below, none-at, none_made, count-ext}
use Rattle.bounded.proofs.Rows.{row-none}
use Rattle.bounded.proofs.Tests.{case_on, contradicts, row_keeps, and_right}
use Rattle.bounded.proofs.Those.{length-those}
use Rattle.layout.specs.declared.Sizes.{Sizes}
use Rattle.layout.specs.Layout.{Legal}
use Rattle.replay.specs.Table.{slot_in, with_slot, pages_apart}
use Rattle.replay.proofs.Tables.{Sixteen, sixteen-slot}
use Rattle.masks.specs.Lines.{in_mask, with_line}
use Rattle.masks.proofs.Members.{in-none}
use Rattle.meters.specs.Meters.{event_known, moves_credit, first_meter, own_meter, event_needs}
use Rattle.meters.proofs.MeterLaws.{first-low, own_range}
use Rattle.state.specs.State.{State}
use Rattle.state.specs.declared.Op.TheVariants.{Write, Commit, Event}
use Rattle.state.specs.Held.{is_open, some_prepared, held_at, held_slots, others_hold}
use Rattle.operations.specs.Operations.{live, slot_for, slotted, needs, line_taken, none_free, write_rows, commit_rows, op_rows, commit_needs}
use Rattle.operations.proofs.Taken.{WriteTaken, write-taken, EventTaken, event-taken}
use Rattle.validity.specs.Validity.{state_ok}
use Rattle.refinement.specs.Frames.{other_frame}
use Rattle.refinement.specs.Settled.{with_open, no_pending}
use Rattle.refinement.specs.Write.{write_slot, write_table}
use Rattle.refinement.specs.Event.{line_asked, line_done, first_asked, first_done, second_asked, second_done, lines_done, event_done}
use Rattle.refinement.specs.Stores.{completed}
use Rattle.refinement.proofs.Begun.{opened-fine}
use Rattle.refinement.proofs.CommitValid.{commit-valid}
use Rattle.refinement.proofs.Invariant.{holds}
use Rattle.refinement.proofs.LinePut.{held-slot}
use Rattle.refinement.proofs.LinesAsked.{lines-valid}
use Rattle.refinement.proofs.WriterCalls.{unwide}
use Rattle.refinement.proofs.Pending.{idle-ok}
use Rattle.refinement.proofs.StateValid.{valid, valid-ok}
use Rattle.refinement.proofs.Valid.{good}
use Rattle.refinement.proofs.WriteHeld.{holds-new, holds_kept}
use Rattle.refinement.proofs.WriteTable.{Own, Takes, own-or-takes, write-slot-low, page-slot, other-kept}
use Rattle.refinement.proofs.WriteValid.{written-valid}

-- ---- a state in which writer 1 may write the lines of event k, meter m on page 0, and then commit

pub record Ready (s : State) (k m : ℕ) : Type 0 where
  pub ok : state_ok s ≡ true
  pub full : Sixteen s.table
  pub lines : length s.writers.held ≡ 64
  pub opened : is_open s.writers.opened 1 ≡ true
  pub none-prepared : some_prepared s.writers.prepared ≡ false
  pub none-wide : some_wide s.wide.writer ≡ false
  pub first-free : line_taken s.sizes s.writers.held 1 (slot_for s 0) (first_meter k m) ≡ false
  pub own-free : line_taken s.sizes s.writers.held 1 (slot_for s 0) (own_meter k m) ≡ false
  pub some-free : none_free s.sizes s.table.page s.next (slot_for s 0) ≡ false
  pub fits : live s + 1 ≤ s.sizes.places
  -- writer 1 holds lines of page 0's slot alone
  pub alone : (q : ℕ) → q < s.sizes.slots → (q ≡ slot_for s 0 → ⊥) → held_at s.writers.held 1 q ≡ 0

-- with one of the lines written
pub record Wrote (s : State) (k m : ℕ) : Type 0 where
  pub ready : Ready s k m
  pub has-slot : slot_for s 0 < s.sizes.slots
  pub holds-some : held_at s.writers.held 1 (slot_for s 0) ≡ 0 → ⊥

-- no other writer holds the line
others-not : (s : State) (l v : ℕ) → line_taken s.sizes s.writers.held 1 (slot_for s 0) l ≡ false → v < 4 → (v ≡ 1 → ⊥) → holds s v 0 l ≡ false
unfolding others_hold
others-not s l v e j d =
    let held = s.writers.held in
    let x = slot_for s 0 in
    case_on (slotted s 0)
    (λ y.
    let a : others_hold held 1 x l ≡ false = ap (λ (b : Bool). b && others_hold held 1 x l) (sym y) ∙ e in
    rw y
    (ap (λ (b : Bool). not b && in_mask (held_at held v x) l) (sym (ne_eqb v 1 d))
    ∙ none-at (λ v. not (eqb v 1) && in_mask (held_at held v x) l) 4 v j a))
    (λ y. rw y)

others-free : (s : State) (l : ℕ) → ((v : ℕ) → v < 4 → (v ≡ 1 → ⊥) → holds s v 0 l ≡ false) → line_taken s.sizes s.writers.held 1 (slot_for s 0) l ≡ false
unfolding others_hold
others-free s l f =
    let held = s.writers.held in
    let x = slot_for s 0 in
    case_on (slotted s 0)
    (λ y.
    rw y
    (none_made (λ v. not (eqb v 1) && in_mask (held_at held v x) l) 4
    (λ v j.
    case_on (eqb v 1)
    (λ q. rw q)
    (λ q. rw q (rw y at (f v j (eqb-false v 1 q)))))))
    (λ y. rw y)

-- ---- a write of line l

module _ (s : State) (k m l : ℕ) (words : List ℕ) (R : Ready s k m) (low : l < 64) (free : line_taken s.sizes s.writers.held 1 (slot_for s 0) l ≡ false) where
  abbrev z : Sizes
  z = s.sizes

  abbrev asked : State
  asked = line_asked s l words

  abbrev done : State
  done = completed asked (Write 1 0 l 0 8)

  legal : Legal z
  legal = (valid s R.ok).legal

  pub write-row : refusal (op_rows s (Write 1 0 l 0 8)) ≡ 0
  write-row =
      sym (row-none (write_rows s 1 0 l 0 8)
      (rw (lt-leb z.pages 0 (omega (arith, legal.pages-low)), le-ltb 63 l (omega arith)), (rw R.opened, (ne_eqb s.writers.prepared 1 (λ e. omega (arith, e, ltb-false s.writers.prepared 4 R.none-prepared)), (free, (R.some-free, tt))))))

  asked-ok : state_ok asked ≡ true
  unfolding needs
  asked-ok = lines-valid s words _ (Write 1 0 l 0 8) R.ok (ap not (unwide s 1 R.none-wide (omega arith))) write-row (omega arith)

  T : WriteTaken asked 1 0 l 0 8
  T = write-taken asked 1 0 l 0 8 write-row

  done_ok : state_ok done ≡ true
  done_ok = written-valid asked 1 0 l 0 8 asked-ok R.full T (unwide s 1 R.none-wide (omega arith)) R.lines

  apart : pages_apart z (write_table asked 0).page ≡ true
  apart = (good done done_ok).pages

  cases : Own asked 0 ⊎ Takes asked 0
  cases = own-or-takes asked 0 asked-ok T.some-free

  slot-now : slot_for done 0 ≡ write_slot asked 0
  slot-now = page-slot asked 0 legal R.full T.args.page-low apart cases

  slot-low : slot_for done 0 < z.slots
  slot-low = subst (λ (x : ℕ). x < z.slots) (sym slot-now) (write-slot-low asked 0 asked-ok T.some-free)

  done_full : Sixteen done.table
  done_full =
      row_keeps Sixteen (slotted asked 0) s.table (with_slot s.table (write_slot asked 0) _) R.full (sixteen-slot s.table (write_slot asked 0) _ R.full)

  free-kept : (i : ℕ) → line_taken z s.writers.held 1 (slot_for s 0) i ≡ false → line_taken z done.writers.held 1 (slot_for done 0) i ≡ false
  free-kept i e =
      others-free done i (λ v j d.
      holds_kept asked 1 0 l 0 8 asked-ok T R.full R.lines apart v 0 i j T.args.page-low (λ h. d h.0) ∙ others-not s i v e j d)

  -- the other frame of a line of the page stays the other
  other-same : (i : ℕ) → other_frame (slot_in done.table (slot_for done 0)) i ≡ other_frame (slot_in s.table (write_slot asked 0)) i
  other-same i =
      ap (λ (x : ℕ). other_frame (slot_in done.table x) i) slot-now ∙ other-kept asked 0 legal R.full T.args.page-low apart cases i

  pub line_other : (i : ℕ) → other_frame (slot_in (line_done s l words).table (slot_for (line_done s l words) 0)) i ≡ other_frame (slot_in s.table (write_slot asked 0)) i
  unfolding line_done
  line_other i = other-same i

  done-alone : (q : ℕ) → q < z.slots → (q ≡ slot_for done 0 → ⊥) → held_at done.writers.held 1 q ≡ 0
  done-alone q lq n =
      let x : ℕ = write_slot asked 0 in
      let lx : x < 16 = omega (arith, write-slot-low asked 0 asked-ok T.some-free, legal.slots-high) in
      held-slot s.writers.held 1 x (with_line (held_at s.writers.held 1 x) l) R.lines (omega arith) lx 1 q (omega (arith, lq, legal.slots-high)) (λ e. n (e ∙ sym slot-now))
      ∙ ⊎_elim
      (λ (o : Own asked 0). R.alone q lq (λ e. n (e ∙ sym (slot-now ∙ o.slot))))
      (λ (t : Takes asked 0). R.alone q lq (λ e. omega (arith, e, t.none, lq)))
      cases

  wrote : Wrote done k m
  wrote =
      let h = and_right (slotted done 0) (in_mask (held_at done.writers.held 1 (slot_for done 0)) l) (holds-new asked 1 0 l 0 8 asked-ok T R.full R.lines apart) in
      record {
        ready =
            record {
              ok = done_ok;
              full = done_full;
              lines = length-set s.writers.held (16 * 1 + write_slot asked 0) _ ∙ R.lines;
              opened = R.opened;
              none-prepared = R.none-prepared;
              none-wide = R.none-wide;
              first-free = free-kept (first_meter k m) R.first-free;
              own-free = free-kept (own_meter k m) R.own-free;
              some-free = rw (lt-leb z.slots (slot_for done 0) slot-low);
              fits = R.fits;
              alone = done-alone;
            };
        has-slot = slot-low;
        holds-some = λ e. contradicts h (ap (λ (x : ℕ). in_mask x l) e ∙ in-none l);
      }

  pub line_wrote : Wrote (line_done s l words) k m
  unfolding line_done
  line_wrote = wrote

-- ---- the commit

-- a test that holds at one number is counted once
none-counted : (g : ℕ → Bool) (n : ℕ) → ((i : ℕ) → i < n → g i ≡ false) → count_below n g ≡ 0
unfolding count_below one
none-counted g zero h = refl
none-counted g (suc n) h = rw (none-counted g n (λ i l. h i (omega arith)), h n (omega arith))

once-counted : (g : ℕ → Bool) (n s : ℕ) → s < n → g s ≡ true → ((i : ℕ) → i < n → (i ≡ s → ⊥) → g i ≡ false) → count_below n g ≡ 1
unfolding count_below one
once-counted g zero s l t h = absurd (omega arith)
once-counted g (suc n) s l t h =
    split_below l
    (λ e. rw (none-counted g n (λ i m. h i (omega arith) (λ q. omega arith)), subst (λ (x : ℕ). g x ≡ true) e t))
    (λ m. rw (once-counted g n s m t (λ i j d. h i (omega arith) d), h n (omega arith) (λ e. omega arith)))

module _ (s : State) (k m : ℕ) (W : Wrote s k m) where
  pub one-slot : length (held_slots s.sizes s.writers.held 1) ≡ 1
  unfolding held_slots
  one-slot =
      let held = s.writers.held in
      let g : ℕ → Bool = λ q. not (eqb (held_at held 1 q) 0) in
      length-those g s.sizes.slots
      ∙ once-counted g s.sizes.slots (slot_for s 0) W.has-slot (ap not (ne_eqb (held_at held 1 (slot_for s 0)) 0 W.holds-some))
      (λ q l n. ap not (eq-eqb (held_at held 1 q) 0 (W.ready.alone q l n)))

  pub commit-five : needs s (Commit 1) ≡ 5
  unfolding needs
  commit-five = ap (λ (n : ℕ). commit_needs n) one-slot

  pub commit-row : refusal (commit_rows s 1) ≡ 0
  commit-row =
      sym (row-none (commit_rows s 1)
      (refl, (rw W.ready.opened, (W.ready.none-prepared, (rw one-slot (le-ltb s.sizes.places (live s + 1) W.ready.fits), tt)))))

-- ---- a pending event

module _ (st : State) (k m a : ℕ) (e : state_ok st ≡ true) (full : Sixteen st.table) (lines : length st.writers.held ≡ 64)
    (four : length st.writers.opened ≡ 4) (E : EventTaken st k m) where
  begun_ok : state_ok (with_open st 1) ≡ true
  begun_ok =
      let v = valid st e in
      valid-ok (with_open st 1)
      (record { legal = v.legal; positions = v.positions; slots = v.slots; held = opened-fine st 1 e E.closed; next_low = v.next_low; lasts = v.lasts; prepared = λ l. absurd (omega (arith, l, ltb-false st.writers.prepared 4 E.none-prepared)); entries = v.entries; wide = λ l. contradicts (lt-ltb st.wide.writer 4 l) E.none-wide; pending = idle-ok (with_open st 1) refl })

  -- a closed writer holds nothing
  pub nothing-held : (q : ℕ) → q < st.sizes.slots → held_at st.writers.held 1 q ≡ 0
  nothing-held q l =
      case_on (eqb (held_at st.writers.held 1 q) 0)
      (λ t. eqb-true (held_at st.writers.held 1 q) 0 t)
      (λ t. contradicts ((valid st e).held.opens q 1 l (omega arith) (eqb-false (held_at st.writers.held 1 q) 0 t)) E.closed)

  pub event-begun : Ready (with_open st 1) k m
  event-begun =
      record {
        ok = begun_ok;
        full = full;
        lines = lines;
        opened = get_or-set_same st.writers.opened 1 true false (omega arith);
        none-prepared = E.none-prepared;
        none-wide = E.none-wide;
        first-free = E.first-free;
        own-free = E.own-free;
        some-free = E.some-free;
        fits = E.fits;
        alone = λ q l n. nothing-held q l;
      }

  first-line : first_meter k m < 64
  first-line = omega (arith, first-low k m E.known)

  own_line : own_meter k m < 64
  own_line = omega (arith, (own_range k m E.known).1)

  pub first-wrote : Wrote (first_done st k m) k m
  first-wrote = line_wrote (with_open st 1) k m (first_meter k m) st.pending.line event-begun first-line event-begun.first-free

  pub second-wrote : Wrote (second_done st k m) k m
  second-wrote = line_wrote (first_done st k m) k m (own_meter k m) st.pending.second first-wrote.ready own_line first-wrote.ready.own-free

  pub lines-wrote : Wrote (lines_done st k m) k m
  lines-wrote = row_keeps (λ (s : State). Wrote s k m) (moves_credit k) (second_done st k m) (first_done st k m) second-wrote first-wrote

  -- the second line goes to the frame that it would have gone to before the first
  own-slot : write_slot (second_asked st k m) 0 ≡ slot_for (first_done st k m) 0
  unfolding write_slot
  own-slot = rw (lt-ltb (slot_for (first_done st k m) 0) (first_done st k m).sizes.slots first-wrote.has-slot)

  pub second-frame : (i : ℕ) → other_frame (slot_in (first_done st k m).table (write_slot (second_asked st k m) 0)) i ≡ other_frame (slot_in st.table (write_slot (first_asked st k m) 0)) i
  second-frame i =
      ap (λ (x : ℕ). other_frame (slot_in (first_done st k m).table x) i) own-slot
      ∙ line_other (with_open st 1) k m (first_meter k m) st.pending.line event-begun first-line event-begun.first-free i

  pub done-valid : state_ok (event_done st k m) ≡ true
  unfolding event_done
  done-valid =
      let s = lines_done st k m in
      commit-valid s 1 lines-wrote.ready.ok lines-wrote.ready.full (unwide s 1 lines-wrote.ready.none-wide (omega arith)) (commit-row s k m lines-wrote)

pub event-valid : (st : State) (k m a : ℕ) → state_ok st ≡ true → Sixteen st.table → length st.writers.held ≡ 64 → length st.writers.opened ≡ 4
    → refusal (op_rows st (Event k m a)) ≡ 0 → state_ok (event_done st k m) ≡ true
event-valid st k m a e full lines four r = done-valid st k m a e full lines four (event-taken st k m a r)
