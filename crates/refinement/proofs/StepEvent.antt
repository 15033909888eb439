-- One step of a pending event is one of its transaction: a store of a write, which may be its last, or of the commit. With the last store of all, that of
-- head, the meters have moved.
use Prim.Native.Nat.{ℕ, ◌+◌, ◌-◌, ◌*◌, ◌<◌, ◌≤◌}
use mathlib.Core.Bool.{Bool, true, false, not, ◌&&◌, cond}
use mathlib.Core.List.{List}
use mathlib.Core.Logic.{◌⊎◌, inl, inr}
use mathlib.Core.Path.{◌≡◌, refl, sym, ap, ap₂, ◌∙◌, subst}
use native.Mathlib.Omega.{arith}
use lib.Dec.{ltb, leb, eqb}
use lib.ListN.{length, get_or, replicate}
use borrow.Author.Tests.{ltb-true, ltb-false, lt-ltb, le-ltb}
use Rattle.bounded.proofs.Tab.{tab-ext}
use Rattle.bounded.proofs.Tests.{case_on, row_keeps, row-yes, row-no}
use Rattle.image.specs.Lines.{line_words}
use Rattle.words.specs.Words.{Bytes, bytes_of, store}
use Rattle.words.proofs.Bytes.{length-bytes, bytes-bytes_of}
use Rattle.meters.specs.Meters.{moves_credit, first_meter, own_meter, event_needs, rolled}
use Rattle.meters.proofs.MeterLaws.{of-credit, own_range}
use Rattle.state.specs.State.{State}
use Rattle.state.specs.declared.Op.{Op}
use Rattle.state.specs.declared.Op.TheVariants.{Write, Commit, Event}
use Rattle.operations.specs.Operations.{is_idle, needs}
use Rattle.operations.proofs.Taken.{EventTaken, event-taken}
use Rattle.validity.specs.Validity.{state_ok}
use Rattle.layout.specs.declared.Sizes.{Sizes}
use Rattle.refinement.specs.Settled.{with_open}
use Rattle.refinement.specs.Commit.{commit_record_of}
use Rattle.refinement.specs.Event.{line_asked, first_asked, first_done, second_asked, second_done, lines_done, line_stores, line_done, event_at, event_value, event_done}
use Rattle.refinement.specs.Stores.{World, completed, with_made, store_at, store_value, store_made, stepped}
use Rattle.refinement.specs.Calls.{world_of}
use Rattle.refinement.specs.Reference.{Reference, Cell, none, byte, laid, emptied, laid_over, Task, Work, idle, under, committing, moving, with_work, written, moved, meter_on, read_line, advances}
use Rattle.refinement.proofs.Asked.{all_left, asked-busy}
use Rattle.refinement.proofs.CallAsked.{needs-asked}
use Rattle.refinement.proofs.CommitMid.{commit-mid}
use Rattle.refinement.proofs.EventReference.{rows-keep, moved-quiet}
use Rattle.refinement.proofs.EventKept.{durable-beside}
use Rattle.refinement.proofs.EventReady.{Ready, Wrote, write-row, first-wrote, second-wrote, lines-wrote, one-slot, commit-five, commit-row}
use Rattle.refinement.proofs.EventRows.{event-needs, first-sizes, lines-sizes, done-sizes}
use Rattle.refinement.proofs.EventStores.{lines-eight, at_first, value-first, at_second, value-second, at-commit, value-commit}
use Rattle.refinement.proofs.Invariant.{Durable, Quiet, Busy, not_wide}
use Rattle.refinement.proofs.Moving.{Facts, Under, under-on, under-ends, Stage, in-first, in-second, in-commit, Moving, commit_asked, own_bytes, first_bytes, first_reference, second_reference, lines_reference, first_task, second_task}
use Rattle.refinement.proofs.Pending.{pends, made-valid}
use Rattle.refinement.proofs.Stepping.{Mid, durable-made, step-on, step-ends, advance-on, advance-ends}
use Rattle.refinement.proofs.Steps.{store_of}
use Rattle.refinement.proofs.WriteHeld.{writes_kept, line_same}
use Rattle.refinement.proofs.WriteMid.{write_mid}

-- an event is pending, or nothing is
abbrev pub Goes : List ℕ → World → Reference → Type 0
Goes past v b = Quiet past v.st v.image b ⊎ Moving past v.st v.image b

-- the states at the ends of its operations
write-eight : (s : State) (w p l o n : ℕ) → needs s (Write w p l o n) ≡ 8
unfolding needs
write-eight s w p l o n = refl

done-is : (s : State) (l : ℕ) (words : List ℕ) → completed (line_asked s l words) (Write 1 0 l 0 8) ≡ line_done s l words
unfolding line_done
done-is s l words = refl

event-is : (st : State) (k m : ℕ) → completed (commit_asked st k m) (Commit 1) ≡ event_done st k m
unfolding event_done commit_record_of
event-is st k m = refl

needs-lines : (k : ℕ) → event_needs k ≡ line_stores k + 5
needs-lines k = rows-keep (λ (x y : ℕ). x ≡ y + 5) (moves_credit k) 21 13 16 8 refl refl

module _ (past : List ℕ) (st : State) (img : List ℕ) (b : Reference) (M : Moving past st img b) where
  abbrev ms : List ℕ
  ms = M.moduli

  abbrev k : ℕ
  k = M.kind

  abbrev m : ℕ
  m = M.meter

  abbrev a : ℕ
  a = M.amount

  abbrev n : ℕ
  n = st.pending.made

  abbrev event : Op
  event = Event M.kind M.meter M.amount

  -- the reference machine without what is under way
  abbrev base : Reference
  base = with_work idle b

  E : EventTaken st k m
  E = event-taken st k m a (pends st event M.valid M.event refl).taken

  W₁ : Wrote (first_done st k m) k m
  W₁ = first-wrote st k m a M.valid M.durable.behind.sixteen M.sixty-four M.four E

  pub W : Wrote (lines_done st k m) k m
  W = lines-wrote st k m a M.valid M.durable.behind.sixteen M.sixty-four M.four E

  -- ---- what a step of it comes to

  abbrev Result : Type 0
  Result = Goes past (stepped (world_of st img)) (advances 1 b.work b)

  module _ (i : List ℕ) (same : store_made st img event n ≡ i) where
    stored : store_made st img st.pending.op n ≡ i
    stored = ap (λ (o : Op). store_made st img o n) M.event ∙ same

    needed : needs st st.pending.op ≡ event_needs k
    needed = ap (needs st) M.event ∙ event-needs st k m a

    goes_on : n + 1 < event_needs k → Durable past st i b → Stage past (with_made st (n + 1)) i base ms k m a → Result
    goes_on l D S =
        let left = under (moving ms k m a) (event_needs k - (n + 1)) in
        let w = step-on st img (omega (arith, l, needed)) ∙ ap (λ (x : List ℕ). world_of (with_made st (n + 1)) x) stored in
        let e = advance-on b (moving ms k m a) (event_needs k) n M.work l in
        let r : Moving past (with_made st (n + 1)) i (with_work left b) =
        record {
          moduli = ms;
          kind = k;
          meter = m;
          amount = a;
          event = M.event;
          valid = made-valid st (n + 1) M.valid (ap is_idle M.event) (omega (arith, l, needed));
          durable = durable-made past st i b (n + 1) left D;
          narrow = record { state = M.narrow.state; book = M.narrow.book };
          four = M.four;
          sixty-four = M.sixty-four;
          no_writes = M.no_writes;
          facts =
              record { first-line = M.facts.first-line; second-line = M.facts.second-line; first-bytes = M.facts.first-bytes; own-bytes = M.facts.own-bytes; amount = M.facts.amount };
          work = refl;
          stage = S;
        } in
        subst (λ (v : World). Goes past v (advances 1 b.work b)) (sym w) (subst (Goes past (world_of (with_made st (n + 1)) i)) (sym e) (inr r))

    goes-out : n + 1 ≡ event_needs k → Quiet past (event_done st k m) i (moved ms k m a (with_work idle b)) → Result
    goes-out q r =
        let w =
        step-ends st img (q ∙ sym needed) ∙ ap (λ (o : Op). world_of (completed st o) (store_made st img st.pending.op n)) M.event ∙ ap (λ (x : List ℕ). world_of (completed st event) x) stored in
        let e = advance-ends b (moving ms k m a) (event_needs k) n M.work q in
        subst (λ (v : World). Goes past v (advances 1 b.work b)) (sym w) (subst (Goes past (world_of (completed st event) i)) (sym e) (inl r))

  -- ---- the next operation of the transaction, where one ends

  -- the second line, of a meter other than credit
  other-line : moves_credit k ≡ true → own_meter k m ≡ first_meter k m → ⊥
  other-line t e =
      let c = of-credit k m E.known t in
      let x : k ≡ 0 = row-yes (moves_credit k) k m t ∙ e ∙ sym (row-yes (moves_credit k) 0 m t) in
      omega (arith, x, c.some)

  second-words : moves_credit k ≡ true → st.pending.second ≡ line_words (read_line (second_reference ms k m a base) 1 0 (own_meter k m))
  second-words t =
      let o = own_meter k m in
      let bytes = own_bytes ms k m a base in
      M.facts.second-line t
      ∙ ap line_words
      (tab-ext 64 (λ i. laid_over ((written 1 0 o 0 8 bytes b).writes 1 0 o i) (b.pages 0 o i)) (λ i. laid_over ((second_reference ms k m a base).writes 1 0 o i) (b.pages 0 o i))
      (λ i l.
      ap (λ (x : Cell). laid_over (cond (eqb 1 1 && eqb 0 0 && eqb o o && leb 0 i && ltb i (0 + 8)) (byte (get_or bytes (i - 0) 0)) x) (b.pages 0 o i))
      (sym (writes_kept base 1 0 (first_meter k m) 0 8 (first_bytes ms k m a base) 1 0 o i (λ h. other-line t h.2)))))

  second-bytes : moves_credit k ≡ true → Bytes (read_line (first_reference ms k m a base) 1 0 (own_meter k m))
  second-bytes t =
      subst Bytes (line_same base 1 0 (first_meter k m) 0 8 (first_bytes ms k m a base) 1 0 (own_meter k m) (λ h. other-line t h.2)) M.facts.own-bytes

  second-under : (i : List ℕ) → moves_credit k ≡ true → Quiet past (first_done st k m) i (first_reference ms k m a base)
      → Under past (second_asked st k m) i (second_task ms k m a base) (first_reference ms k m a base) 0
  unfolding needs
  second-under i t Q =
      let s = first_done st k m in
      let o = own_meter k m in
      let bytes = own_bytes ms k m a base in
      record {
        low = omega arith;
        busy =
            asked-busy s i (first_reference ms k m a base) (Write 1 0 o 0 8) st.pending.second (second_task ms k m a base) Q (ap not (not_wide s (first_reference ms k m a base) 1 Q.narrow (omega arith))) (omega arith)
            (write-row s k m o st.pending.second W₁.ready (omega (arith, (own_range k m E.known).1)) W₁.ready.own-free)
            (bytes, bytes-bytes_of 8 _, omega (arith, length-bytes 8 (rolled ms o (meter_on b o) a)), all_left s (Write 1 0 o 0 8) st.pending.second (second_task ms k m a base), second-words t, second-bytes t);
      }

  -- the commit
  commit-under : (i : List ℕ) → Quiet past (lines_done st k m) i (lines_reference ms k m a base) → Under past (commit_asked st k m) i (committing 1) (lines_reference ms k m a base) 0
  commit-under i Q =
      let s = lines_done st k m in
      let some : 0 < needs s (Commit 1) = omega (arith, commit-five s k m W) in
      let e = all_left s (Commit 1) (replicate 8 0) (committing 1) in
      let B = asked-busy s i (lines_reference ms k m a base) (Commit 1) (replicate 8 0) (committing 1) Q (ap not (not_wide s (lines_reference ms k m a base) 1 Q.narrow (omega arith))) some (commit-row s k m W) e in
      record { low = rw (needs-asked s (replicate 8 0) (Commit 1) (Commit 1)) some; busy = subst (λ (w : Work). Busy past (with_made (commit_asked st k m) 0) i (with_work w (lines_reference ms k m a base))) e B }

  -- ---- a store of an operation of the transaction

  -- the event's own durable part stays as long as mount reads none of the words stored
  beside : (s : State) (t : Task) (c : Reference) (j : ℕ) (U : Under past s img t c j) → s.sizes ≡ st.sizes
      → Mid past (with_made s j) img (with_work (under t (needs s s.pending.op - j)) c) U.busy.durable s.pending.op j → Durable past st (store_made s img s.pending.op j) b
  beside s t c j U z mid =
      subst (λ (i : List ℕ). Durable past st i b) (store_of s j img s.pending.op j)
      (durable-beside st (with_made s j) img b (with_work (under t (needs s s.pending.op - j)) c) M.valid U.busy.valid M.durable U.busy.durable z s.pending.op j mid)

  -- of the first write
  module _ (j : ℕ) (e : n ≡ j) (U : Under past (first_asked st k m) img (first_task ms k m a base) base j) where
    abbrev op₁ : Op
    op₁ = Write 1 0 (first_meter k m) 0 8

    abbrev i₁ : List ℕ
    i₁ = store_made (first_asked st k m) img op₁ j

    pub low₁ : j < 8
    unfolding needs
    low₁ = U.low

    pub store₁ : store_made st img event n ≡ i₁
    store₁ = ap (store_made st img event) e ∙ ap₂ (λ (x y : ℕ). store img x y) (at_first st k m j low₁) (value-first st k m j low₁)

    durable₁ : Durable past st i₁ b
    durable₁ = beside (first_asked st k m) (first_task ms k m a base) base j U refl (write_mid past (with_made (first_asked st k m) j) img _ U.busy 1 0 (first_meter k m) 0 8 refl j low₁)

    done₁ : j + 1 ≡ 8 → Quiet past (first_done st k m) i₁ (first_reference ms k m a base)
    done₁ q =
        subst (λ (s : State). Quiet past s i₁ (first_reference ms k m a base)) (done-is (with_open st 1) (first_meter k m) st.pending.line)
        (under-ends past (first_asked st k m) img (first_task ms k m a base) base j U refl (q ∙ sym (write-eight (first_asked st k m) 1 0 (first_meter k m) 0 8)) refl)

    step₁ : Result
    unfolding needs
    step₁ =
        case_on (ltb (j + 1) 8)
        (λ t.
        goes_on i₁ store₁ (omega (arith, e, low₁, needs-lines k, lines-eight k)) durable₁
        (in-first (j + 1) (ap (λ (x : ℕ). x + 1) e) (under-on past (first_asked st k m) img (first_task ms k m a base) base j U refl (ltb-true (j + 1) 8 t))))
        (λ t.
        let q : j + 1 ≡ 8 = omega (arith, low₁, ltb-false (j + 1) 8 t) in
        let Q = done₁ q in
        goes_on i₁ store₁ (omega (arith, e, low₁, needs-lines k, lines-eight k)) durable₁
        (case_on (moves_credit k)
        (λ u. in-second 0 u (omega (arith, e, q)) (second-under i₁ u Q))
        (λ u.
        let x : line_stores k ≡ 8 = sym (row-no (moves_credit k) 16 8 8 u refl) in
        let R =
        subst (λ (s : State). Quiet past s i₁ (lines_reference ms k m a base)) (row-no (moves_credit k) (second_done st k m) (first_done st k m) (first_done st k m) u refl)
        (subst (λ (c : Reference). Quiet past (first_done st k m) i₁ c) (row-no (moves_credit k) (second_reference ms k m a base) (first_reference ms k m a base) (first_reference ms k m a base) u refl) Q) in
        in-commit 0 (omega (arith, e, q, x)) (commit-under i₁ R))))

  -- of the second
  module _ (j : ℕ) (u : moves_credit k ≡ true) (e : n ≡ 8 + j) (U : Under past (second_asked st k m) img (second_task ms k m a base) (first_reference ms k m a base) j) where
    abbrev op₂ : Op
    op₂ = Write 1 0 (own_meter k m) 0 8

    abbrev i₂ : List ℕ
    i₂ = store_made (second_asked st k m) img op₂ j

    pub low₂ : j < 8
    unfolding needs
    low₂ = U.low

    pub sixteen : line_stores k ≡ 16
    sixteen = sym (row-yes (moves_credit k) 16 8 u)

    pub store₂ : store_made st img event n ≡ i₂
    store₂ = ap (store_made st img event) e ∙ ap₂ (λ (x y : ℕ). store img x y) (at_second st k m u j low₂) (value-second st k m u j low₂)

    durable₂ : Durable past st i₂ b
    durable₂ =
        beside (second_asked st k m) (second_task ms k m a base) (first_reference ms k m a base) j U (first-sizes st k m)
        (write_mid past (with_made (second_asked st k m) j) img _ U.busy 1 0 (own_meter k m) 0 8 refl j low₂)

    done₂ : j + 1 ≡ 8 → Quiet past (second_done st k m) i₂ (second_reference ms k m a base)
    done₂ q =
        subst (λ (s : State). Quiet past s i₂ (second_reference ms k m a base)) (done-is (first_done st k m) (own_meter k m) st.pending.second)
        (under-ends past (second_asked st k m) img (second_task ms k m a base) (first_reference ms k m a base) j U refl (q ∙ sym (write-eight (second_asked st k m) 1 0 (own_meter k m) 0 8)) refl)

    step₂ : Result
    unfolding needs
    step₂ =
        case_on (ltb (j + 1) 8)
        (λ t.
        goes_on i₂ store₂ (omega (arith, e, low₂, needs-lines k, sixteen)) durable₂
        (in-second (j + 1) u (omega (arith, e)) (under-on past (second_asked st k m) img (second_task ms k m a base) (first_reference ms k m a base) j U refl (ltb-true (j + 1) 8 t))))
        (λ t.
        let q : j + 1 ≡ 8 = omega (arith, low₂, ltb-false (j + 1) 8 t) in
        let R =
        subst (λ (s : State). Quiet past s i₂ (lines_reference ms k m a base)) (row-yes (moves_credit k) (second_done st k m) (first_done st k m) u)
        (subst (λ (c : Reference). Quiet past (second_done st k m) i₂ c) (row-yes (moves_credit k) (second_reference ms k m a base) (first_reference ms k m a base) u) (done₂ q)) in
        goes_on i₂ store₂ (omega (arith, e, low₂, needs-lines k, sixteen)) durable₂ (in-commit 0 (omega (arith, e, q, sixteen)) (commit-under i₂ R)))

  -- of the commit
  module _ (j : ℕ) (e : n ≡ line_stores k + j) (U : Under past (commit_asked st k m) img (committing 1) (lines_reference ms k m a base) j) where
    abbrev i₃ : List ℕ
    i₃ = store_made (commit_asked st k m) img (Commit 1) j

    five : needs (commit_asked st k m) (Commit 1) ≡ 5
    five = needs-asked (lines_done st k m) (replicate 8 0) (Commit 1) (Commit 1) ∙ commit-five (lines_done st k m) k m W

    pub low₃ : j < 5
    low₃ = omega (arith, U.low, five)

    pub store₃ : store_made st img event n ≡ i₃
    store₃ = ap (store_made st img event) e ∙ ap₂ (λ (x y : ℕ). store img x y) (at-commit st k m j) (value-commit st k m j)

    durable₃ : j < 4 → Durable past st i₃ b
    durable₃ l =
        beside (commit_asked st k m) (committing 1) (lines_reference ms k m a base) j U (lines-sizes st k m)
        (commit-mid past (with_made (commit_asked st k m) j) img _ U.busy 1 refl j (omega (arith, l, one-slot (lines_done st k m) k m W)))

    done₃ : j + 1 ≡ 5 → Quiet past (event_done st k m) i₃ (moved ms k m a (with_work idle b))
    done₃ q =
        moved-quiet (event_done st k m) i₃ base ms k m a (subst (λ (z : Sizes). (p l i : ℕ) → p < z.pages → l < 64 → i < 64 → b.writes 1 p l i ≡ none) (sym (done-sizes st k m)) M.no_writes) M.narrow.book
        (subst (λ (s : State). Quiet past s i₃ (emptied 1 (laid 1 (with_work idle (lines_reference ms k m a base))))) (event-is st k m)
        (under-ends past (commit_asked st k m) img (committing 1) (lines_reference ms k m a base) j U refl (q ∙ sym five) refl))

    step₃ : Result
    step₃ =
        case_on (ltb (j + 1) 5)
        (λ t.
        let l : j + 1 < 5 = ltb-true (j + 1) 5 t in
        goes_on i₃ store₃ (omega (arith, e, l, needs-lines k)) (durable₃ (omega arith))
        (in-commit (j + 1) (omega (arith, e)) (under-on past (commit_asked st k m) img (committing 1) (lines_reference ms k m a base) j U refl (omega (arith, l, five)))))
        (λ t.
        let q : j + 1 ≡ 5 = omega (arith, low₃, ltb-false (j + 1) 5 t) in
        goes-out i₃ store₃ (omega (arith, e, q, needs-lines k)) (done₃ q))

  step-at : Stage past st img base ms k m a → Result
  step-at (in-first j e U) = step₁ j e U
  step-at (in-second j u e U) = step₂ j u e U
  step-at (in-commit j e U) = step₃ j e U

  pub step-event : Result
  step-event = step-at M.stage
