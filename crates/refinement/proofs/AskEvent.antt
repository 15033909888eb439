-- An event asked for: the finished lines are the reference machine's with the new numbers laid over them, and its first write is under way.
use Prim.Native.Nat.{ℕ, ◌+◌, ◌-◌, ◌<◌, ◌≤◌}
use mathlib.Core.Bool.{Bool, true, false, ◌&&◌, cond, not}
use mathlib.Core.List.{List}
use mathlib.Core.Logic.{inl, inr}
use mathlib.Core.Path.{◌≡◌, refl, sym, ap, ◌∙◌, subst}
use native.Mathlib.Omega.{arith}
use lib.Dec.{eqb}
use lib.ListN.{length, replicate, length-set}
use borrow.Author.Tests.{ltb-true}
use Rattle.bounded.specs.Rows.{refusal}
use Rattle.bounded.proofs.Rows.{none-apply}
use Rattle.bounded.proofs.Tests.{case_on, row-yes}
use Rattle.image.specs.Lines.{line_bytes, merged, line_words}
use Rattle.words.specs.Words.{Bytes, bytes_of, word_at}
use Rattle.words.proofs.Parts.{bytes-part}
use Rattle.words.proofs.Bytes.{length-bytes, bytes-bytes_of}
use Rattle.masks.proofs.Members.{in-none}
use Rattle.meters.specs.Meters.{event_known, moves_credit, first_meter, own_meter, event_needs, rolled, first_number, amount_bad}
use Rattle.meters.proofs.MeterLaws.{first-low, own_range}
use Rattle.state.specs.State.{State}
use Rattle.state.specs.declared.Op.{Op}
use Rattle.state.specs.declared.Op.TheVariants.{Write, Event}
use Rattle.state.specs.Wide.{is_wide}
use Rattle.state.specs.Held.{held_at}
use Rattle.operations.specs.Operations.{is_idle, slot_for, slotted, needs}
use Rattle.operations.proofs.Taken.{EventTaken, event-taken}
use Rattle.validity.specs.Validity.{state_ok}
use Rattle.refinement.specs.Frames.{seen_frame}
use Rattle.refinement.specs.Settled.{with_lines, with_open}
use Rattle.refinement.specs.Event.{first_asked}
use Rattle.refinement.specs.Calls.{finished_line, meter_in, meter_line, event_line, event_second, event_call_rows}
use Rattle.refinement.specs.Reference.{Reference, idle, under, writing, moving, with_work, written, meter_on, read_line, recall_line}
use Rattle.refinement.proofs.Asked.{all_left, asked-busy}
use Rattle.refinement.proofs.AskWrite.{merged-read}
use Rattle.refinement.proofs.EventReady.{Ready, write-row, event-begun, nothing-held}
use Rattle.refinement.proofs.EventRows.{event-some, event-needs, event-op-row, event-amount}
use Rattle.refinement.proofs.Invariant.{Never, Quiet, Busy, holds, not_wide}
use Rattle.refinement.proofs.Keeps.{durable-kept}
use Rattle.refinement.proofs.LinesAsked.{lines-valid}
use Rattle.refinement.proofs.Moving.{Facts, Under, Moving, in-first, first_bytes, first_reference, first_task}
use Rattle.refinement.proofs.Seen.{seen-line, unheld-line}
use Rattle.refinement.proofs.WriterCalls.{seen-narrow, finished-narrow}
use Rattle.refinement.proofs.StateValid.{valid}

module _ {past : List ℕ} (st : State) (img : List ℕ) (b : Reference) (ms : List ℕ) (k m a : ℕ) (Q : Quiet past st img b) (row : refusal (event_call_rows st img ms k m a) ≡ 0) where
  abbrev line : List ℕ
  line = event_line st img ms k m a

  abbrev second : List ℕ
  second = event_second st img ms k m a

  abbrev asked : State
  asked = with_lines st (Event k m a) line second

  abbrev machine : Reference
  machine = with_work (under (moving ms k m a) (event_needs k)) b

  ok_rows : EventTaken st k m
  ok_rows = event-taken st k m a (event-op-row st img ms k m a row)

  first : first_meter k m < 64
  first = omega (arith, first-low k m ok_rows.known)

  own : own_meter k m < 64
  own = omega (arith, (own_range k m ok_rows.known).1)

  page : 0 < st.sizes.pages
  page = omega (arith, (valid st Q.valid).legal.pages-low)

  -- the pending state's rows are the same
  asked-rows : EventTaken asked k m
  asked-rows =
      record {
        known = ok_rows.known;
        closed = ok_rows.closed;
        none-wide = ok_rows.none-wide;
        none-prepared = ok_rows.none-prepared;
        first-free = ok_rows.first-free;
        own-free = ok_rows.own-free;
        some-free = ok_rows.some-free;
        fits = ok_rows.fits;
      }

  asked-valid : state_ok asked ≡ true
  asked-valid = lines-valid st line second (Event k m a) Q.valid refl (event-op-row st img ms k m a row) (omega (arith, event-some k, event-needs st k m a))

  ready : Ready (with_open asked 1) k m
  ready = event-begun asked k m a asked-valid Q.durable.behind.sixteen Q.writers.sixty-four Q.writers.four asked-rows

  -- writer 1 holds nothing
  none-held : (p l : ℕ) → holds st 1 p l ≡ false
  none-held p l =
      case_on (slotted st p)
      (λ t.
      rw (t, nothing-held asked k m a asked-valid Q.durable.behind.sixteen Q.writers.sixty-four Q.writers.four asked-rows (slot_for st p) (ltb-true (slot_for st p) st.sizes.slots t))
      (in-none l))
      (λ t. rw t)

  -- the meters' lines and numbers are the reference machine's
  other : is_wide st.wide 1 ≡ false
  other = not_wide st b 1 Q.narrow (omega arith)

  seen : (l : ℕ) → l < 64 → line_bytes img st.sizes (seen_frame st 1 0 l) l ≡ read_line b 1 0 l
  seen l low = seen-line st img b Never Q.durable Q.writers 1 0 l (omega arith) page low (λ x. x)

  number : (l : ℕ) → l < 64 → meter_in st img l ≡ meter_on b l
  number l low =
      ap (λ (x : List ℕ). word_at x 0) (seen-narrow st img 1 other 0 l ∙ seen l low ∙ sym (unheld-line st img b Never Q.durable Q.writers 1 0 l (omega arith) page low (none-held 0 l)))

  line-bytes : (l : ℕ) → l < 64 → Bytes (read_line b 1 0 l)
  line-bytes l low = subst Bytes (seen l low) (bytes-part img _ 64 Q.durable.bytes)

  finished : (l v : ℕ) → l < 64 → meter_line st img l v ≡ line_words (read_line (written 1 0 l 0 8 (bytes_of 8 v) b) 1 0 l)
  finished l v low =
      finished-narrow st img 1 other 0 l 0 8 (bytes_of 8 v)
      ∙ ap line_words (ap (λ (x : List ℕ). merged x 0 8 (bytes_of 8 v)) (seen l low) ∙ merged-read b 1 0 l 0 8 (bytes_of 8 v) (omega arith) (omega (arith, length-bytes 8 v)))

  pub facts : Facts line second machine ms k m a
  facts =
      record {
        first-line =
            finished (first_meter k m) (first_number ms k m (meter_in st img (first_meter k m)) a) first
            ∙ ap (λ (x : ℕ). line_words (read_line (written 1 0 (first_meter k m) 0 8 (bytes_of 8 (first_number ms k m x a)) b) 1 0 (first_meter k m))) (number (first_meter k m) first);
        second-line =
            λ t.
            sym (row-yes (moves_credit k) (meter_line st img (own_meter k m) (rolled ms (own_meter k m) (meter_in st img (own_meter k m)) a)) (replicate 8 0) t)
            ∙ (finished (own_meter k m) (rolled ms (own_meter k m) (meter_in st img (own_meter k m)) a) own
            ∙ ap (λ (x : ℕ). line_words (read_line (written 1 0 (own_meter k m) 0 8 (bytes_of 8 (rolled ms (own_meter k m) x a)) b) 1 0 (own_meter k m))) (number (own_meter k m) own));
        first-bytes = line-bytes (first_meter k m) first;
        own-bytes = line-bytes (own_meter k m) own;
        amount = ap (λ (x : ℕ). amount_bad ms k m x a) (sym (number (first_meter k m) first)) ∙ event-amount st img ms k m a row;
      }

  -- writer 1 begun
  begun : Quiet past (with_open asked 1) img b
  begun =
      let ws = Q.writers in
      record {
        valid = ready.ok;
        pending = refl;
        durable = durable-kept st img b b st.next _ _ (λ p l h i. refl) Q.durable;
        writers = record { four = length-set st.writers.opened 1 true ∙ ws.four; sixty-four = ws.sixty-four; held_low = ws.held_low; own-copy = ws.own-copy; no_writes = ws.no_writes; ready = ws.ready };
        work = Q.work;
        narrow = record { state = Q.narrow.state; book = Q.narrow.book };
      }

  eight : 0 < needs (with_open asked 1) (Write 1 0 (first_meter k m) 0 8)
  unfolding needs
  eight = omega arith

  abbrev op : Op
  op = Write 1 0 (first_meter k m) 0 8

  first-busy : Busy past (first_asked asked k m) img (with_work (under (first_task ms k m a b) (needs (with_open asked 1) op)) b)
  first-busy =
      let bytes = first_bytes ms k m a b in
      asked-busy (with_open asked 1) img b op line (first_task ms k m a b) begun (ap not other) eight
      (write-row (with_open asked 1) k m (first_meter k m) line ready first ready.first-free)
      (bytes, bytes-bytes_of 8 _, omega (arith, length-bytes 8 (first_number ms k m (meter_on b (first_meter k m)) a)), all_left (with_open asked 1) op line (first_task ms k m a b), facts.first-line, line-bytes (first_meter k m) first)

  first_under : Under past (first_asked asked k m) img (first_task ms k m a b) (with_work idle b) 0
  unfolding needs
  first_under = record { low = eight; busy = first-busy }

  pub event-moving : Moving past asked img machine
  event-moving =
      let e : event_needs k ≡ event_needs k - 0 = omega arith in
      record {
        moduli = ms;
        kind = k;
        meter = m;
        amount = a;
        event = refl;
        valid = asked-valid;
        durable = durable-kept st img b machine st.next st.writers _ (λ p l h i. refl) Q.durable;
        narrow = record { state = Q.narrow.state; book = Q.narrow.book };
        four = Q.writers.four;
        sixty-four = Q.writers.sixty-four;
        no_writes = λ p l i lp ll li. Q.writers.no_writes 1 p l i (omega arith) lp ll li (none-held p l);
        facts = facts;
        work = ap (under (moving ms k m a)) e;
        stage = in-first 0 refl first_under;
      }
