-- The eighth store of a pending write: the frame that is not the committed one has the finished line whole, and the line becomes held.
use Prim.Native.Nat.{ℕ, ◌+◌, ◌*◌, ◌<◌}
use mathlib.Core.Bool.{Bool, true, false, cond}
use mathlib.Core.List.{List}
use mathlib.Core.Logic.{◌⊎◌, ⊎_elim}
use mathlib.Core.Path.{◌≡◌, refl, sym, ap, ◌∙◌, subst}
use native.Mathlib.Omega.{arith}
use lib.Dec.{ltb}
use lib.ListN.{get_or, length-set}
use borrow.Author.Tests.{ltb-true, ltb-false, le-ltb}
use Rattle.bounded.proofs.Tab.{tab-ext}
use Rattle.bounded.proofs.Tests.{case_on, contradicts, and_left}
use Rattle.layout.specs.declared.Sizes.{Sizes}
use Rattle.layout.specs.Layout.{Legal, page_word, line_word}
use Rattle.image.specs.Lines.{line_bytes}
use Rattle.words.specs.Words.{word, word_at, flat}
use Rattle.image.proofs.LineLaws.{line-words, flat_line}
use Rattle.words.proofs.Runs.{words-tab}
use Rattle.journal.specs.declared.Slot.{Slot}
use Rattle.replay.specs.Table.{slot_in, pages_apart}
use Rattle.replay.specs.Map.{page_frames}
use Rattle.masks.specs.Lines.{in_mask}
use Rattle.state.specs.State.{State, own_frame}
use Rattle.state.specs.declared.Op.{Op}
use Rattle.state.specs.declared.Op.TheVariants.{Write}
use Rattle.state.specs.Held.{held_at}
use Rattle.operations.specs.Operations.{slot_for, slotted, needs}
use Rattle.validity.specs.Validity.{state_ok}
use Rattle.operations.proofs.Taken.{WriteTaken}
use Rattle.refinement.specs.Frames.{other_frame}
use Rattle.refinement.specs.Write.{write_slot, write_table}
use Rattle.refinement.specs.Stores.{stepped, completed, store_at, store_value, store_made}
use Rattle.refinement.proofs.Pending.{pends}
use Rattle.refinement.proofs.WriteValid.{write-valid}
use Rattle.refinement.specs.Reference.{Reference, idle, writing, with_work, advances, written, read_line}
use Rattle.refinement.proofs.Copies.{durable-legal, durable-fits}
use Rattle.refinement.proofs.Invariant.{Durable, holds, Writing, Never, Changing, Busy, Related}
use Rattle.refinement.proofs.Records.{stored_same}
use Rattle.refinement.proofs.StoreKept.{unslotted-durable}
use Rattle.refinement.proofs.Stepping.{Mid, mid-durable, mid-writing, mid-landed}
use Rattle.refinement.proofs.StepLast.{step-last}
use Rattle.refinement.proofs.Valid.{good}
use Rattle.refinement.proofs.WriteTable.{Own, Takes, own-or-takes, page-slot, slot_whole, other-kept, frame-kept, write-behind, home-kept}
use Rattle.refinement.proofs.WriteMid.{at-work, write-pending, target-low, given, new_line, new-length, new-bytes, value-is, write-doing, write_mid, write-on}
use Rattle.refinement.proofs.WriteHeld.{same_or_not, holds-new, holds_kept, mask-other, held-slot-kept, held-low-kept, writes_kept, line_same}

module _ (past : List ℕ) (st : State) (img : List ℕ) (b : Reference) (B : Busy past st img b) (w p l o n : ℕ) (e : st.pending.op ≡ Write w p l o n)
    (last : st.pending.made + 1 ≡ 8) where
  abbrev op : Op
  op = Write w p l o n

  abbrev m : ℕ
  m = st.pending.made

  abbrev z : Sizes
  z = st.sizes

  abbrev image : List ℕ
  image = store_made st img op m

  abbrev after : State
  after = completed st op

  abbrev bytes : List ℕ
  bytes = given st img b w p l o n (write-doing past st img b B w p l o n e)

  abbrev machine : Reference
  machine = written w p l o n bytes (with_work idle b)

  abbrev target : ℕ
  target = other_frame (slot_in st.table (write_slot st p)) l

  T : WriteTaken st w p l o n
  T = write-pending st w p l o n B.valid e

  M : Mid past st img b B.durable op m
  M = write_mid past st img b B w p l o n e m (omega arith)

  -- as after any store of it
  D : Durable past st image b
  D = mid-durable past st img b B.durable op m M

  W : Writing st image b (Changing op)
  W = mid-writing past st img b B.durable op m M (subst (λ (q : Op). Writing st img b (Changing q)) e B.writers)

  landed : (j : ℕ) → j < 8 → word image (line_word z target l + j) ≡ get_or st.pending.line j 0
  landed j h =
      mid-landed past st img b B.durable op m M
      (subst (λ (q : Op). (i : ℕ) → i < m → word img (store_at st q i) ≡ store_value st img q i) e B.landed) j (omega arith)

  -- the line is there, whole
  line-there : line_bytes image z target l ≡ read_line machine w p l
  line-there =
      let d = write-doing past st img b B w p l o n e in
      let line : List ℕ = new_line st img b w p l o n d in
      line-words image z target l D.bytes (target-low past st img b B.valid B.durable w p l o n T) T.args.line_low (durable-fits past st image b D)
      ∙ ap flat
      (tab-ext 8 (λ k. word image (line_word z target l + k)) (λ k. word_at line (0 + 8 * k))
      (λ k h. landed k h ∙ value-is st img b w p l o n d k h ∙ (let q : 8 * k ≡ 0 + 8 * k = omega arith in ap (word_at line) q))
      ∙ sym (words-tab line 0 8))
      ∙ flat_line line (new-bytes st img b w p l o n d) (new-length st img b w p l o n d)

  ok : state_ok after ≡ true
  ok = write-valid st w p l o n B.valid D.behind.sixteen W.sixty-four e

  apart : pages_apart z (write_table st p).page ≡ true
  apart = (good after ok).pages

  cases : Own st p ⊎ Takes st p
  cases = own-or-takes st p B.valid T.some-free

  legal : Legal z
  legal = durable-legal past st image b D

  home : slot_for st p ≡ z.slots → own_frame st p ≡ word image (page_word p)
  home un =
      D.own p T.args.page-low
      ∙ ap (λ (c : Bool). cond c (slot_in st.table (slot_for st p)).original (word image (page_word p))) (le-ltb (slot_for st p) z.slots (omega arith))

  durable : Durable past after image machine
  durable =
      record {
        bytes = D.bytes;
        past-kept = D.past-kept;
        view = D.view;
        shows = D.shows;
        mounts = D.mounts;
        sizes-same = D.sizes-same;
        head-same = D.head-same;
        tail-same = D.tail-same;
        count_same = D.count_same;
        behind =
            write-behind st p legal D.behind.sixteen T.args.page-low apart cases (page_frames (word image)) D.view.table home
            (λ un. unslotted-durable (page_frames (word image)) z D.view.table st.table legal D.behind p T.args.page-low un) D.behind;
        map-long = D.map-long;
        own = λ q lq. D.own q lq ∙ sym (home-kept st p legal D.behind.sixteen T.args.page-low apart cases (page_frames (word image)) home q lq);
        committed =
            λ q i lq li.
            ap (λ (f : ℕ). line_bytes image z f i) (frame-kept st p legal D.behind.sixteen T.args.page-low apart cases (page_frames (word image)) home q i lq)
            ∙ D.committed q i lq li;
      }

  -- the writer's own copy, and another's
  abbrev Copy : ℕ → ℕ → ℕ → Type 0
  Copy v q i = line_bytes image z (other_frame (slot_in after.table (slot_for after q)) i) i ≡ read_line machine v q i

  copy-new : Copy w p l
  copy-new =
      ap (λ (k : ℕ). line_bytes image z (other_frame (slot_in after.table k) l) l) (page-slot st p legal D.behind.sixteen T.args.page-low apart cases)
      ∙ ap (λ (f : ℕ). line_bytes image z f l) (other-kept st p legal D.behind.sixteen T.args.page-low apart cases l)
      ∙ line-there

  copy-kept : (v q i : ℕ) → v < 4 → q < z.pages → i < 64 → ((v ≡ w) × (q ≡ p) × (i ≡ l) → ⊥) → holds st v q i ≡ true → Copy v q i
  copy-kept v q i lv lq li out h =
      let low : slot_for st q < z.slots = ltb-true (slot_for st q) z.slots (and_left (slotted st q) (in_mask (held_at st.writers.held v (slot_for st q)) i) h) in
      ap (λ (t : Slot). line_bytes image z (other_frame t i) i) (slot_whole st p legal D.behind.sixteen T.args.page-low apart cases q lq low)
      ∙ W.own-copy v q i lv lq li out h
      ∙ line_same (with_work idle b) w p l o n bytes v q i out

  holds-other : (v q i : ℕ) → v < 4 → q < z.pages → ((v ≡ w) × (q ≡ p) × (i ≡ l) → ⊥) → holds after v q i ≡ holds st v q i
  holds-other = holds_kept st w p l o n B.valid T D.behind.sixteen W.sixty-four apart

  writers : Writing after image machine Never
  writers =
      record {
        four = W.four;
        sixty-four = length-set st.writers.held (16 * w + write_slot st p) _ ∙ W.sixty-four;
        held_low = held-low-kept st w p l o n B.valid T D.behind.sixteen W.sixty-four apart W.held_low;
        own-copy =
            λ v q i lv lq li _ h.
            ⊎_elim
            (λ s.
            subst (λ (x : ℕ). Copy x q i) (sym s.0) (subst (λ (x : ℕ). Copy w x i) (sym s.1) (subst (λ (x : ℕ). Copy w p x) (sym s.2) copy-new)))
            (λ out. copy-kept v q i lv lq li out (sym (holds-other v q i lv lq out) ∙ h))
            (same_or_not st w p l o n B.valid T D.behind.sixteen W.sixty-four apart v q i);
        no_writes =
            λ v q i j lv lq li lj h.
            ⊎_elim
            (λ s.
            contradicts (holds-new st w p l o n B.valid T D.behind.sixteen W.sixty-four apart)
            (subst (λ (x : ℕ). holds after w p x ≡ false) s.2 (subst (λ (x : ℕ). holds after w x i ≡ false) s.1 (subst (λ (x : ℕ). holds after x q i ≡ false) s.0 h))))
            (λ out. writes_kept (with_work idle b) w p l o n bytes v q i j out ∙ W.no_writes v q i j lv lq li lj (sym (holds-other v q i lv lq out) ∙ h))
            (same_or_not st w p l o n B.valid T D.behind.sixteen W.sixty-four apart v q i);
        ready =
            λ k.
            stored_same z st.head st.table after.table st.writers.held after.writers.held st.writers.prepared
            (λ s. mask-other st w p l o n B.valid T D.behind.sixteen W.sixty-four apart st.writers.prepared s T.unprepared)
            (λ s. held-slot-kept st w p l o n B.valid T D.behind.sixteen W.sixty-four apart st.writers.prepared s k) image (W.ready k);
      }

  pub write-ends : Related past (stepped (record { st = st; image = img })) (advances 1 b.work b)
  unfolding needs
  write-ends =
      step-last past st img b op (writing w p l o n bytes) image e (at-work st img b w p l o n (write-doing past st img b B w p l o n e)) last refl
      (record { valid = ok; pending = refl; durable = durable; writers = writers; work = refl; narrow = record { state = B.narrow.state; book = B.narrow.book } })

-- one step of a pending write
pub step-write : (past : List ℕ) (st : State) (img : List ℕ) (b : Reference) → Busy past st img b → (w p l o n : ℕ) → st.pending.op ≡ Write w p l o n
    → Related past (stepped (record { st = st; image = img })) (advances 1 b.work b)
unfolding needs
step-write past st img b B w p l o n e =
    let left : st.pending.made < 8 = (pends st (Write w p l o n) B.valid e refl).made-low in
    case_on (ltb (st.pending.made + 1) 8)
    (λ t. write-on past st img b B w p l o n e (ltb-true (st.pending.made + 1) 8 t))
    (λ t. write-ends past st img b B w p l o n e (omega (arith, left, ltb-false (st.pending.made + 1) 8 t)))
