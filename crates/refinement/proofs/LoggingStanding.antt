-- What holds while a wide transaction is open: a mount counts no entry, and finds what it would without the transaction. Its writer sees its entries, and
-- of a line without one, as any other writer, the committed copy.
use Prim.Native.Nat.{ℕ, ◌<◌}
use mathlib.Core.Bool.{Bool, true, false, not, ◌&&◌, cond}
use mathlib.Core.List.{List}
use mathlib.Core.Path.{◌≡◌, sym, ap, ap₂, ◌∙◌, subst}
use native.Mathlib.Nat.{le_antisymm}
use lib.Dec.{ltb, eqb}
use lib.ListN.{get_or}
use borrow.Author.Tests.{eqb-true, eqb-false, ltb-true, ltb-false}
use Rattle.bounded.proofs.Tab.{tab-ext}
use Rattle.replay.specs.Map.{page_frames}
use Rattle.bounded.proofs.Tests.{case_on, contradicts}
use Rattle.words.specs.Words.{word}
use Rattle.image.specs.Lines.{line_bytes}
use Rattle.entries.specs.Entries.{key_of, key_page, key_line}
use Rattle.entries.proofs.EntryLaws.{page-of-key, line-of-key, entry-le, entry_found, key-read}
use Rattle.masks.proofs.Members.{in-none}
use Rattle.state.specs.State.{State, own_frame}
use Rattle.state.specs.declared.Op.{Op}
use Rattle.state.specs.declared.Op.TheVariants.{Copy}
use Rattle.state.specs.declared.Pending.{Pending}
use Rattle.state.specs.Wide.{is_wide, has_entry, entry_for}
use Rattle.operations.specs.Operations.{is_idle, slot_for, slotted}
use Rattle.validity.specs.Validity.{state_ok}
use Rattle.refinement.specs.Frames.{seen_frame, frame_of}
use Rattle.refinement.specs.Settled.{no_pending}
use Rattle.refinement.specs.Stores.{World, completed}
use Rattle.refinement.specs.Wide.{entry_bytes, is_copy}
use Rattle.refinement.specs.Beside.{counted}
use Rattle.refinement.specs.Calls.{seen_line}
use Rattle.refinement.specs.Reference.{Reference, Cell, none, idle, laid_over, read_line}
use Rattle.refinement.proofs.Copies.{own-frame, map_found}
use Rattle.refinement.proofs.Copying.{key_at}
use Rattle.refinement.proofs.Invariant.{Durable}
use Rattle.refinement.proofs.Logging.{Logged, Stage, settled, writes, asked, beside, Logging, unheld, copy-row, keys-long, beside-some}
use Rattle.refinement.proofs.MountCall.{mounted-committed}
use Rattle.refinement.proofs.Standing.{Standing}
use Rattle.refinement.proofs.StateValid.{valid}
use Rattle.refinement.proofs.Viewed.{Viewed, shown-copy}
use Rattle.refinement.proofs.WideValid.{copied-valid}

module _ {past : List ℕ} (st : State) (img : List ℕ) (b : Reference) (G : Logging past st img b) where
  ok : state_ok (completed st Copy) ≡ true
  ok = copied-valid st G.valid (copy-row st G.valid G.low)

  D : Durable past (completed st Copy) img b
  D = G.durable

  none-counted : counted st ≡ 0
  none-counted = by-stage G.stage
    where
      of_other : is_copy st.pending.op ≡ false → counted st ≡ 0
      of_other e = ap (λ (x : Bool). cond (x && ltb 0 st.pending.made) st.wide.count 0) e

      by-stage : Stage past st img b → counted st ≡ 0
      by-stage (settled rest work) = of_other (ap (λ (p : Pending). is_copy p.op) rest)
      by-stage (writes p l o n e logs) = of_other (ap is_copy e)
      by-stage (asked e made work) = ap₂ (λ (o : Op) (m : ℕ). cond (is_copy o && ltb 0 m) st.wide.count 0) e made
      by-stage (beside h busy) = of_other (beside-some st.pending.op h).1

  pub logging-viewed : Viewed past st img b
  logging-viewed =
      let v = D.view in
      record {
        bytes = D.bytes;
        past-kept = D.past-kept;
        view = v;
        shows = D.shows;
        mounts = D.mounts;
        sizes-same = D.sizes-same;
        head-same = D.head-same;
        tail-same = D.tail-same;
        count_same = D.count_same ∙ sym none-counted;
        keys-same = λ some. absurd (some none-counted);
        behind = D.behind;
        shown = λ p l lp ll. shown-copy img (page_frames (word img)) v.sizes v.table v.count v.keys p l D.count_same ∙ mounted-committed (completed st Copy) img b ok D p l lp ll;
        map = map_found (completed st Copy) img ok D;
        own =
            λ p l lp ll.
            shown-copy img (own_frame st) st.sizes st.table (counted st) st.wide.keys p l none-counted
            ∙ ap (λ (f : ℕ). line_bytes img st.sizes f l) (own-frame (completed st Copy) img ok D p l lp)
            ∙ D.committed p l lp ll;
      }

  -- ---- where nothing is pending

  nothing-under-way : not (is_idle st.pending.op) ≡ false → (st.pending ≡ no_pending) × (b.work ≡ idle)
  nothing-under-way e = by-stage G.stage
    where
      by-stage : Stage past st img b → (st.pending ≡ no_pending) × (b.work ≡ idle)
      by-stage (settled rest work) = (rest, work)
      by-stage (writes p l o n q logs) = contradicts (ap (λ (x : Op). not (is_idle x)) q) e
      by-stage (asked q made work) = contradicts (ap (λ (x : Op). not (is_idle x)) q) e
      by-stage (beside h busy) = contradicts (ap not (beside-some st.pending.op h).0) e

  -- so no entry is being written
  pub unlogged : not (is_idle st.pending.op) ≡ false → (e : ℕ) → Logged st.wide st.pending.op e → ⊥
  unlogged i e h = subst (λ (o : Op). Logged st.wide o e) (ap (λ (x : Pending). x.op) (nothing-under-way i).0) h

  busy : (b.work ≡ idle → ⊥) → is_idle st.pending.op ≡ false
  busy n = by-stage G.stage
    where
      by-stage : Stage past st img b → is_idle st.pending.op ≡ false
      by-stage (settled rest work) = absurd (n work)
      by-stage (writes p l o i q logs) = ap is_idle q
      by-stage (asked q made work) = ap is_idle q
      by-stage (beside h busy) = (beside-some st.pending.op h).0

  -- a line without unfinished writes is seen in its committed copy
  seen-frame : (w p l : ℕ) → w < 4 → seen_frame st w p l ≡ frame_of (own_frame st) st.sizes st.table p l
  unfolding seen_frame
  seen-frame w p l lw =
      case_on (slotted st p)
      (λ t. rw (t, unheld st G.valid G.low w (slot_for st p) lw (ltb-true (slot_for st p) st.sizes.slots t), in-none l))
      (λ t. rw t)

  seen-page : (w p l : ℕ) → w < 4 → p < st.sizes.pages → l < 64 → ((i : ℕ) → i < 64 → b.writes w p l i ≡ none)
      → line_bytes img st.sizes (seen_frame st w p l) l ≡ read_line b w p l
  seen-page w p l lw lp ll bare =
      ap (λ (f : ℕ). line_bytes img st.sizes f l) (seen-frame w p l lw ∙ own-frame (completed st Copy) img ok D p l lp)
      ∙ D.committed p l lp ll
      ∙ tab-ext 64 (b.pages p l) (λ i. laid_over (b.writes w p l i) (b.pages p l i)) (λ i j. ap (λ (c : Cell). laid_over c (b.pages p l i)) (sym (bare i j)))

  -- a line with an entry in it
  seen_entry : not (is_idle st.pending.op) ≡ false → (p l : ℕ) → l < 64 → entry_for st.wide p l < st.wide.count
      → entry_bytes img st.sizes (entry_for st.wide p l) ≡ read_line b st.wide.writer p l
  seen_entry e p l ll low =
      let i : ℕ = entry_for st.wide p l in
      let k : key_at st i ≡ key_of p l = entry_found st.wide.keys st.wide.count (key_of p l) low in
      G.entries.line i low (unlogged e i)
      ∙ ap₂ (read_line b st.wide.writer) (ap key_page k ∙ page-of-key p l ll) (ap key_line k ∙ line-of-key p l ll)

  pub logging-seen : not (is_idle st.pending.op) ≡ false → (w p l : ℕ) → w < 4 → p < st.sizes.pages → l < 64 → seen_line st img w p l ≡ read_line b w p l
  logging-seen e w p l lw lp ll =
      let i : ℕ = entry_for st.wide p l in
      case_on (is_wide st.wide w)
      (λ t.
      let same : st.wide.writer ≡ w = eqb-true st.wide.writer w t in
      case_on (has_entry st.wide p l)
      (λ h. rw (t, h) (seen_entry e p l ll (ltb-true i st.wide.count h) ∙ ap (λ (x : ℕ). read_line b x p l) same))
      (λ h.
      let bare = le_antisymm (entry-le st.wide.keys st.wide.count (key_of p l)) (ltb-false i st.wide.count h) in
      rw (t, h) (seen-page w p l lw lp ll (λ j lj. subst (λ (x : ℕ). b.writes x p l j ≡ none) same (G.entries.no_writes p l j lp ll lj bare)))))
      (λ t. rw t (seen-page w p l lw lp ll (λ j lj. G.alone w p l j lw (λ q. eqb-false st.wide.writer w t (sym q)) lp ll lj)))

pub logging-standing : {past : List ℕ} (v : World) (b : Reference) → Logging past v.st v.image b → Standing past v b
logging-standing v b G =
    let st = v.st in
    let img = v.image in
    let facts = valid st G.valid in
    record {
      valid = G.valid;
      sixteen = G.durable.behind.sixteen;
      four = G.four;
      sixty-four = G.sixty-four;
      keys = keys-long st img b G;
      viewed = logging-viewed st img b G;
      busy = busy st img b G;
      work-idle = λ e. (nothing-under-way st img b G e).1;
      none-pending = λ e. (nothing-under-way st img b G e).0;
      book = λ e w l. ap (λ (x : ℕ). eqb x w) (sym G.book);
      key-stored = λ e i l. sym (ap (λ (ks : List ℕ). get_or ks i 0) G.entries.keys ∙ key-read (word img) st.sizes st.wide.count i facts.legal.entries-high facts.entries.few l);
      seen = logging-seen st img b G;
      quiet = λ e n. absurd (n G.low);
    }
