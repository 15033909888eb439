-- The last store of a pending commit, or the one of a confirm, that of head: a mount finds the records then, all at once, and the lines that the writer held
-- are committed.
use Prim.Native.Nat.{ℕ, ◌+◌, ◌*◌, ◌/◌, ◌%◌, ◌^◌, ◌<◌, ◌≤◌}
use mathlib.Core.Bool.{true, false}
use mathlib.Core.List.{List}
use mathlib.Core.Path.{◌≡◌, refl, sym, ap, ap₂, ◌∙◌, subst}
use native.Mathlib.Omega.{arith}
use lib.Dec.{ltb, eqb}
use lib.ListN.{length}
use borrow.Author.Tests.{ltb-true, ltb-false, eqb-true, eqb-false, ne_eqb}
use Rattle.bounded.specs.Count.{Once}
use Rattle.bounded.proofs.Tab.{tab-ext}
use Rattle.bounded.proofs.Tests.{case_on, contradicts, and_left}
use Rattle.layout.specs.declared.Sizes.{Sizes}
use Rattle.layout.specs.Layout.{Legal, frames, head_word, record_word, image_length}
use Rattle.image.specs.Lines.{line_bytes}
use Rattle.words.specs.Words.{word, store}
use Rattle.words.proofs.WordLaws.{length-store, bytes-store, drop-store}
use Rattle.journal.specs.declared.Record.{Record}
use Rattle.replay.specs.declared.Table.{Table}
use Rattle.journal.specs.Records.{position, word_of_record}
use Rattle.replay.specs.Table.{slot_in, replay, frame_names}
use Rattle.replay.specs.Map.{page_frames}
use Rattle.mount.proofs.Append.{Appendable, Landed, appended, append-view, append-taken}
use Rattle.replay.proofs.Tables.{Sixteen}
use Rattle.mount.proofs.Verdict.{Taken, names_in}
use Rattle.mount.proofs.View.{View, Shows}
use Rattle.masks.specs.Lines.{in_mask}
use Rattle.state.specs.State.{State}
use Rattle.state.specs.declared.Op.{Op}
use Rattle.state.specs.declared.Op.TheVariants.{Commit}
use Rattle.state.specs.Held.{held_at}
use Rattle.operations.specs.Operations.{slot_for, slotted, needs}
use Rattle.validity.specs.Validity.{state_ok}
use Rattle.operations.proofs.Taken.{CommitTaken}
use Rattle.refinement.specs.Commit.{commit_record, commit_at, commit_value, commit_head, commit_table}
use Rattle.refinement.specs.Frames.{other_frame}
use Rattle.refinement.specs.Stores.{stepped, completed, store_at, store_value, store_made}
use Rattle.refinement.proofs.Closed.{closed-holds, others-hold, closed-opened-length, closed-held-length}
use Rattle.refinement.proofs.CommitValid.{committed-valid}
use Rattle.refinement.proofs.Pending.{pends}
use Rattle.refinement.proofs.StateValid.{valid}
use Rattle.refinement.specs.Recall.{frame_of}
use Rattle.refinement.specs.Reference.{Reference, Cell, laid_over, idle, committing, with_work, laid, emptied, advances, read_line, recall_line}
use Rattle.refinement.proofs.Invariant.{Behind, Durable, holds, Writing, Never, Changing, Quiet, Busy, Related, Narrow, not_wide}
use Rattle.refinement.proofs.CommitCopies.{names-kept, frame-held, frame-other, other_after, closed_none, others_keep, not-both}
use Rattle.refinement.proofs.CommitMid.{own_view, own-shows, own-mounts, commit-pending, count, commit-names, commit-right, at-record, value-record, at_head, value-head, commit-needs, commit-doing, commit-on}
use Rattle.refinement.proofs.CommitNames.{behind-shapes, behind-apart, behind_more, once_more, same_home}
use Rattle.refinement.proofs.Copies.{names-once, durable-fits}
use Rattle.refinement.proofs.HeaderStore.{header-fits, header-page, header-line, header-copy, header-home}
use Rattle.refinement.proofs.CallMounted.{view-sixteen}
use Rattle.refinement.proofs.StoreKept.{behind-ext}
use Rattle.refinement.proofs.Records.{Stored}
use Rattle.refinement.proofs.StepLast.{step-last}
use Rattle.refinement.proofs.Valid.{good}

-- ---- what a mount finds once head is stored

module _ (past : List ℕ) (st : State) (img : List ℕ) (b : Reference) (ok : state_ok st ≡ true) (D : Durable past st img b) (w : ℕ) (T : CommitTaken st w) where
  abbrev z : Sizes
  z = st.sizes

  abbrev n : ℕ
  n = count st w

  abbrev new : ℕ → Record
  new = commit_record st w

  abbrev d : Table
  d = D.view.table

  abbrev before : View
  before = own_view past st img b D

  legal : Legal z
  legal = (valid st ok).legal

  whole : image_length z ≤ length img
  whole = durable-fits past st img b D

  sixteen : Sixteen d
  sixteen = view-sixteen img D.view D.shows

  behind : Behind (page_frames (word img)) z (replay z st.head n new d) (commit_table st w)
  behind = behind_more (page_frames (word img)) z st.head n new d st.table legal sixteen D.behind (good st ok).pages (commit-names st w)

  can-append : Appendable before n new
  can-append = record { legal = legal; positions = (valid st ok).positions; room = T.fits; right = commit-right st w ok T }

  module _ (ok' : state_ok (completed st (Commit w)) ≡ true) (landed : Landed (word img) z st.head n new) where
    abbrev pub head_stored : List ℕ
    head_stored = store img head_word (position z st.head n)

    abbrev now : View
    now = appended (word img) before n new

    pub head-shows : Shows head_stored now
    head-shows = append-view img before (own-shows past st img b D) n new can-append (omega (arith, whole)) landed

    names : Once (frames z) (names_in now)
    unfolding frame_names
    names =
        once_more (page_frames (word img)) z st.head n new d st.table legal sixteen D.behind (good st ok).pages (commit-names st w)
        (names-kept st w ok D.behind.sixteen T) (good (completed st (Commit w)) ok').pages (names-once st img ok D)

    takes : Taken (length img) now
    takes =
        let t : Table = commit_table st w in
        let e : Table = replay z st.head n new d in
        append-taken img before (own-shows past st img b D) n new can-append (own-mounts past st img b D)
        (behind-shapes (page_frames (word img)) z e t behind (good (completed st (Commit w)) ok').shapes)
        (behind-apart (page_frames (word img)) z e t behind (good (completed st (Commit w)) ok').pages)
        names

    -- the copies are where they should be
    module _ (machine : Reference) (copies : (p l : ℕ) → p < z.pages → l < 64 → line_bytes img z (frame_of (page_frames (word img)) z (commit_table st w) p l) l ≡ recall_line machine p l) where
      pub committed-durable : Durable past (completed st (Commit w)) head_stored machine
      committed-durable =
          let x : ℕ = position z st.head n in
          let fits = header-fits img z head_word x (omega arith) whole in
          record {
            bytes = bytes-store img head_word x D.bytes;
            past-kept = drop-store img head_word x (image_length z) fits (omega arith) ∙ D.past-kept;
            view = now;
            shows = head-shows;
            mounts = subst (λ (k : ℕ). Taken k now) (sym (length-store img head_word x fits)) takes;
            sizes-same = refl;
            head-same = refl;
            tail-same = refl;
            count_same = D.count_same;
            behind =
                behind-ext (page_frames (word img)) (page_frames (word head_stored)) z (replay z st.head n new d) (commit_table st w) legal behind
                (λ p _ _. header-page img z head_word x (omega arith) whole p);
            map-long = D.map-long;
            own =
                λ p l.
                D.own p l
                ∙ sym (header-home img z head_word x (omega arith) whole (commit_table st w) p
                ∙ same_home (page_frames (word img)) z st.table (commit_table st w) (names-kept st w ok D.behind.sixteen T) p);
            committed = λ p l lp ll. header-copy img z head_word x (omega arith) whole (commit_table st w) p l ∙ copies p l lp ll;
          }

-- ---- what the reference machine has then

-- the writer's lines are the pages'
abbrev pub committed_reference : ℕ → Reference → Reference
committed_reference w b = emptied w (laid w b)

-- where the writer has none, the pages are as they were
pub pages-same : (b : Reference) (w p l : ℕ) → ((i : ℕ) → i < 64 → laid_over (b.writes w p l i) (b.pages p l i) ≡ b.pages p l i) → recall_line b p l ≡ recall_line (committed_reference w b) p l
pages-same b w p l h = tab-ext 64 (b.pages p l) (λ i. laid_over (b.writes w p l i) (b.pages p l i)) (λ i m. sym (h i m))

pub others_same : (b : Reference) (w v p l : ℕ) → (v ≡ w → ⊥) → ((i : ℕ) → i < 64 → laid_over (b.writes w p l i) (b.pages p l i) ≡ b.pages p l i)
    → read_line b v p l ≡ read_line (committed_reference w b) v p l
others_same b w v p l ne h =
    tab-ext 64 (λ i. laid_over (b.writes v p l i) (b.pages p l i)) (λ i. laid_over ((committed_reference w b).writes v p l i) (laid_over (b.writes w p l i) (b.pages p l i)))
    (λ i m. rw (ne_eqb v w ne, h i m))

-- ---- head stored, where the records are in the image

module _ (past : List ℕ) (st : State) (img : List ℕ) (b : Reference) (ok : state_ok st ≡ true) (D₀ : Durable past st img b) (writing : Writing st img b Never)
    (w : ℕ) (can : CommitTaken st w) (stored : Stored st img w) (narrow : Narrow st b) where
  abbrev after : State
  after = completed st (Commit w)

  abbrev image : List ℕ
  image = store img head_word (position st.sizes st.head (count st w))

  abbrev machine : Reference
  machine = committed_reference w (with_work idle b)

  done_ok : state_ok after ≡ true
  done_ok = committed-valid st w ok D₀.behind.sixteen can (not_wide st b w narrow can.writer-low)

  -- the records are there
  all-landed : Landed (word img) st.sizes st.head (count st w) (commit_record st w)
  all-landed j k lj lk =
      let i : ℕ = 4 * j + k in
      let x : i / 4 ≡ j = omega arith in
      let y : i % 4 ≡ k = omega arith in
      ap (word img) (sym (at-record st w i (omega arith) ∙ ap₂ (λ (q c : ℕ). record_word st.sizes (position st.sizes st.head q) + c) x y))
      ∙ stored i (omega arith)
      ∙ value-record st w i (omega arith)
      ∙ ap₂ (λ (q c : ℕ). word_of_record (commit_record st w q) c) x y

  -- nothing of the writer's is on a line that it does not hold
  none-laid : (p l : ℕ) → p < st.sizes.pages → l < 64 → holds st w p l ≡ false → (i : ℕ) → i < 64 → laid_over (b.writes w p l i) (b.pages p l i) ≡ b.pages p l i
  none-laid p l lp ll h i m = ap (λ (c : Cell). laid_over c (b.pages p l i)) (writing.no_writes w p l i can.writer-low lp ll m h)

  copies : (p l : ℕ) → p < st.sizes.pages → l < 64
      → line_bytes img st.sizes (frame_of (page_frames (word img)) st.sizes (commit_table st w) p l) l ≡ recall_line machine p l
  copies p l lp ll =
      case_on (holds st w p l)
      (λ h.
      ap (λ (f : ℕ). line_bytes img st.sizes f l) (frame-held st w ok D₀.behind.sixteen can (page_frames (word img)) p l h)
      ∙ writing.own-copy w p l can.writer-low lp ll (λ x. x) h)
      (λ h.
      ap (λ (f : ℕ). line_bytes img st.sizes f l) (frame-other st w ok D₀.behind.sixteen can (page_frames (word img)) p l h)
      ∙ D₀.committed p l lp ll
      ∙ pages-same (with_work idle b) w p l (none-laid p l lp ll h))

  durable : Durable past after image machine
  durable = committed-durable past st img b ok D₀ w can done_ok all-landed machine copies

  is-other : (v p l : ℕ) → holds after v p l ≡ true → v ≡ w → ⊥
  is-other v p l h q =
      contradicts (subst (λ (x : ℕ). holds after x p l ≡ true) q h) (closed_none st w ok D₀.behind.sixteen can p l)

  keep : (v p l : ℕ) → (v ≡ w → ⊥) → holds after v p l ≡ holds st v p l
  keep = others_keep st w ok D₀.behind.sixteen can

  writers : Writing after image machine Never
  writers =
      let z : Sizes = st.sizes in
      let g : Legal z = (valid st ok).legal in
      let ws = st.writers in
      record {
        four = closed-opened-length z g ws w ∙ writing.four;
        sixty-four = closed-held-length z g ws w ∙ writing.sixty-four;
        held_low =
            λ v s lv ls.
            case_on (eqb v w)
            (λ c. subst (λ (x : ℕ). held_at after.writers.held x s < 2 ^ 64) (sym (eqb-true v w c)) (subst (λ (x : ℕ). x < 2 ^ 64) (sym (closed-holds z g ws w s ls)) (omega arith)))
            (λ c. subst (λ (x : ℕ). x < 2 ^ 64) (sym (others-hold z g ws w v s ls (eqb-false v w c))) (writing.held_low v s lv ls));
        own-copy =
            λ v p l lv lp ll _ h.
            let ne = is-other v p l h in
            let was : holds st v p l ≡ true = sym (keep v p l ne) ∙ h in
            let out : holds st w p l ≡ false = not-both st w ok D₀.behind.sixteen can v p l lv ne was in
            let low : slot_for st p < z.slots = ltb-true (slot_for st p) z.slots (and_left (slotted st p) (in_mask (held_at ws.held v (slot_for st p)) l) was) in
            header-line img z head_word (position z st.head (count st w)) (omega arith) (durable-fits past st img b D₀) (other_frame (slot_in after.table (slot_for after p)) l) l
            ∙ ap (λ (f : ℕ). line_bytes img z f l) (other_after st w ok D₀.behind.sixteen can (word img) p l low out)
            ∙ writing.own-copy v p l lv lp ll (λ x. x) was
            ∙ others_same (with_work idle b) w v p l ne (none-laid p l lp ll out);
        no_writes =
            λ v p l i lv lp ll li h.
            case_on (eqb v w)
            (λ c. rw c)
            (λ c. rw c (writing.no_writes v p l i lv lp ll li (sym (keep v p l (eqb-false v w c)) ∙ h)));
        ready = λ p. absurd (omega arith);
      }

  -- the records join what the image showed
  pub commit-shows : Shows image (appended (word img) (own_view past st img b D₀) (count st w) (commit_record st w))
  commit-shows = head-shows past st img b ok D₀ w can done_ok all-landed

  pub commit-quiet : Quiet past after image machine
  commit-quiet = record { valid = done_ok; pending = refl; durable = durable; writers = writers; work = refl; narrow = record { state = narrow.state; book = case_on (eqb b.wide w) (λ t. rw t) (λ t. rw t narrow.book) } }

-- ---- the last store of a commit

module _ (past : List ℕ) (st : State) (img : List ℕ) (b : Reference) (B : Busy past st img b) (w : ℕ) (e : st.pending.op ≡ Commit w)
    (last : st.pending.made ≡ 4 * count st w) where
  pub records-there : Stored st img w
  records-there i l = subst (λ (q : Op). (j : ℕ) → j < st.pending.made → word img (store_at st q j) ≡ store_value st img q j) e B.landed i (omega arith)

  pub image-is : store_made st img (Commit w) st.pending.made ≡ store img head_word (commit_head st w)
  image-is =
      ap (λ (m : ℕ). store img (commit_at st w m) (commit_value st w m)) last ∙ ap₂ (λ (a x : ℕ). store img a x) (at_head st w) (value-head st w)

  commit-ends : st.pending.made + 1 ≡ needs st (Commit w) → Related past (stepped (record { st = st; image = img })) (advances 1 b.work b)
  commit-ends q =
      step-last past st img b (Commit w) (committing w) (store img head_word (commit_head st w)) e (commit-doing past st img b B w e) q image-is
      (commit-quiet past st img b B.valid B.durable (subst (λ (o : Op). Writing st img b (Changing o)) e B.writers) w (commit-pending st w B.valid e) records-there B.narrow)

-- one step of a pending commit
pub step-commit : (past : List ℕ) (st : State) (img : List ℕ) (b : Reference) → Busy past st img b → (w : ℕ) → st.pending.op ≡ Commit w
    → Related past (stepped (record { st = st; image = img })) (advances 1 b.work b)
step-commit past st img b B w e =
    let m : ℕ = st.pending.made in
    let k : ℕ = needs st (Commit w) in
    let left : m < k = (pends st (Commit w) B.valid e refl).made-low in
    case_on (ltb (m + 1) k)
    (λ t. commit-on past st img b B w e (ltb-true (m + 1) k t))
    (λ t.
    let q : m + 1 ≡ k = omega (arith, left, ltb-false (m + 1) k t) in
    commit-ends past st img b B w e (omega (arith, q, commit-needs st w m left)) q)
