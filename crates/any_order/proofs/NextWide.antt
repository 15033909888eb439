-- The next store, with a wide transaction open or being copied; and of whatever is pending.
use Prim.Native.Nat.{ℕ, ◌+◌, ◌-◌, ◌*◌, ◌/◌, ◌%◌, ◌<◌, ◌≤◌}
use mathlib.Core.Bool.{Bool, true, false, ◌&&◌, ◌||◌}
use mathlib.Core.List.{List}
use mathlib.Core.Logic.{inl, inr}
use mathlib.Core.Path.{◌≡◌, refl, sym, ap, ◌∙◌, subst}
use native.Mathlib.Omega.{arith}
use lib.Dec.{leb, eqb}
use lib.ListN.{get_or}
use borrow.Author.Tests.{leb-true, leb-false, ne_eqb}
use Rattle.bounded.proofs.Tests.{case_on, contradicts, or-goes}
use Rattle.replay.specs.Map.{page_frames}
use Rattle.layout.specs.declared.Sizes.{Sizes}
use Rattle.layout.specs.Layout.{layout_word, count_word, line_word, entry_word}
use Rattle.words.specs.Words.{word, store}
use Rattle.entries.specs.Entries.{key_page, key_line}
use Rattle.mount.proofs.View.{View, view_of}
use Rattle.mount.proofs.Dead.{Dead, dead-entry}
use Rattle.state.specs.State.{State}
use Rattle.state.specs.declared.Pending.{Pending}
use Rattle.state.specs.declared.Op.{Op}
use Rattle.state.specs.declared.Op.TheVariants.{Consolidate, Checkpoint, Log, Copy, Commit, Confirm, Event, Format, Idle, Prepare, Write}
use Rattle.operations.specs.Operations.{is_idle, needs}
use Rattle.refinement.specs.Consolidate.{consolidate_at}
use Rattle.refinement.specs.Checkpoint.{checkpoint_at_of}
use Rattle.refinement.specs.Recall.{frame_of}
use Rattle.refinement.specs.Wide.{log_at, copy_at, copy_value}
use Rattle.refinement.specs.Stores.{stepped, completed, store_at, store_value, store_made}
use Rattle.refinement.specs.Calls.{world_of}
use Rattle.refinement.specs.Reference.{Reference, emptied}
use Rattle.refinement.proofs.Cases.{Invariant, narrow, logging, copying}
use Rattle.refinement.proofs.Copies.{committed-low, durable-legal, mount-apart, frame-kept}
use Rattle.refinement.proofs.Invariant.{Durable}
use Rattle.refinement.proofs.CopyPlaces as CopyPlaces
use Rattle.refinement.proofs.Copying.{key_at, in_place, Copying}
use Rattle.refinement.proofs.Keys.{view-keys}
use Rattle.refinement.proofs.Logging.{Beside, Logs, settled, writes, asked, beside, shut, Logging, at_rest}
use Rattle.refinement.proofs.Logging as Logging
use Rattle.refinement.proofs.LogMid.{own, own-low, made-low}
use Rattle.refinement.proofs.Pending.{pends}
use Rattle.refinement.proofs.Sound.{is-busy}
use Rattle.refinement.proofs.StateValid.{valid}
use Rattle.refinement.proofs.StepBeside.{same_store}
use Rattle.refinement.proofs.StepCopy.{counts}
use Rattle.refinement.proofs.Steps.{stepped-image}
use Rattle.refinement.proofs.Valid.{good}
use Rattle.leftovers.specs.Leftovers.{under-entry, copied_word}
use Rattle.leftovers.proofs.AfterMount.{found_state}
use Rattle.any_order.specs.AnyOrder.{is_last, to_fence, decides, next_at}
use Rattle.any_order.proofs.Harmless.{LeftIn, Harmless, aside-left, found}
use Rattle.any_order.proofs.Next.{in_header, Next, deciding, aside, past-header, not_last, is-last, busy-next, event-next}
use Rattle.mount.proofs.Verdict.{entry-shown}
use Rattle.refinement.proofs.OwnFrames.{frame_is}

-- ---- a wide commit's stores: the first and the last decide

copy-first : (st : State) → st.pending.made ≡ 0 → to_fence st Copy ≡ true
copy-first st e = rw e

copy-last : (st : State) → st.pending.made + 1 ≡ needs st Copy → to_fence st Copy ≡ true
copy-last st e = or-second (eqb st.pending.made 0) (is_last st Copy) (is-last st.pending.made (needs st Copy) e)
  where
    or-second : (a b : Bool) → b ≡ true → a || b ≡ true
    or-second a b h = case_on a (λ t. rw t) (λ t. rw t h)

copy-other : (st : State) → 1 ≤ st.pending.made → st.pending.made + 1 < needs st Copy → to_fence st Copy ≡ false
copy-other st begun more =
    sym (or-goes (eqb st.pending.made 0) (is_last st Copy) false (ne_eqb st.pending.made 0 (λ q. omega (arith, q, begun))) (sym (not_last st.pending.made (needs st Copy) more)))

-- ---- a wide transaction is open

-- beside it a consolidation or a checkpoint goes on as without it
same_at : (st : State) (op : Op) → Beside op → (img : List ℕ) (i : ℕ) → store_at (shut st) op i ≡ store_at st op i
unfolding consolidate_at checkpoint_at_of
same_at st (Consolidate p) s img i = refl
same_at st Checkpoint s img i = refl
same_at st Idle s img i = elim s [ ]
same_at st (Write _ _ _ _ _) s img i = elim s [ ]
same_at st (Commit _) s img i = elim s [ ]
same_at st (Event _ _ _) s img i = elim s [ ]
same_at st (Prepare _) s img i = elim s [ ]
same_at st (Confirm _) s img i = elim s [ ]
same_at st (Log _ _ _ _) s img i = elim s [ ]
same_at st Copy s img i = elim s [ ]
same_at st Format s img i = elim s [ ]

same-fence : (st : State) (op : Op) → Beside op → to_fence (shut st) op ≡ to_fence st op
unfolding needs
same-fence st (Consolidate p) s = refl
same-fence st Checkpoint s = refl
same-fence st Idle s = elim s [ ]
same-fence st (Write _ _ _ _ _) s = elim s [ ]
same-fence st (Commit _) s = elim s [ ]
same-fence st (Event _ _ _) s = elim s [ ]
same-fence st (Prepare _) s = elim s [ ]
same-fence st (Confirm _) s = elim s [ ]
same-fence st (Log _ _ _ _) s = elim s [ ]
same-fence st Copy s = elim s [ ]
same-fence st Format s = elim s [ ]

beside-next : (st : State) (img : List ℕ) (op : Op) → Beside op → Next (shut st) img op → Next st img op
beside-next st img op s (deciding t h) = deciding (sym (same-fence st op s) ∙ t) (sym (ap in_header (same_at st op s img st.pending.made)) ∙ h)
beside-next st img op s (aside t low h) =
    let at = same_at st op s img st.pending.made in
    aside (sym (same-fence st op s) ∙ t) (omega (arith, at, low))
    (subst (λ (i : List ℕ). Harmless (view_of (word img)) img i) (same_store st op s img st.pending.made) h)

module _ (past : List ℕ) (st : State) (img : List ℕ) (b : Reference) (G : Logging past st img b) where
  abbrev made : ℕ
  made = st.pending.made

  -- a store of a wide write goes to an entry that is not counted
  log-harmless : (p l o n : ℕ) → st.pending.op ≡ Log p l o n → Logs st img b p l o n → Harmless (view_of (word img)) img (store_made st img (Log p l o n) made)
  log-harmless p l o n op L =
      let E : Durable past (completed st Copy) img b = G.durable in
      let e : ℕ = own st img b G p l o n op L in
      let low = own-low st img b G p l o n op L in
      let nine = made-low st img b G p l o n op L in
      let ok = (at_rest st img b G).valid in
      subst (λ (v : View). Harmless v img (store_made st img (Log p l o n) made)) (sym E.shows)
      (inr (
        log_at st p l made,
        store_value st img (Log p l o n) made,
        refl,
        aside-left past (completed st Copy) img b ok E E.count_same (log_at st p l made) (omega arith) (omega (arith, low, nine))
            (subst (λ (y : Sizes). Dead E.view (entry_word y e + made)) E.sizes-same (dead-entry E.view E.mounts.legal e made nine (λ q. omega (arith, E.count_same))))
            (λ q i k lq li lk x. omega (arith, committed-low (completed st Copy) img ok E q i lq)),
      ))

  open_next : Logging.Stage past st img b → is_idle st.pending.op ≡ false → Next st img st.pending.op
  open_next (settled e w) some = contradicts (ap (λ (p : Pending). is_idle p.op) e) some
  open_next (writes p l o n e L) some = subst (Next st img) (sym e) (aside refl (omega arith) (log-harmless p l o n e L))
  open_next (asked e m w) some =
      subst (Next st img) (sym e)
      (deciding (copy-first st m) (ap in_header (ap (copy_at st) m ∙ CopyPlaces.at_first st img)))
  open_next (beside s B) some =
      beside-next st img st.pending.op s (busy-next past (shut st) img (emptied st.wide.writer b) B st.pending.op refl)

-- ---- a wide commit is copied: a store goes under an entry that is counted

module _ (past : List ℕ) (st : State) (img : List ℕ) (b : Reference) (C : Copying past st img b) where
  abbrev done : ℕ
  done = st.pending.made

  abbrev E : Durable past st img (in_place st img b)
  E = C.durable

  copied-left : (e i : ℕ) → e < st.wide.count → i < 8 → LeftIn E.view img (CopyPlaces.copied st img C.valid E e i)
  copied-left e i le li d w F =
      let z = st.sizes in
      let v : View = E.view in
      let key : ℕ = key_at st e in
      let lv : e < v.count = omega (arith, le, E.count_same) in
      let same : get_or d.keys e 0 ≡ key =
      F.keys e lv ∙ ap (λ (ks : List ℕ). get_or ks e 0) (view-keys img v E.shows z st.wide.count E.sizes-same E.count_same ∙ sym C.keys) in
      let f : frame_of (page_frames (word img)) z st.table (key_page key) (key_line key) ≡ frame_of (page_frames (word img)) z v.table (key_page key) (key_line key) =
      frame-kept (page_frames (word img)) z v.table st.table (durable-legal past st img (in_place st img b) E) (mount-apart st img C.valid E) (good st C.valid).pages E.behind
      (key_page key) (key_line key) ((valid st C.valid).entries.page-low e le) in
      let at : CopyPlaces.copied st img C.valid E e i ≡ copied_word (world_of (found_state v d w) img) (get_or d.keys e 0) + i =
      ap (λ (g : ℕ). line_word z g (key_line key) + i) f
      ∙ ap (λ (y : Sizes). line_word y (frame_of (page_frames (word img)) y v.table (key_page key) (key_line key)) (key_line key) + i) (sym E.sizes-same)
      ∙ ap (λ (g : ℕ). line_word v.sizes g (key_line key) + i)
      (sym (frame_is (found v) (page_frames (word img)) v.sizes v.table (entry-shown img v E.shows) (key_page key) (key_line key) (rw E.sizes-same ((valid st C.valid).entries.page-low e le))))
      ∙ ap (λ (x : ℕ). copied_word (world_of (found_state v d w) img) x + i) (sym same) in
      under-entry e i (omega (arith, lv, F.count)) li at

  copy-next : Next st img Copy
  copy-next =
      let n : ℕ = st.wide.count in
      let need = (counts past st img b C).1 in
      let low : done < needs st Copy = (pends st Copy C.valid C.op refl).made-low in
      let begun = C.begun in
      case_on (leb (8 * n + 1) done)
      (λ t.
      let last : done ≡ 8 * n + 1 = omega (arith, low, need, leb-true (8 * n + 1) done t) in
      deciding (copy-last st (omega (arith, need, last))) (ap in_header (ap (copy_at st) last ∙ CopyPlaces.at_last st img)))
      (λ t.
      let before = leb-false (8 * n + 1) done t in
      let e : ℕ = (done - 1) / 8 in
      let i : ℕ = (done - 1) % 8 in
      let made : 1 + (8 * e + i) ≡ done = omega (arith, begun) in
      let le : e < n = omega (arith, before, begun) in
      let li : i < 8 = omega arith in
      let at : copy_at st done ≡ CopyPlaces.copied st img C.valid E e i = ap (copy_at st) (sym made) ∙ CopyPlaces.at-line st img C.valid E e i le li in
      let x : ℕ = copy_value st img done in
      aside (copy-other st begun (omega (arith, need, before))) (omega (arith, at))
      (subst (λ (v : View). Harmless v img (store_made st img Copy done)) (sym E.shows)
      (inr (CopyPlaces.copied st img C.valid E e i, x, ap (λ (a : ℕ). store img a x) at, copied-left e i le li))))

-- ---- whatever is pending

pub any_next : (past : List ℕ) (st : State) (img : List ℕ) (b : Reference) → Invariant past (world_of st img) b → is_idle st.pending.op ≡ false → Next st img st.pending.op
any_next past st img b (narrow (inl r)) some = busy-next past st img b (is-busy st img b r some) st.pending.op refl
any_next past st img b (narrow (inr M)) some = subst (Next st img) (sym M.event) (event-next past st img b M M.stage)
any_next past st img b (logging G) some = open_next past st img b G G.stage some
any_next past st img b (copying C) some = subst (Next st img) (sym C.op) (copy-next past st img b C)

-- one that does not decide is harmless
pub others-harmless : (past : List ℕ) (st : State) (img : List ℕ) (b : Reference) → Invariant past (world_of st img) b → is_idle st.pending.op ≡ false → decides st ≡ false
    → Harmless (view_of (word img)) img (stepped (world_of st img)).image
others-harmless past st img b h some off =
    subst (λ (i : List ℕ). Harmless (view_of (word img)) img i) (sym (stepped-image (world_of st img))) (of (any_next past st img b h some))
  where
    of : Next st img st.pending.op → Harmless (view_of (word img)) img (store_made st img st.pending.op st.pending.made)
    of (deciding t h) = contradicts t off
    of (aside t low h) = h

-- those that decide are those to the header
pub decides-by-word : (past : List ℕ) (st : State) (img : List ℕ) (b : Reference) → Invariant past (world_of st img) b → is_idle st.pending.op ≡ false
    → decides st ≡ in_header (next_at (world_of st img))
decides-by-word past st img b h some = of (any_next past st img b h some)
  where
    of : Next st img st.pending.op → decides st ≡ in_header (next_at (world_of st img))
    of (deciding t h) = t ∙ sym h
    of (aside t low h) = t ∙ sym (past-header (next_at (world_of st img)) low)
