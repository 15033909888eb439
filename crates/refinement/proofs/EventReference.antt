-- The reference machine when an event is completed: writer 1's lines laid on the pages are the meters moved.
use Prim.Native.Nat.{ℕ, ◌+◌, ◌-◌, ◌<◌}
use mathlib.Core.Bool.{Bool, true, false, ◌&&◌, cond}
use mathlib.Core.List.{List}
use mathlib.Core.Path.{◌≡◌, refl, sym, ap, ap₂, ◌∙◌, subst}
use native.Mathlib.Omega.{arith}
use lib.Dec.{ltb, leb, eqb}
use lib.ListN.{get_or}
use borrow.Author.Tests.{eqb-true, eqb-false, le-leb}
use Rattle.bounded.proofs.Tab.{tab-ext}
use Rattle.bounded.proofs.Tests.{case_on, row_keeps}
use Rattle.meters.specs.Meters.{moves_credit, first_meter, own_meter}
use Rattle.state.specs.State.{State}
use Rattle.state.specs.Held.{no_writer}
use Rattle.refinement.specs.Reference.{Reference, Cell, none, byte, laid_over, idle, with_work, written, laid, emptied, with_meter, first_moved, moved}
use Rattle.refinement.proofs.Invariant.{Quiet}
use Rattle.refinement.proofs.Keeps.{quiet-pages}
use Rattle.refinement.proofs.Moving.{first_bytes, own_bytes, first_reference, second_reference, lines_reference}
use Rattle.refinement.proofs.WriteHeld.{writes_kept}

-- what holds of both pairs of answers holds of the pair chosen by one test
pub rows-keep : {A B : Type 0} (R : A → B → Type 0) (c : Bool) (x y : A) (u v : B) → R x u → R y v → R (cond c x y) (cond c u v)
rows-keep R true x y u v p q = p
rows-keep R false x y u v p q = q

-- ---- pages and unfinished writes told otherwise, the same where there are lines

quiet-writes : {past : List ℕ} (st : State) (img : List ℕ) (b : Reference) (writes : ℕ → ℕ → ℕ → ℕ → Cell)
    → ((w p l i : ℕ) → w < 4 → p < st.sizes.pages → l < 64 → i < 64 → b.writes w p l i ≡ writes w p l i)
    → Quiet past st img b → Quiet past st img (record { pages = b.pages; writes = writes; work = b.work; wide = b.wide })
quiet-writes st img b writes e q =
    let ws = q.writers in
    let D = q.durable in
    record {
      valid = q.valid;
      pending = q.pending;
      durable =
          record { bytes = D.bytes; past-kept = D.past-kept; view = D.view; shows = D.shows; mounts = D.mounts; sizes-same = D.sizes-same; head-same = D.head-same; tail-same = D.tail-same; count_same = D.count_same; behind = D.behind; map-long = D.map-long; own = D.own; committed = D.committed };
      writers =
          record {
            four = ws.four;
            sixty-four = ws.sixty-four;
            held_low = ws.held_low;
            own-copy = λ w p l h k m n t.
                ws.own-copy w p l h k m n t
                ∙ tab-ext 64 (λ i. laid_over (b.writes w p l i) (b.pages p l i)) (λ i. laid_over (writes w p l i) (b.pages p l i)) (λ i j. ap (λ (c : Cell). laid_over c (b.pages p l i)) (e w p l i h k m j));
            no_writes = λ w p l i h k m j t. sym (e w p l i h k m j) ∙ ws.no_writes w p l i h k m j t;
            ready = ws.ready;
          };
      work = q.work;
      narrow = record { state = q.narrow.state; book = q.narrow.book };
    }

-- ---- a line of writer 1 laid on a page

-- one byte of it: x is what writer 1 had there, y the page's
line-laid : (p l i n : ℕ) (bytes : List ℕ) (x : Cell) (y : ℕ)
    → laid_over (cond (eqb 1 1 && eqb p 0 && eqb l n && leb 0 i && ltb i (0 + 8)) (byte (get_or bytes (i - 0) 0)) x) y
    ≡ cond (eqb p 0 && eqb l n && ltb i 8) (get_or bytes i 0) (laid_over x y)
line-laid p l i n bytes x y =
    let e : i - 0 ≡ i = omega arith in
    case_on (eqb p 0)
    (λ t.
    case_on (eqb l n)
    (λ u.
    case_on (ltb i 8)
    (λ v. rw (t, u, v, le-leb 0 i (omega arith), e))
    (λ v. rw (t, u, v, le-leb 0 i (omega arith))))
    (λ u. rw (t, u)))
    (λ t. rw t)

module _ (ms : List ℕ) (k m a : ℕ) (b : Reference) (P : ℕ) (nothing : (p l i : ℕ) → p < P → l < 64 → i < 64 → b.writes 1 p l i ≡ none) where
  abbrev cell : Reference → ℕ → ℕ → ℕ → ℕ
  cell c p l i = laid_over (c.writes 1 p l i) (c.pages p l i)

  first-laid : (p l i : ℕ) → p < P → l < 64 → i < 64 → cell (first_reference ms k m a b) p l i ≡ (first_moved ms k m a b).pages p l i
  first-laid p l i lp ll li =
      line-laid p l i (first_meter k m) (first_bytes ms k m a b) (b.writes 1 p l i) (b.pages p l i)
      ∙ ap (λ (c : Cell). cond (eqb p 0 && eqb l (first_meter k m) && ltb i 8) (get_or (first_bytes ms k m a b) i 0) (laid_over c (b.pages p l i))) (nothing p l i lp ll li)

  second-laid : (p l i : ℕ) → p < P → l < 64 → i < 64
      → cell (second_reference ms k m a b) p l i ≡ cond (eqb p 0 && eqb l (own_meter k m) && ltb i 8) (get_or (own_bytes ms k m a b) i 0) ((first_moved ms k m a b).pages p l i)
  second-laid p l i lp ll li =
      line-laid p l i (own_meter k m) (own_bytes ms k m a b) ((first_reference ms k m a b).writes 1 p l i) (b.pages p l i)
      ∙ ap (λ (x : ℕ). cond (eqb p 0 && eqb l (own_meter k m) && ltb i 8) (get_or (own_bytes ms k m a b) i 0) x) (first-laid p l i lp ll li)

  pub pages-laid : (p l i : ℕ) → p < P → l < 64 → i < 64 → (laid 1 (lines_reference ms k m a b)).pages p l i ≡ (moved ms k m a b).pages p l i
  pages-laid p l i lp ll li =
      rows-keep (λ (x y : Reference). cell x p l i ≡ y.pages p l i) (moves_credit k) (second_reference ms k m a b) (first_reference ms k m a b) _ (first_moved ms k m a b)
      (second-laid p l i lp ll li) (first-laid p l i lp ll li)

  -- of other writers nothing changes, and writer 1 has nothing again
  others-kept : (v p l i : ℕ) → (v ≡ 1 → ⊥) → (lines_reference ms k m a b).writes v p l i ≡ b.writes v p l i
  others-kept v p l i n =
      let one = writes_kept b 1 0 (first_meter k m) 0 8 (first_bytes ms k m a b) v p l i (λ h. n h.0) in
      let two = writes_kept (first_reference ms k m a b) 1 0 (own_meter k m) 0 8 (own_bytes ms k m a b) v p l i (λ h. n h.0) in
      row_keeps (λ (x : Reference). x.writes v p l i ≡ b.writes v p l i) (moves_credit k) (second_reference ms k m a b) (first_reference ms k m a b) (two ∙ one) one

  pub writes-emptied : (v p l i : ℕ) → p < P → l < 64 → i < 64 → (emptied 1 (laid 1 (lines_reference ms k m a b))).writes v p l i ≡ (moved ms k m a b).writes v p l i
  writes-emptied v p l i lp ll li =
      let same : (moved ms k m a b).writes v p l i ≡ b.writes v p l i =
      row_keeps (λ (x : Reference). x.writes v p l i ≡ b.writes v p l i) (moves_credit k) _ (first_moved ms k m a b) refl refl in
      case_on (eqb v 1)
      (λ t. rw t (sym (same ∙ subst (λ (x : ℕ). b.writes x p l i ≡ none) (sym (eqb-true v 1 t)) (nothing p l i lp ll li))))
      (λ t. rw t (others-kept v p l i (eqb-false v 1 t) ∙ sym same))

-- the state that the commit leaves, held against the pages with the meters moved
pub moved-quiet : {past : List ℕ} (st : State) (img : List ℕ) (b : Reference) (ms : List ℕ) (k m a : ℕ)
    → ((p l i : ℕ) → p < st.sizes.pages → l < 64 → i < 64 → b.writes 1 p l i ≡ none)
    → b.wide ≡ no_writer → Quiet past st img (emptied 1 (laid 1 (with_work idle (lines_reference ms k m a b)))) → Quiet past st img (moved ms k m a (with_work idle b))
moved-quiet {past = past} st img b ms k m a nothing narrow q =
    let P : ℕ = st.sizes.pages in
    let c : Reference = emptied 1 (laid 1 (with_work idle (lines_reference ms k m a b))) in
    let r : Quiet past st img (record { pages = (moved ms k m a b).pages; writes = c.writes; work = idle; wide = c.wide }) =
    quiet-pages st img c (moved ms k m a b).pages (λ p l i lp ll li. pages-laid ms k m a b P nothing p l i lp ll li) q in
    let s : Quiet past st img (record { pages = (moved ms k m a b).pages; writes = (moved ms k m a b).writes; work = idle; wide = c.wide }) =
    quiet-writes st img (record { pages = (moved ms k m a b).pages; writes = c.writes; work = idle; wide = c.wide }) (moved ms k m a b).writes (λ v p l i lv lp ll li. writes-emptied ms k m a b P nothing v p l i lp ll li) r in
    subst (Quiet past st img) same
    (subst (λ (x : ℕ). Quiet past st img (record { pages = (moved ms k m a b).pages; writes = (moved ms k m a b).writes; work = idle; wide = x })) (q.narrow.book ∙ sym wide-same) s)
  where
    wide-same : (moved ms k m a b).wide ≡ no_writer
    wide-same = row_keeps (λ (x : Reference). x.wide ≡ no_writer) (moves_credit k) _ (first_moved ms k m a b) narrow narrow

    same : record { pages = (moved ms k m a b).pages; writes = (moved ms k m a b).writes; work = idle; wide = (moved ms k m a b).wide } ≡ moved ms k m a (with_work idle b)
    same =
        rows-keep (λ (x y : Reference). ◌≡◌ {A = Reference} (record { pages = x.pages; writes = x.writes; work = idle; wide = x.wide }) y) (moves_credit k)
        _ (first_moved ms k m a b) _ (first_moved ms k m a (with_work idle b)) refl refl
