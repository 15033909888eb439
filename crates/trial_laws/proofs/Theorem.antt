-- What rounds leave in the pages: by induction over their lines, with the reference machine beside the store.
use Prim.Native.Nat.{ℕ, ◌+◌, ◌%◌, ◌<◌, ◌≤◌}
use mathlib.Core.Bool.{true, false}
use mathlib.Core.List.{List, [], ◌∷◌, append-nil}
use mathlib.Core.Path.{◌≡◌, refl, sym, ap, subst, ◌∙◌}
use native.Mathlib.Omega.{arith}
use lib.Dec.{ltb, leb, eqb}
use lib.ListN.{length, take, drop, replicate}
use borrow.Author.Tests.{eqb-true, ne_eqb, le-ltb, ltb-false, lt-leb, not-false}
use Rattle.bounded.specs.Tab.{tab}
use Rattle.bounded.proofs.Rows.{none-apply}
use Rattle.bounded.proofs.Tab.{length-tab, tab-ext}
use Rattle.bounded.proofs.Tests.{case_on, contradicts}
use Rattle.words.specs.Words.{Bytes, word, over}
use Rattle.layout.specs.declared.Sizes.{Sizes}
use Rattle.layout.specs.Layout.{sizes_ok, image_length}
use Rattle.mount.specs.Mount.{sizes_from}
use Rattle.mount.proofs.View.{View}
use Rattle.fresh.specs.Fresh.{format_rows}
use Rattle.refinement.specs.Mount.{format_call}
use Rattle.refinement.specs.Stores.{World}
use Rattle.refinement.specs.Run.{recall, exec, formatted_world}
use Rattle.refinement.specs.Recall.{recall_row}
use Rattle.refinement.specs.Reference.{blank, recall_line}
use Rattle.refinement.proofs.Cases.{standing-of}
use Rattle.refinement.proofs.CaseSound.{call-sound}
use Rattle.refinement.proofs.Reached.{reached-first}
use Rattle.refinement.proofs.RecallCall.{row_is}
use Rattle.refinement.proofs.Viewed.{Viewed}
use Rattle.text.specs.declared.Line.{Line}
use Rattle.trials.specs.Trials.{untried, formatted, played}
use Rattle.trial_lines.specs.Lines.{Work, first, numbers_of, sizes_of, with_setting, is_round, with_round, acted, act}
use Rattle.trial_laws.specs.Pages.{line_shown, after, pages_of, marked, left_by, zeros, ShownByRounds, EqualBytes}
use Rattle.trial_laws.proofs.Standing.{Stands, no_writes}
use Rattle.trial_laws.proofs.Round.{abandoned-some, round-done, round-stands}

-- ---- the setting

-- a store of these sizes, just formatted
abbrev pub fresh : Sizes → List ℕ → Work
fresh z img = record { tried = untried (formatted_world z img); lines = 1; set = true }

-- the first line gives sizes that format takes
pub record Taken (img setting : List ℕ) : Type 0 where
  pub number : (format_call (sizes_of (numbers_of setting)) img).number ≡ 0
  pub same : act (first img) setting ≡ fresh (sizes_of (numbers_of setting)) img

setting-taken : (q : Line) (img : List ℕ) → (with_setting q (first img)).set ≡ true
    → ((format_call (sizes_of q) img).number ≡ 0) × (with_setting q (first img) ≡ fresh (sizes_of q) img)
unfolding with_setting first formatted
setting-taken q img =
    case_on (eqb q.count 3)
    (λ e h.
    let k : eqb (format_call (sizes_of q) img).number 0 ≡ true = rw e at h in
    let n = eqb-true (format_call (sizes_of q) img).number 0 k in
    (n, rw (e, n)))
    (λ e h. let k : false ≡ true = rw e at h in contradicts k refl)

pub first_taken : (img setting : List ℕ) → (act (first img) setting).set ≡ true → Taken img setting
unfolding acted first
first_taken img setting h =
    let t = setting-taken (numbers_of setting) img h in
    record { number = t.0; same = t.1 }

-- sizes that format takes, on a fresh image
format-stands : (z : Sizes) (img : List ℕ) → Bytes img → (format_call z img).number ≡ 0
    → Stands z (drop (image_length z) img) (formatted_world z img) zeros no_writes
unfolding format_call
format-stands z img bytes e =
    let none = none-apply (format_rows z (length img)) (omega arith, (omega arith, tt)) e in
    record {
      machine = blank;
      reached = reached-first z (not-false (sizes_ok z) none.0) img bytes (ltb-false (length img) (image_length z) none.1.0);
      work = refl;
      narrow = refl;
      pages = λ p l i. refl;
      writes = λ p l i. refl;
    }

-- ---- a round's line

act-round : (w : Work) (line : List ℕ) → w.set ≡ true → 1 ≤ w.lines → w.lines ≤ 1000 → act w line ≡ with_round (numbers_of line) w
unfolding acted
act-round w line h lo hi = rw (ne_eqb w.lines 0 (λ e. omega arith), h, le-ltb 1000 w.lines hi)

-- where none is abandoned after it, it is a round, and none is abandoned by it
round-of : (q : Line) (w : Work) → (with_round q w).tried.abandoned ≡ 0
    → (is_round q ≡ true) × ((played (take q.count q.numbers) (w.lines % 256) w.tried).abandoned ≡ 0)
unfolding with_round
round-of q w =
    case_on (is_round q)
    (λ e k. (e, rw e at k))
    (λ e k. absurd (abandoned-some w.tried (rw e at k)))

-- a line more: the lines left, and where they may be
pub record Left (w : Work) (lines : List (List ℕ)) : Type 0 where
  pub set : w.set ≡ true
  pub some : 1 ≤ w.lines
  pub few : w.lines + length lines ≤ 1001

pub left-line : (w : Work) (line : List ℕ) (lines : List (List ℕ)) → Left w (line ∷ lines) → (act w line ≡ with_round (numbers_of line) w) × Left (with_round (numbers_of line) w) lines
unfolding with_round
left-line w line lines h =
    let few = h.few in
    (act-round w line h.set h.some (omega arith), record { set = h.set; some = omega arith; few = omega arith })

after-before : (lines : List (List ℕ)) (w : Work) → Left w lines → (after lines w).tried.abandoned ≡ 0 → w.tried.abandoned ≡ 0
unfolding after
after-before [] w h e = e
after-before (line ∷ lines) w h e =
    let n = left-line w line lines h in
    let q = numbers_of line in
    let k = after-before lines (with_round q w) n.1 (subst (λ (u : Work). (after lines u).tried.abandoned ≡ 0) n.0 e) in
    (round-done (pages_of line) (w.lines % 256) w.tried (round-of q w k).1).before

line-stands : {z : Sizes} {past : List ℕ} {f : ℕ → ℕ → ℕ → ℕ} (w : Work) (line : List ℕ) → Stands z past w.tried.world f no_writes
    → (with_round (numbers_of line) w).tried.abandoned ≡ 0 → Stands z past (with_round (numbers_of line) w).tried.world (marked (pages_of line) (w.lines % 256) f) no_writes
unfolding with_round
line-stands w line st k =
    let r = round-of (numbers_of line) w k in
    rw r.0 (round-stands (pages_of line) (w.lines % 256) (omega arith) w.tried st r.1)

after-stands : {z : Sizes} {past : List ℕ} (lines : List (List ℕ)) (w : Work) (f : ℕ → ℕ → ℕ → ℕ) → Left w lines → Stands z past w.tried.world f no_writes
    → (after lines w).tried.abandoned ≡ 0 → Stands z past (after lines w).tried.world (left_by w.lines lines f) no_writes
unfolding after left_by with_round
after-stands [] w f h st e = st
after-stands {z} {past} (line ∷ lines) w f h st e =
    let n = left-line w line lines h in
    let q = numbers_of line in
    let g = marked (pages_of line) (w.lines % 256) f in
    let d = subst (λ (u : Work). (after lines u).tried.abandoned ≡ 0) n.0 e in
    let k = after-before lines (with_round q w) n.1 d in
    subst (λ (u : Work). Stands z past (after lines u).tried.world (left_by (w.lines + 1) lines g) no_writes) (sym n.0)
    (after-stands lines (with_round q w) g n.1 (line-stands w line st k) d)

-- ---- what a recall shows

over-all : (xs : List ℕ) → length xs ≡ 64 → over (replicate 64 0) 0 xs ≡ xs
unfolding over
over-all xs h = rw h (append-nil xs)

module _ {z : Sizes} {past : List ℕ} {v : World} {f : ℕ → ℕ → ℕ → ℕ} (st : Stands z past v f no_writes) (p l : ℕ) (has : p < z.pages) (low : l < 64) where
  seen : Viewed past v.st v.image st.machine
  seen = (standing-of v st.machine st.reached.related).viewed

  sizes : sizes_from (word v.image) ≡ z
  sizes = ap (λ (w : View). w.sizes) seen.shows ∙ seen.sizes-same ∙ st.reached.sizes

  recalled : recall_row v.image p l (replicate 64 0) ≡ 0
  recalled =
      let same : (sizes_from (word v.image)).pages ≡ z.pages = ap (λ (y : Sizes). y.pages) sizes in
      let inside : leb z.pages p ≡ false = lt-leb z.pages p has in
      let t : ltb 63 l ≡ false = le-ltb 63 l (omega arith) in
      row_is v.image st.machine seen p l (replicate 64 0)
      ∙ rw (same, inside, t)

  line-shown : line_shown v p l ≡ tab 64 (f p l)
  unfolding line_shown exec
  line-shown =
      (call-sound (recall p l (replicate 64 0)) tt v st.machine st.reached.related).right.1 recalled
      ∙ over-all (recall_line st.machine p l) (length-tab 64 (st.machine.pages p l))
      ∙ tab-ext 64 (st.machine.pages p l) (f p l) (λ i h. st.pages p l i)

-- ---- the theorems

pub shown-by-rounds : ShownByRounds
shown-by-rounds buffer setting rounds given p l has low =
    let z = sizes_of (numbers_of setting) in
    let t = first_taken buffer setting given.taken in
    let w = fresh z buffer in
    let few = given.few in
    let none : (after rounds w).tried.abandoned ≡ 0 = subst (λ (u : Work). (after rounds u).tried.abandoned ≡ 0) t.same given.done in
    let st = after-stands rounds w zeros (record { set = refl; some = omega arith; few = omega arith }) (format-stands z buffer given.bytes t.number) none in
    subst (λ (u : Work). line_shown (after rounds u).tried.world p l ≡ tab 64 (left_by 1 rounds zeros p l)) (sym t.same) (line-shown st p l has low)

pub equal-bytes : EqualBytes
equal-bytes buffer buffer' setting setting' rounds given given' p l has has' low =
    shown-by-rounds buffer setting rounds given p l has low ∙ sym (shown-by-rounds buffer' setting' rounds given' p l has' low)
