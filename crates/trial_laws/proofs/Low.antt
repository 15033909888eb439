-- How many stores a trial makes, at most.
use Prim.Native.Nat.{ℕ, ◌+◌, ◌-◌, ◌*◌, ◌%◌, ◌^◌, ◌≤◌, min}
use mathlib.Core.Bool.{true, false, cond, not, ◌||◌}
use mathlib.Core.List.{List, [], ◌∷◌}
use mathlib.Core.Path.{◌≡◌, refl, ap, ◌∙◌}
use native.Mathlib.Omega.{arith}
use lib.Dec.{ltb, eqb}
use lib.ListN.{length, take, drop, replicate, length-take}
use borrow.Author.Tests.{ltb-false, not-true}
use Rattle.bounded.specs.Rows.{refusal}
use Rattle.bounded.proofs.Tests.{case_on, row_keeps, or_right}
use Rattle.layout.specs.declared.Sizes.{Sizes}
use Rattle.fresh.specs.Fresh.{format_row}
use Rattle.state.specs.State.{State}
use Rattle.state.specs.declared.Op.{Op}
use Rattle.state.specs.declared.Op.TheVariants.{Consolidate, Commit as CommitOp, Checkpoint as CheckpointOp, Copy}
use Rattle.state.specs.Wide.{is_wide}
use Rattle.operations.specs.Operations.{needs}
use Rattle.validity.specs.Validity.{state_ok}
use Rattle.refinement.specs.Stores.{World, completed, left}
use Rattle.refinement.specs.Mount.{format_call}
use Rattle.refinement.specs.Freeing.{freed_page}
use Rattle.refinement.specs.Calls.{begin_rows, begin_of, abort_rows, abort_of, write_call_rows, changes_nothing, write_of, commit_call_rows, commit_op, commit_of, free_call_rows, free_of, checkpoint_call_rows, checkpoint_of, asked, step_rows, run_of}
use Rattle.refinement.specs.Run.{run, exec}
use Rattle.refinement.proofs.StepCall.{stepped_by-sizes}
use Rattle.refinement.proofs.Valid.{legal-sizes}
use Rattle.state_words.specs.Decoded.{start, size, part, decoded}
use Rattle.text.specs.declared.Line.{Line}
use Rattle.trials.specs.declared.Ask.{Ask}
use Rattle.trials.specs.declared.Ask.TheVariants.{Begin, Write, Free, Checkpoint, Commit, Abort}
use Rattle.trials.specs.declared.Spent.{Spent}
use Rattle.trials.specs.Trials.{call_of, nothing, stores_for, plus, Tried, formatted, made, with_room, put, put_all, committed, as_done, as_abandoned, played}
use Rattle.trial_lines.specs.Lines.{Work, first, numbers_of, sizes_of, with_setting, is_round, with_round, acted, act}
use Rattle.trial_laws.specs.Pages.{after}
use Rattle.trial_laws.specs.Counts.{Within, exactly, of_call}
use Rattle.placing.proofs.Needed.{answered-low, taken-valid, consolidate-low, commit-low, wide_low, checkpoint-low}

-- ---- a call

-- at most b stores, if b is enough for a consolidation and for a copy of each entry
stores-within : (a : Ask) (v : World) (b : ℕ) → 262 ≤ b → (state_ok v.st ≡ true → 8 * v.st.sizes.entries + 2 ≤ b) → (exec (call_of a) v).stores ≤ b
unfolding exec begin_of abort_of write_of commit_of free_of checkpoint_of
stores-within Begin v b h f = answered-low (refusal (begin_rows v.st 0)) 0 b (λ e. omega arith)
stores-within (Write p x) v b h f =
    answered-low (refusal (write_call_rows v.st v.image 0 p 0 0 1 (x ∷ []))) _ b
    (λ e.
    row_keeps (λ (n : ℕ). n ≤ b) (changes_nothing v.st v.image 0 p 0 0 1 (x ∷ [])) 0 _ (omega arith)
    (row_keeps (λ (n : ℕ). n ≤ b) (is_wide v.st.wide 0) 9 8 (omega arith) (omega arith)))
stores-within Free v b h f = answered-low (refusal (free_call_rows v.st v.image)) _ b (λ e. omega (arith, consolidate-low v.st (freed_page v.st)))
stores-within Checkpoint v b h f =
    answered-low (refusal (checkpoint_call_rows v.st v.image)) _ b
    (λ e. omega (arith, checkpoint-low v.st (taken-valid (state_ok v.st) (drop 1 (checkpoint_call_rows v.st v.image)) e)))
stores-within Commit v b h f =
    answered-low (refusal (commit_call_rows v.st v.image 0)) _ b
    (λ e.
    let ok = taken-valid (state_ok v.st) (drop 1 (commit_call_rows v.st v.image 0)) e in
    row_keeps (λ (op : Op). needs v.st op ≤ b) (is_wide v.st.wide 0) Copy (CommitOp 0) (omega (arith, wide_low v.st ok, f ok)) (omega (arith, commit-low v.st ok 0)))
stores-within Abort v b h f = answered-low (refusal (abort_rows v.st 0)) 0 b (λ e. omega arith)

-- in any world
stores-most : (a : Ask) (v : World) → (exec (call_of a) v).stores ≤ 514
stores-most a v = stores-within a v 514 (omega arith) (λ ok. omega (arith, (legal-sizes v.st ok).entries-high))

-- where there are no entries, as in every world of a trial
stores-low : (a : Ask) (v : World) → v.st.sizes.entries ≡ 0 → (exec (call_of a) v).stores ≤ 262
stores-low a v e = stores-within a v 262 (omega arith) (λ ok. omega (arith, e))

none-low : (b : ℕ) → Within b nothing
none-low b = record { written = omega arith; journal = omega arith; copies = omega arith; tables = omega arith }

pub within_more : {b c : ℕ} {s : Spent} → Within b s → b ≤ c → Within c s
within_more {b} {c} {s} h l =
    record {
      written = omega (arith, h.written);
      journal = omega (arith, h.journal);
      copies = omega (arith, h.copies);
      tables = omega (arith, h.tables);
    }

kinds-low : (a : Ask) (b n : ℕ) → 262 ≤ b → n ≤ b → Within b (stores_for a n)
unfolding stores_for
kinds-low Begin b n m h = none-low b
kinds-low (Write p x) b n m h = record { written = h; journal = omega arith; copies = omega arith; tables = omega arith }
kinds-low Free b n m h =
    row_keeps (Within b) (ltb n 6) nothing (record { written = 0; journal = 5; copies = n - 6; tables = 1 }) (none-low b)
    (record { written = omega arith; journal = omega arith; copies = omega arith; tables = omega arith })
kinds-low Checkpoint b n m h = record { written = omega arith; journal = omega arith; copies = omega arith; tables = h }
kinds-low Commit b n m h = record { written = omega arith; journal = h; copies = omega arith; tables = omega arith }
kinds-low Abort b n m h = none-low b

sum_low : (x y b c : ℕ) → x ≤ b → y ≤ c → (x + y) % 2 ^ 64 ≤ b + c
sum_low x y b c h k = omega arith

sum-exact : (x y : ℕ) → x ≤ 2 ^ 63 → y ≤ 514 → (x + y) % 2 ^ 64 ≡ x + y
sum-exact x y h k = omega arith

plus-low : {b c : ℕ} {s t : Spent} → Within b s → Within c t → Within (b + c) (plus s t)
unfolding plus
plus-low {b} {c} {s} {t} h k =
    record {
      written = sum_low s.written t.written b c h.written k.written;
      journal = sum_low s.journal t.journal b c h.journal k.journal;
      copies = sum_low s.copies t.copies b c h.copies k.copies;
      tables = sum_low s.tables t.tables b c h.tables k.tables;
    }

-- and there a call's stores are added exactly
pub counts-exact : (a : Ask) (t : Tried) → Within (2 ^ 63) t.spent → (made a t).spent ≡ exactly t.spent (of_call a t)
unfolding made plus
counts-exact a t h =
    let s = t.spent in
    let k = stores_for a (exec (call_of a) t.world).stores in
    let l = kinds-low a 514 (exec (call_of a) t.world).stores (omega arith) (stores-most a t.world) in
    rw (sum-exact s.written k.written h.written l.written, sum-exact s.journal k.journal h.journal l.journal, sum-exact s.copies k.copies h.copies l.copies, sum-exact s.tables k.tables h.tables l.tables)

-- ---- counts at most b, and no entries

-- an operation asked for keeps the sizes where its completion does
asks-same : (st : State) (op : Op) (row : ℕ) → (completed st op).sizes ≡ st.sizes → (asked row st op (replicate 8 0)).state.sizes ≡ st.sizes
asks-same st op row e =
    let same : State → Type 0 = λ s. s.sizes ≡ st.sizes in
    row_keeps same (eqb row 0) _ st (row_keeps same (eqb (needs st op) 0) (completed st op) _ e refl) refl

pub record Few (b : ℕ) (s : Spent) (v : World) : Type 0 where
  pub counts : Within b s
  pub no-entries : v.st.sizes.entries ≡ 0

abbrev pub Low : ℕ → Tried → Type 0
Low b t = Few b t.spent t.world

pub low-more : {b c : ℕ} {s : Spent} {v : World} → Few b s v → b ≤ c → Few c s v
low-more h l = record { counts = within_more h.counts l; no-entries = h.no-entries }

-- a call and all its stores keep the sizes
asked-sizes : (a : Ask) (v : World) → (exec (call_of a) v).world.st.sizes ≡ v.st.sizes
unfolding exec begin_of abort_of write_of commit_of free_of checkpoint_of
asked-sizes Begin v = row_keeps (λ (s : State). s.sizes ≡ v.st.sizes) (eqb (refusal (begin_rows v.st 0)) 0) _ v.st refl refl
asked-sizes (Write p x) v =
    let same : State → Type 0 = λ s. s.sizes ≡ v.st.sizes in
    row_keeps same (eqb (refusal (write_call_rows v.st v.image 0 p 0 0 1 (x ∷ []))) 0) _ v.st
    (row_keeps same (changes_nothing v.st v.image 0 p 0 0 1 (x ∷ [])) v.st _ refl refl) refl
asked-sizes Free v = asks-same v.st (Consolidate (freed_page v.st)) (refusal (free_call_rows v.st v.image)) refl
asked-sizes Checkpoint v = asks-same v.st CheckpointOp (refusal (checkpoint_call_rows v.st v.image)) refl
asked-sizes Commit v =
    asks-same v.st (commit_op v.st 0) (refusal (commit_call_rows v.st v.image 0))
    (row_keeps (λ (op : Op). (completed v.st op).sizes ≡ v.st.sizes) (is_wide v.st.wide 0) Copy (CommitOp 0) refl refl)
asked-sizes Abort v = row_keeps (λ (s : State). s.sizes ≡ v.st.sizes) (eqb (refusal (abort_rows v.st 0)) 0) _ v.st refl refl

run-sizes : (k : ℕ) (v : World) → (exec (run k) v).world.st.sizes ≡ v.st.sizes
unfolding exec run_of
run-sizes k v =
    row_keeps (λ (s : State). s.sizes ≡ v.st.sizes) (eqb (refusal (step_rows v.st v.image)) 0) _ v.st (stepped_by-sizes (min k (left v.st)) v) refl

pub made-low : {b : ℕ} (a : Ask) (t : Tried) → Low b t → Low (b + 262) (made a t)
unfolding made
made-low a t h =
    let v = t.world in
    let d = exec (call_of a) v in
    record {
      counts = plus-low h.counts (kinds-low a 262 d.stores (omega arith) (stores-low a v h.no-entries));
      no-entries = ap (λ (z : Sizes). z.entries) (run-sizes d.stores d.world ∙ asked-sizes a v) ∙ h.no-entries;
    }

formatted-low : (b : ℕ) (z : Sizes) (v : World) → z.entries ≡ 0 → v.st.sizes.entries ≡ 0 → Low b (formatted z v)
unfolding formatted format_call
formatted-low b z v e none =
    record { counts = none-low b; no-entries = case_on (eqb (format_row z v.image) 0) (λ t. rw t e) (λ t. rw t none) }

-- ---- a round

pub room-low : (b : ℕ) (a : Ask) (t : Tried) → Low b t → Low (b + 786) (with_room a t)
unfolding with_room
room-low b a t h =
    let u = made a t in
    let e = made-low a t h in
    row_keeps (Low (b + 786)) (eqb u.number 19) (made a (made Checkpoint u)) u
    (low-more (made-low a (made Checkpoint u) (made-low Checkpoint u e)) (omega arith)) (low-more e (omega arith))

pub put_low : (b x p : ℕ) (t : Tried) → Low b t → Low (b + 1310) (put x p t)
unfolding put
put_low b x p t h =
    let u = made (Write p x) t in
    let e = made-low (Write p x) t h in
    let f = with_room Free u in
    let g = room-low (b + 262) Free u e in
    row_keeps (Low (b + 1310)) (eqb u.number 15) (cond (eqb f.number 0) (made (Write p x) f) f) u
    (row_keeps (Low (b + 1310)) (eqb f.number 0) (made (Write p x) f) f (low-more (made-low (Write p x) f g) (omega arith)) (low-more g (omega arith)))
    (low-more e (omega arith))

pub all-low : (b x : ℕ) (ps : List ℕ) (t : Tried) → Low b t → Low (b + 1310 * length ps) (put_all x ps t)
unfolding put_all
all-low b x [] t h = low-more h (omega arith)
all-low b x (p ∷ ps) t h =
    let u = put x p t in
    let e = put_low b x p t h in
    row_keeps (Low (b + 1310 * length (p ∷ ps))) (eqb u.number 0) (put_all x ps u) u
    (low-more (all-low (b + 1310) x ps u e) (omega arith)) (low-more e (omega arith))

pub committed-low : (b : ℕ) (t : Tried) → Low b t → Low (b + 786) (committed t)
unfolding committed
committed-low b t h = row_keeps (Low (b + 786)) (eqb t.number 0) (with_room Commit t) t (room-low b Commit t h) (low-more h (omega arith))

pub played-low : (b x : ℕ) (ps : List ℕ) → length ps ≤ 64 → (t : Tried) → Low b t → Low (b + 85150) (played ps x t)
unfolding played as_done as_abandoned
played-low b x ps few t h =
    let begun = made-low Begin t h in
    let all = all-low (b + 262) x ps (made Begin t) begun in
    let u = committed (put_all x ps (made Begin t)) in
    let end = committed-low (b + 262 + 1310 * length ps) (put_all x ps (made Begin t)) all in
    row_keeps (Low (b + 85150)) (eqb u.number 0) (as_done u) (as_abandoned (made Abort u))
    (low-more end (omega arith)) (low-more (made-low Abort u end) (omega arith))

-- ---- lines

abbrev pub LowIn : ℕ → Work → Type 0
LowIn b w = Low b w.tried

setting-low : (b : ℕ) (q : Line) (w : Work) → LowIn b w → LowIn b (with_setting q w)
unfolding with_setting
setting-low b q w h =
    row_keeps (LowIn b) (eqb q.count 3)
    (record { tried = formatted (sizes_of q) w.tried.world; lines = 1; set = eqb (formatted (sizes_of q) w.tried.world).number 0 })
    (record { tried = w.tried; lines = 1; set = false }) (formatted-low b (sizes_of q) w.tried.world refl h.no-entries) h

pub round-low : (b : ℕ) (q : Line) (w : Work) → LowIn b w → LowIn (b + 85150) (with_round q w)
unfolding with_round as_abandoned
round-low b q w h =
    case_on (is_round q)
    (λ e.
    let few : q.count ≤ 64 = ltb-false 64 q.count (or_right (ltb q.count 1) (ltb 64 q.count) (not-true (ltb q.count 1 || ltb 64 q.count) e)) in
    rw e (played-low b (w.lines % 256) (take q.count q.numbers) (omega (arith, length-take q.count q.numbers)) w.tried h))
    (λ e. rw e (low-more h (omega arith)))

pub act-low : (b : ℕ) (w : Work) (line : List ℕ) → LowIn b w → LowIn (b + 85150) (act w line)
unfolding acted
act-low b w line h =
    let q = numbers_of line in
    row_keeps (LowIn (b + 85150)) (eqb w.lines 0) (with_setting q w) (cond (not w.set || ltb 1000 w.lines) w (with_round q w))
    (low-more (setting-low b q w h) (omega arith))
    (row_keeps (LowIn (b + 85150)) (not w.set || ltb 1000 w.lines) w (with_round q w) (low-more h (omega arith)) (round-low b q w h))

after-low : (b : ℕ) (lines : List (List ℕ)) (w : Work) → LowIn b w → LowIn (b + 85150 * length lines) (after lines w)
unfolding after
after-low b [] w h = low-more h (omega arith)
after-low b (line ∷ lines) w h = low-more (after-low (b + 85150) lines (act w line) (act-low b w line h)) (omega arith)

pub first-low : (img setting : List ℕ) → LowIn 0 (act (first img) setting)
unfolding acted first decoded part start size
first-low img setting = setting-low 0 (numbers_of setting) (first img) (record { counts = none-low 0; no-entries = refl })

pub counts-low : (buffer setting : List ℕ) (rounds : List (List ℕ)) → length rounds ≤ 1000 → Within 85150000 (after rounds (act (first buffer) setting)).tried.spent
counts-low buffer setting rounds few = within_more (after-low 0 rounds (act (first buffer) setting) (first-low buffer setting)).counts (omega arith)
