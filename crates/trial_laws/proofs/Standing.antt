-- The reference machine through a call and all its stores.
use Prim.Native.Nat.{ℕ, zero, suc, ◌+◌, ◌-◌, min}
use mathlib.Core.Bool.{Bool, true, false, cond, not, ◌&&◌}
use mathlib.Core.List.{List, [], ◌∷◌}
use mathlib.Core.Path.{◌≡◌, refl, sym, ap, ap₂, subst, ◌∙◌}
use native.Mathlib.Omega.{arith}
use lib.Dec.{ltb, leb, eqb}
use lib.ListN.{length, get_or}
use borrow.Author.Tests.{le-ltb, eqb-true, eqb-false}
use Rattle.bounded.proofs.Rows.{row-none}
use Rattle.bounded.proofs.Tests.{case_on, contradicts, row_keeps}
use Rattle.layout.specs.declared.Sizes.{Sizes}
use Rattle.layout.specs.Layout.{image_length}
use Rattle.state.specs.Held.{no_writer}
use Rattle.operations.specs.Operations.{is_idle}
use Rattle.validity.specs.Validity.{state_ok}
use Rattle.refinement.specs.Stores.{World}
use Rattle.refinement.specs.Calls.{step_rows, run_of}
use Rattle.refinement.specs.Run.{Call, begin, commit, free, checkpoint, run, write, exec}
use Rattle.refinement.specs.Reference.{Cell, none, byte, laid_over, Task, writing, committing, moving, nothing, Work, idle, under, copying, Reference, with_work, does, starts, continues, advances, taken, turn}
use Rattle.refinement.specs.Statement.{Lent}
use Rattle.refinement.proofs.Cases.{Invariant, standing-of}
use Rattle.refinement.proofs.Viewed.{viewed-fits}
use Rattle.refinement.proofs.Reached.{Reached, reached-next}

-- ---- a run of what is under way

no-work : Work → Bool
no-work idle = true
no-work (under t k) = false
no-work (copying w k) = false

run-taken : {past : List ℕ} (v : World) (b : Reference) (t : Task) (m k : ℕ) → Invariant past v b → b.work ≡ under t m → (exec (run k) v).number ≡ 0
unfolding exec run_of no-work
run-taken v b t m k h u =
    let s = standing-of v b h in
    let valid : not (state_ok v.st) ≡ false = ap not s.valid in
    let fits : ltb (length v.image) (image_length v.st.sizes) ≡ false =
    le-ltb (length v.image) (image_length v.st.sizes) (viewed-fits v.st v.image b s.viewed) in
    let busy : is_idle v.st.pending.op ≡ false = s.busy (λ q. contradicts (ap no-work q) (ap no-work u)) in
    sym (row-none (step_rows v.st v.image) (valid, (fits, (busy, tt))))

-- with nothing under way it changes nothing
idle-run : (b : Reference) (k m n : ℕ) → b.work ≡ idle → turn (run k) m n b ≡ b
idle-run b k zero n h = ap (λ (w : Work). advances k w b) h
idle-run b k (suc m) n h = refl

idle-same : (b : Reference) → b.work ≡ idle → b ≡ with_work idle b
idle-same b h = ap (λ (w : Work). with_work w b) h

does-work : (t : Task) (b : Reference) → b.work ≡ idle → (does t b).work ≡ idle
does-work (writing w p l o n bytes) b h = h
does-work (committing w) b h = h
does-work (moving ms e m a) b h = case_on (ltb e 5) (λ t. rw t h) (λ t. rw t h)
does-work nothing b h = h

-- without a wide transaction none begins
does-narrow : (t : Task) (b : Reference) → b.wide ≡ no_writer → (does t b).wide ≡ no_writer
does-narrow (writing w p l o n bytes) b h = h
does-narrow (committing w) b h = row_keeps (λ (x : ℕ). x ≡ no_writer) (eqb b.wide w) no_writer b.wide refl h
does-narrow (moving ms e m a) b h = case_on (ltb e 5) (λ t. rw t h) (λ t. rw t h)
does-narrow nothing b h = h

-- a task of n stores, and a run of n
ran : (t : Task) (n m k : ℕ) (b : Reference) → b.work ≡ idle → ((i : ℕ) → n ≡ suc i → m ≡ 0) → turn (run n) m k (starts t n b) ≡ does t (with_work idle b)
ran t zero m k b h g = idle-run (does t b) zero m k (does-work t b h) ∙ ap (does t) (idle-same b h)
ran t (suc i) m k b h g =
    let e : m ≡ 0 = g i refl in
    let z : suc i - min (suc i) (suc i) ≡ 0 = omega arith in
    rw e (ap (λ (x : ℕ). continues t x (with_work (under t (suc i)) b)) z)

-- ---- a world that the calls so far came to, and the reference machine with nothing under way: these bytes are on its pages, these among writer 0's
-- unfinished writes

pub record Stands (z : Sizes) (past : List ℕ) (v : World) (f : ℕ → ℕ → ℕ → ℕ) (s : ℕ → ℕ → ℕ → Cell) : Type 0 where
  pub machine : Reference
  pub reached : Reached z past v machine
  pub work : machine.work ≡ idle
  pub narrow : machine.wide ≡ no_writer
  pub pages : (p l i : ℕ) → machine.pages p l i ≡ f p l i
  pub writes : (p l i : ℕ) → machine.writes 0 p l i ≡ s p l i

-- a call and all its stores
abbrev pub through : Call → World → World
through c v = (exec (run (exec c v).stores) (exec c v).world).world

module _ {z : Sizes} {past : List ℕ} {v : World} {f : ℕ → ℕ → ℕ → ℕ} {s : ℕ → ℕ → ℕ → Cell} (st : Stands z past v f s) (c : Call) (lent : Lent c) where
  abbrev asked : Reference
  asked = turn c (exec c v).number (exec c v).stores st.machine

  asked-reached : Reached z past (exec c v).world asked
  asked-reached = reached-next c lent v st.machine st.reached

  abbrev finished : Reference
  finished = let e = exec (run (exec c v).stores) (exec c v).world in turn (run (exec c v).stores) e.number e.stores asked

  finished-reached : Reached z past (through c v) finished
  finished-reached = reached-next (run (exec c v).stores) tt (exec c v).world asked asked-reached

  -- it changes nothing in the reference machine
  pub stands_same : asked ≡ st.machine → Stands z past (through c v) f s
  stands_same e =
      let n = (exec c v).stores in
      let d = exec (run n) (exec c v).world in
      let back : finished ≡ st.machine = ap (turn (run n) d.number d.stores) e ∙ idle-run st.machine n d.number d.stores st.work in
      record {
        machine = st.machine;
        reached = subst (Reached z past (through c v)) back finished-reached;
        work = st.work;
        narrow = st.narrow;
        pages = st.pages;
        writes = st.writes;
      }

  -- it does a task
  pub stands-did : (t : Task) → ((n : ℕ) (b : Reference) → b.wide ≡ no_writer → taken c n b ≡ starts t n b) → (exec c v).number ≡ 0
      → (f' : ℕ → ℕ → ℕ → ℕ) (s' : ℕ → ℕ → ℕ → Cell)
      → ((p l i : ℕ) → (does t (with_work idle st.machine)).pages p l i ≡ f' p l i)
      → ((p l i : ℕ) → (does t (with_work idle st.machine)).writes 0 p l i ≡ s' p l i)
      → Stands z past (through c v) f' s'
  stands-did t g h f' s' pages writes =
      let n = (exec c v).stores in
      let d = exec (run n) (exec c v).world in
      let begun : asked ≡ starts t n st.machine = ap (λ (m : ℕ). turn c m n st.machine) h ∙ g n st.machine st.narrow in
      let r : Reached z past (exec c v).world (starts t n st.machine) = subst (Reached z past (exec c v).world) begun asked-reached in
      let goes : (i : ℕ) → n ≡ suc i → d.number ≡ 0 =
      λ i q. run-taken (exec c v).world (starts t n st.machine) t (suc i) n r.related (ap (λ (m : ℕ). (starts t m st.machine).work) q) in
      let back : finished ≡ does t (with_work idle st.machine) =
      ap (turn (run n) d.number d.stores) begun ∙ ran t n d.number d.stores st.machine st.work goes in
      record {
        machine = does t (with_work idle st.machine);
        reached = subst (Reached z past (through c v)) back finished-reached;
        work = does-work t (with_work idle st.machine) refl;
        narrow = does-narrow t (with_work idle st.machine) st.narrow;
        pages = pages;
        writes = writes;
      }

-- ---- the calls of a round

refused-turn : (c : Call) (m n : ℕ) (b : Reference) → (m ≡ 0 → ⊥) → turn c m n b ≡ b
refused-turn c zero n b h = absurd (h refl)
refused-turn c (suc m) n b h = refl

begin-turn : (w m n : ℕ) (b : Reference) → turn (begin w) m n b ≡ b
begin-turn w zero n b = refl
begin-turn w (suc m) n b = refl

-- one byte put among the unfinished writes, as the reference machine puts it
abbrev pub wrote : ℕ → ℕ → (ℕ → ℕ → ℕ → Cell) → ℕ → ℕ → ℕ → Cell
wrote p x s q m i = cond (eqb 0 0 && eqb q p && eqb m 0 && leb 0 i && ltb i (0 + 1)) (byte (get_or (x ∷ []) (i - 0) 0)) (s q m i)

abbrev pub no_writes : ℕ → ℕ → ℕ → Cell
no_writes p l i = none

module _ {z : Sizes} {past : List ℕ} {v : World} {f : ℕ → ℕ → ℕ → ℕ} {s : ℕ → ℕ → ℕ → Cell} (st : Stands z past v f s) where
  pub stands-refused : (c : Call) → Lent c → ((exec c v).number ≡ 0 → ⊥) → Stands z past (through c v) f s
  stands-refused c lent h = stands_same st c lent (refused-turn c (exec c v).number (exec c v).stores st.machine h)

  pub stands-begin : Stands z past (through (begin 0) v) f s
  stands-begin = stands_same st (begin 0) tt (begin-turn 0 (exec (begin 0) v).number (exec (begin 0) v).stores st.machine)

  stands-idle : (c : Call) → Lent c → ((n : ℕ) (b : Reference) → b.wide ≡ no_writer → taken c n b ≡ starts nothing n b) → Stands z past (through c v) f s
  stands-idle c lent g =
      case_on (eqb (exec c v).number 0)
      (λ t. stands-did st c lent nothing g (eqb-true (exec c v).number 0 t) f s st.pages st.writes)
      (λ t. stands-refused c lent (eqb-false (exec c v).number 0 t))

  pub stands-free : Stands z past (through free v) f s
  stands-free = stands-idle free tt (λ n b e. refl)

  pub stands-checkpoint : Stands z past (through checkpoint v) f s
  stands-checkpoint = stands-idle checkpoint tt (λ n b e. refl)

  pub stands-write : (p x : ℕ) → Lent (write 0 p 0 0 1 (x ∷ [])) → (exec (write 0 p 0 0 1 (x ∷ [])) v).number ≡ 0
      → Stands z past (through (write 0 p 0 0 1 (x ∷ [])) v) f (wrote p x s)
  stands-write p x lent h =
      stands-did st (write 0 p 0 0 1 (x ∷ [])) lent (writing 0 p 0 0 1 (x ∷ [])) (λ n b e. refl) h f (wrote p x s) st.pages
      (λ q m i. ap (λ (c : Cell). cond (eqb 0 0 && eqb q p && eqb m 0 && leb 0 i && ltb i (0 + 1)) (byte (get_or (x ∷ []) (i - 0) 0)) c) (st.writes q m i))

  pub stands-commit : (exec (commit 0) v).number ≡ 0 → Stands z past (through (commit 0) v) (λ p l i. laid_over (s p l i) (f p l i)) no_writes
  stands-commit h =
      stands-did st (commit 0) tt (committing 0) (λ n b e. rw e) h (λ p l i. laid_over (s p l i) (f p l i)) no_writes
      (λ p l i. ap₂ laid_over (st.writes p l i) (st.pages p l i)) (λ p l i. refl)

-- the same bytes, said otherwise
pub stands-as : {z : Sizes} {past : List ℕ} {v : World} {f f' : ℕ → ℕ → ℕ → ℕ} {s : ℕ → ℕ → ℕ → Cell} → Stands z past v f s
    → ((p l i : ℕ) → f p l i ≡ f' p l i) → Stands z past v f' s
stands-as st e = record { machine = st.machine; reached = st.reached; work = st.work; narrow = st.narrow; pages = λ p l i. st.pages p l i ∙ e p l i; writes = st.writes }
