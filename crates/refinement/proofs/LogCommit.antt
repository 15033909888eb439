-- A commit of a wide transaction asked for: with no line it is done, else its copying is pending. No other writer is open.
use Prim.Native.Nat.{ℕ, zero, suc, ◌-◌, ◌<◌}
use mathlib.Core.Bool.{Bool, false, not, cond}
use mathlib.Core.List.{List}
use mathlib.Core.Logic.{inl}
use mathlib.Core.Path.{◌≡◌, refl, sym, ap, ◌∙◌, subst}
use native.Mathlib.Omega.{arith}
use lib.Dec.{eqb, eqb-suc-zero}
use lib.ListN.{replicate}
use borrow.Author.Tests.{eq-eqb, eqb-true}
use Rattle.bounded.specs.Rows.{refusal}
use Rattle.bounded.proofs.Rows.{none-apply, row-none}
use Rattle.bounded.proofs.Tests.{case_on}
use Rattle.entries.specs.Entries.{key_of}
use Rattle.entries.proofs.EntryLaws.{entry-none}
use Rattle.state.specs.State.{State}
use Rattle.state.specs.declared.Op.{Op}
use Rattle.state.specs.declared.Op.TheVariants.{Commit, Copy}
use Rattle.operations.specs.Operations.{is_idle, needs, commit_rows}
use Rattle.operations.proofs.Taken.{commit-taken}
use Rattle.refinement.specs.Stores.{World, completed}
use Rattle.refinement.specs.Calls.{world_of, with_pending, commit_call_rows, commit_op, commit_of}
use Rattle.refinement.specs.Run.{commit, exec}
use Rattle.refinement.specs.Reference.{Reference, Cell, none, laid_over, idle, copying, committing, with_work, does, starts, starts_copy, emptied, laid}
use Rattle.refinement.proofs.CallAsked.{pending-valid, needs-asked}
use Rattle.refinement.proofs.Invariant.{Quiet}
use Rattle.refinement.proofs.Keeps.{quiet-pages}
use Rattle.refinement.proofs.Logging.{asked, same-pages, Logging, only-open, copy-row, at_rest}
use Rattle.refinement.proofs.LoggingStanding.{unlogged, logging-standing}
use Rattle.refinement.proofs.Cases.{narrow, logging, Kept, Then, Invariant}
use Rattle.refinement.proofs.Next.{answered-still}

module _ {past : List ℕ} (st : State) (img : List ℕ) (b : Reference) (G : Logging past st img b) (idles : not (is_idle st.pending.op) ≡ false) where
  abbrev w : ℕ
  w = st.wide.writer

  -- no line is written where none is used
  empty : needs st Copy ≡ 0 → Quiet past (completed st Copy) img (does (committing w) b)
  unfolding needs
  empty e =
      let n : st.wide.count ≡ 0 = case_on (eqb st.wide.count 0) (λ t. eqb-true st.wide.count 0 t) (λ t. absurd (omega (arith, rw t at e))) in
      let q =
      quiet-pages (completed st Copy) img (with_work idle (emptied w b)) (laid w b).pages
      (λ p l i lp ll li.
      sym (ap (λ (x : Cell). laid_over x (b.pages p l i))
      (G.entries.no_writes p l i lp ll li (entry-none st.wide.keys st.wide.count (key_of p l) (λ d ld k. omega arith)))))
      (at_rest st img b G) in
      subst (Quiet past (completed st Copy) img)
      (λ i. record { pages = (laid w b).pages; writes = (emptied w b).writes; work = sym ((logging-standing (world_of st img) b G).work-idle idles) i; wide = (emptied w b).wide }) q

  -- else it is pending
  abbrev asks : State
  asks = with_pending st Copy (replicate 8 0)

  pending : 0 < needs st Copy → Logging past asks img (with_work (copying w (needs st Copy)) b)
  pending some =
      record {
        valid = pending-valid st (replicate 8 0) Copy G.valid refl (copy-row st G.valid G.low) some;
        low = G.low;
        book = G.book;
        four = G.four;
        sixty-four = G.sixty-four;
        durable = same-pages (completed st Copy) img b (with_work (copying w (needs st Copy)) b) (λ p l h k. refl) G.durable;
        alone = G.alone;
        entries =
            record {
              keys = G.entries.keys;
              line = λ e le out. G.entries.line e le (unlogged st img b G idles e);
              no_writes = G.entries.no_writes;
            };
        stage = asked refl refl (ap (copying w) (sym (needs-asked st (replicate 8 0) Copy Copy)));
      }

  -- one or the other
  both : (n : ℕ) → needs st Copy ≡ n → (v : World) → v.st.sizes ≡ st.sizes → Then past v (world_of (cond (eqb n 0) (completed st Copy) asks) img) (starts_copy w n b)
  both zero e v s = record { sizes = sym s; related = narrow (inl (inl (empty e))) }
  both (suc k) e v s =
      let p = pending (omega (arith, e)) in
      rw (eqb-suc-zero k) (record { sizes = sym s; related = logging (subst (λ (n : ℕ). Logging past asks img (with_work (copying w n) b)) e p) })

pub log-commit : {past : List ℕ} (w : ℕ) (v : World) (b : Reference) → Logging past v.st v.image b → Kept past (commit w) v b
unfolding exec commit_of
log-commit {past = past} w v b G =
    let st = v.st in
    let img = v.image in
    let op : ℕ → Op = commit_op st in
    let after : ℕ → State = λ y. cond (eqb (needs st (op y)) 0) (completed st (op y)) (with_pending st (op y) (replicate 8 0)) in
    let r =
    answered-still (Invariant _) (commit w) v b (refusal (commit_call_rows st img w)) (needs st (op w)) (after w) (logging G)
    (λ e.
    let rows = none-apply (commit_call_rows st img w) (omega arith) e in
    let i = rows.1.1.0 in
    let T = commit-taken st w (sym (row-none (commit_rows st w) rows.1.1.1)) in
    let x : ℕ = st.wide.writer in
    let own : x ≡ w = only-open st G.valid G.low w T.writer-low T.opened in
    let copies : op x ≡ Copy = ap (λ (t : Bool). cond t Copy (Commit x)) (eq-eqb x x refl) in
    let a = both st img b G i (needs st Copy) refl v refl in
    let c : Then past v (world_of (after x) img) (starts_copy x (needs st (op x)) b) =
    subst (λ (o : Op). Then past v (world_of (cond (eqb (needs st o) 0) (completed st o) (with_pending st o (replicate 8 0))) img) (starts_copy x (needs st o) b)) (sym copies) a in
    let d : Then past v (world_of (after w) img) (starts_copy w (needs st (op w)) b) = subst (λ (y : ℕ). Then past v (world_of (after y) img) (starts_copy y (needs st (op y)) b)) own c in
    subst (Then past v (world_of (after w) img)) (sym (ap (λ (t : Bool). cond t (starts_copy w (needs st (op w)) b) (starts (committing w) (needs st (op w)) b)) (eq-eqb b.wide w (G.book ∙ own)))) d) in
    record { right = tt; sizes = r.sizes; related = r.related }
