-- What holds of every world that calls reach, whatever is open or pending: all that the sentences beside demand 3 rest on.
use Prim.Native.Nat.{ℕ, ◌<◌}
use mathlib.Core.Bool.{true, false, not}
use mathlib.Core.List.{List}
use mathlib.Core.Path.{◌≡◌, sym, ap, ◌∙◌}
use native.Mathlib.Omega.{arith}
use lib.Dec.{eqb}
use lib.ListN.{length, get_or}
use borrow.Author.Tests.{ne_eqb}
use Rattle.layout.specs.Layout.{entry_word}
use Rattle.words.specs.Words.{word}
use Rattle.replay.proofs.Tables.{Sixteen}
use Rattle.state.specs.State.{Wide}
use Rattle.state.specs.Wide.{is_wide}
use Rattle.operations.specs.Operations.{is_idle}
use Rattle.validity.specs.Validity.{state_ok}
use Rattle.refinement.specs.Settled.{no_pending}
use Rattle.refinement.specs.Stores.{World}
use Rattle.refinement.specs.Calls.{seen_line}
use Rattle.refinement.specs.Reference.{Reference, idle, read_line}
use Rattle.refinement.proofs.Between.{Between, between-valid, between-durable, between-narrow, between-held, between-opened, between-quiet, between-pending}
use Rattle.refinement.proofs.Invariant.{Never, Quiet, not_wide}
use Rattle.refinement.proofs.Seen.{seen-line}
use Rattle.refinement.proofs.Viewed.{Viewed, durable-viewed}
use Rattle.refinement.proofs.WriterCalls.{seen-narrow}

pub record Standing (past : List ℕ) (v : World) (b : Reference) : Type 0 where
  pub valid : state_ok v.st ≡ true
  pub sixteen : Sixteen v.st.table
  pub four : length v.st.writers.opened ≡ 4
  pub sixty-four : length v.st.writers.held ≡ 64
  pub keys : length v.st.wide.keys ≡ 64
  pub viewed : Viewed past v.st v.image b
  pub busy : (b.work ≡ idle → ⊥) → is_idle v.st.pending.op ≡ false
  -- where nothing is pending: the book has nothing under way and the same wide writer; the keys are in the image; each writer
  -- sees the book's lines; and without a wide one all is quiet
  pub work-idle : not (is_idle v.st.pending.op) ≡ false → b.work ≡ idle
  pub none-pending : not (is_idle v.st.pending.op) ≡ false → v.st.pending ≡ no_pending
  pub book : not (is_idle v.st.pending.op) ≡ false → (w : ℕ) → w < 4 → is_wide v.st.wide w ≡ eqb b.wide w
  pub key-stored : not (is_idle v.st.pending.op) ≡ false → (e : ℕ) → e < v.st.wide.count → word v.image (entry_word v.st.sizes e) ≡ get_or v.st.wide.keys e 0
  pub seen : not (is_idle v.st.pending.op) ≡ false → (w p l : ℕ) → w < 4 → p < v.st.sizes.pages → l < 64 → seen_line v.st v.image w p l ≡ read_line b w p l
  pub quiet : not (is_idle v.st.pending.op) ≡ false → (v.st.wide.writer < 4 → ⊥) → Quiet past v.st v.image b

-- without a wide transaction
pub between-standing : {past : List ℕ} (v : World) (b : Reference) → Between past v b → Standing past v b
between-standing v b h =
    let ok = between-valid v b h in
    let D = between-durable v b h in
    let N = between-narrow v b h in
    let none : v.st.wide.count ≡ 0 = ap (λ (d : Wide). d.count) N.state in
    record {
      valid = ok;
      sixteen = D.behind.sixteen;
      four = between-opened v b h;
      sixty-four = between-held v b h;
      keys = ap (λ (d : Wide). length d.keys) N.state;
      viewed = durable-viewed v.st v.image b ok D N;
      busy = between-pending v b h;
      work-idle = λ e. (between-quiet v b h e).work;
      none-pending = λ e. (between-quiet v b h e).pending;
      book = λ e w l. not_wide v.st b w N l ∙ sym (ne_eqb b.wide w (λ q. omega (arith, q, N.book, l)));
      key-stored = λ e i l. absurd (omega (arith, l, none));
      seen = λ e w p l lw lp ll.
          let Q = between-quiet v b h e in
          seen-narrow v.st v.image w (not_wide v.st b w N lw) p l ∙ seen-line v.st v.image b Never Q.durable Q.writers w p l lw lp ll (λ x. x);
      quiet = λ e n. between-quiet v b h e;
    }
