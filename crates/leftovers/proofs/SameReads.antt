-- What calls read of two images, of the same state and the same reference machine: it is the same.
use Prim.Native.Nat.{ℕ, ◌<◌}
use mathlib.Core.Bool.{false, cond, not, ◌&&◌}
use mathlib.Core.List.{List}
use mathlib.Core.Path.{◌≡◌, sym, ap, ◌∙◌, subst}
use native.Mathlib.Omega.{arith}
use lib.Dec.{ltb}
use lib.ListN.{length}
use borrow.Author.Tests.{le-ltb}
use Rattle.layout.specs.declared.Sizes.{Sizes}
use Rattle.layout.specs.Layout.{Legal, image_length}
use Rattle.image.specs.Lines.{line_bytes}
use Rattle.state.specs.State.{State, own_frame}
use Rattle.state.specs.declared.Pending.{Pending}
use Rattle.operations.specs.Operations.{is_idle}
use Rattle.refinement.specs.Wide.{is_copy}
use Rattle.refinement.specs.Beside.{counted}
use Rattle.refinement.specs.Calls.{world_of, seen_line}
use Rattle.refinement.specs.Recall.{frame_of}
use Rattle.refinement.specs.Reference.{Reference, recall_line}
use Rattle.refinement.proofs.Cases.{Invariant, standing-of}
use Rattle.refinement.proofs.Standing.{Standing}
use Rattle.refinement.proofs.Viewed.{Viewed, viewed-fits, shown-copy}

pub record SameReads (st : State) (x y : List ℕ) : Type 0 where
  -- row 4
  pub short : ltb (length x) (image_length st.sizes) ≡ ltb (length y) (image_length st.sizes)
  pub some-page : 0 < st.sizes.pages
  -- a line as a writer reads it
  pub seen : not (is_idle st.pending.op) ≡ false → (w p l : ℕ) → w < 4 → p < st.sizes.pages → l < 64 → seen_line st x w p l ≡ seen_line st y w p l
  -- a committed line of page 0
  pub stored : not (is_idle st.pending.op) ≡ false → (m : ℕ) → m < 64
      → line_bytes x st.sizes (frame_of (own_frame st) st.sizes st.table 0 m) m ≡ line_bytes y st.sizes (frame_of (own_frame st) st.sizes st.table 0 m) m

module _ {past past' : List ℕ} (st : State) (x y : List ℕ) (b : Reference) (h : Invariant past (world_of st x) b) (k : Invariant past' (world_of st y) b) where
  abbrev z : Sizes
  z = st.sizes

  X : Standing past (world_of st x) b
  X = standing-of (world_of st x) b h

  Y : Standing past' (world_of st y) b
  Y = standing-of (world_of st y) b k

  abbrev D : Viewed past st x b
  D = X.viewed

  abbrev E : Viewed past' st y b
  E = Y.viewed

  legal : Legal z
  legal = subst Legal D.sizes-same D.mounts.legal

  some-page : 0 < z.pages
  some-page = omega (arith, legal.pages-low)

  -- the stored meters are the reference machine's
  stored : {q : List ℕ} (img : List ℕ) → Standing q (world_of st img) b → not (is_idle st.pending.op) ≡ false → (m : ℕ) → m < 64
      → line_bytes img z (frame_of (own_frame st) z st.table 0 m) m ≡ recall_line b 0 m
  stored img S e m low =
      let none : counted st ≡ 0 = ap (λ (p : Pending). cond (is_copy p.op && ltb 0 p.made) st.wide.count 0) (S.none-pending e) in
      sym (shown-copy img (own_frame st) z st.table (counted st) st.wide.keys 0 m none) ∙ S.viewed.own 0 m some-page low

  pub same_reads : SameReads st x y
  same_reads =
      record {
        short = le-ltb (length x) (image_length z) (viewed-fits st x b D) ∙ sym (le-ltb (length y) (image_length z) (viewed-fits st y b E));
        some-page = some-page;
        seen = λ q w p l writer page line. X.seen q w p l writer page line ∙ sym (Y.seen q w p l writer page line);
        stored = λ e m low. stored x X e m low ∙ sym (stored y Y e m low);
      }
