-- The piece of a wide write that store i lies in, and what it leaves: e is the line's entry and a that entry's first word, as the code found them.
use Prim.Native.Nat.{ℕ, ◌+◌, ◌-◌, ◌*◌, ◌<◌, ◌≤◌}
use mathlib.Core.Bool.{true, false, cond}
use mathlib.Core.List.{List}
use mathlib.Core.Path.{◌≡◌, ap, ap₂, ◌∙◌}
use native.Mathlib.Omega.{arith}
use lib.Dec.{leb, ltb, eqb}
use lib.ListN.{set}
use borrow.Author.Tests.{ne_eqb, eq-eqb, ltb-true, ltb-false, lt-leb, le-leb}
use Rattle.bounded.specs.Below.{one}
use Rattle.bounded.proofs.Tests.{case_on}
use Rattle.layout.specs.declared.Sizes.{Sizes}
use Rattle.layout.specs.Layout.{entry_word, image_length}
use Rattle.layout.proofs.LayoutLaws.{entry-end}
use Rattle.entries.specs.Entries.{key_of, entry_of}
use Rattle.state.specs.State.{State}
use Rattle.state.specs.Wide.{entry_for, with_entry}
use Rattle.refinement.specs.Wide.{log_at, log_value, log_done}
use Rattle.op_pieces.specs.declared.Piece.{Piece}
use Rattle.op_pieces.specs.Pieces.{Next, one_piece, line_piece}
use Rattle.op_pieces.proofs.PieceLaws.{one-next, line-next}
use Rattle.state_words.specs.Decoded.{with_wide, with_nothing}

module _ (z : Sizes) (st : State) (count p l i e a : ℕ) (ez : z ≡ st.sizes) (ec : count ≡ st.wide.count) (ee : e ≡ entry_of st.wide.keys count (key_of p l)) (ea : a ≡ entry_word z e) (low : entry_for st.wide p l < z.entries) (img : List ℕ) (r : Piece) where
  abbrev Logs : Type 0
  Logs = Next (λ m. log_at st p l) (λ m. log_value st p l) i (image_length z) img r

  entry : e ≡ entry_for st.wide p l
  entry = rw ec at ee

  first : a ≡ entry_word st.sizes (entry_for st.wide p l)
  first = ea ∙ ap₂ entry_word ez entry

  inside : 8 * (a + 9) ≤ image_length z
  inside = let same : entry_word z e ≡ entry_word z (entry_for st.wide p l) = ap (entry_word z) entry in omega (arith, ea, same, entry-end z (entry_for st.wide p l) low)

  pub key-piece : i ≡ 0 → r ≡ one_piece a (key_of p l) → Logs
  key-piece o q =
      let s = first in
      rw q (one-next _ _ i (image_length z) img a (key_of p l) (omega (arith, inside)) (omega (arith, o, s)) (rw (eq-eqb i 0 o)))

  pub line-piece : (i ≡ 0 → ⊥) → i < 9 → (line : List ℕ) → line ≡ st.pending.line → r ≡ line_piece (a + 1) line (i - 1) → Logs
  line-piece n h line el q =
      let s = first in
      let past : (d : ℕ) → eqb (i + d) 0 ≡ false = λ d. ne_eqb (i + d) 0 (λ o. n (omega (arith, o))) in
      let back : (d : ℕ) → i + d - 1 ≡ i - 1 + d = λ d. omega (arith, n) in
      rw q
      (line-next _ _ i (image_length z) img (a + 1) line (i - 1) (omega (arith, n, h)) (omega (arith, inside))
      (λ d m b. omega (arith, n, s))
      (λ d m b. rw (past d, back d, el)))

-- one entry more is used where the line had none
one_more : (n e more : ℕ) → more ≡ one (leb n e) → n + more ≡ cond (ltb e n) n (n + 1)
unfolding one
one_more n e more m =
    case_on (ltb e n)
    (λ t. let f : leb n e ≡ false = lt-leb n e (ltb-true e n t) in rw t (omega (arith, rw f at m)))
    (λ t. let f : leb n e ≡ true = le-leb n e (ltb-false e n t) in rw t (omega (arith, rw f at m)))

-- the three changes one after the other: the key, the count, nothing pending
pub logged : (st s1 s2 s3 : State) (wide count p l e more : ℕ) → wide ≡ st.wide.writer → count ≡ st.wide.count → e ≡ entry_of st.wide.keys count (key_of p l) → more ≡ one (leb count e)
    → s1 ≡ with_wide st (record { writer = st.wide.writer; count = st.wide.count; keys = set st.wide.keys e (key_of p l) })
    → s2 ≡ with_wide s1 (record { writer = wide; count = count + more; keys = s1.wide.keys }) → s3 ≡ with_nothing s2 → s3 ≡ log_done st p l
logged st s1 s2 s3 wide count p l e more ew ec ee em e1 e2 e3 =
    let entry : e ≡ entry_for st.wide p l = rw ec at ee in
    let used : count + more ≡ (with_entry st.wide p l).count = one_more count e more em ∙ rw (entry, ec) in
    e3 ∙ ap with_nothing (e2 ∙ ap (λ (u : State). with_wide u (record { writer = wide; count = count + more; keys = u.wide.keys })) e1) ∙ rw (ew, entry, used)
