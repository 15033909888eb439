-- A wide write that changes no byte of a line that has its entry: each of its nine stores would put back the word that is there, and the entry is used as
-- before.
use Prim.Native.Nat.{ℕ, zero, suc, ◌+◌, ◌-◌, ◌*◌, ◌<◌, ◌≤◌}
use mathlib.Core.Bool.{Bool, true, false, not, ◌&&◌, cond}
use mathlib.Core.List.{List}
use mathlib.Core.Path.{◌≡◌, refl, sym, ap, ◌∙◌}
use native.Mathlib.Omega.{arith}
use lib.Dec.{eqb-suc-zero}
use lib.ListN.{length, get_or, set}
use lib.Seq.{set-get_or}
use borrow.Author.Tests.{ltb-true, not-true}
use Rattle.bounded.specs.Rows.{refusal}
use Rattle.bounded.proofs.Tests.{and_left, and_right}
use Rattle.layout.specs.declared.Sizes.{Sizes}
use Rattle.layout.specs.Layout.{entry_word, image_length}
use Rattle.layout.proofs.LayoutLaws.{entry-end}
use Rattle.words.specs.Words.{Bytes, word, store}
use Rattle.words.proofs.Parts.{length_part}
use Rattle.words.proofs.WordLaws.{store_same}
use Rattle.image.specs.Lines.{line_bytes, line_words, merged, merge_changes}
use Rattle.image.proofs.LineLaws.{merge-same}
use Rattle.entries.specs.Entries.{key_of}
use Rattle.entries.proofs.EntryLaws.{entry_found}
use Rattle.state.specs.State.{State}
use Rattle.state.specs.declared.Op.TheVariants.{Log}
use Rattle.state.specs.Wide.{is_wide, has_entry, entry_for, with_entry}
use Rattle.operations.specs.Operations.{needs, log_rows}
use Rattle.operations.proofs.Taken.{LogTaken, log-taken}
use Rattle.validity.specs.Validity.{state_ok}
use Rattle.refinement.specs.Frames.{seen_frame, holds}
use Rattle.refinement.specs.Settled.{no_pending}
use Rattle.refinement.specs.Wide.{entry_bytes, log_value}
use Rattle.refinement.specs.Stores.{store_made, completed}
use Rattle.refinement.specs.Calls.{with_pending, seen_line, finished_line, changes_nothing}
use Rattle.refinement.proofs.PutBack.{line_at}
use Rattle.refinement.proofs.StateValid.{valid}

module _ (st : State) (img : List ℕ) (w p l o n : ℕ) (bytes : List ℕ) (ok : state_ok st ≡ true) (long : image_length st.sizes ≤ length img) (sound : Bytes img)
    (row : refusal (log_rows st p l o n) ≡ 0) (given : n ≤ length bytes)
    (mine : is_wide st.wide w ≡ true) (idle : changes_nothing st img w p l o n bytes ≡ true)
    (stored : (e : ℕ) → e < st.wide.count → word img (entry_word st.sizes e) ≡ get_or st.wide.keys e 0) where
  abbrev z : Sizes
  z = st.sizes

  -- the line's entry, its line, and the state with the write pending
  abbrev e : ℕ
  e = entry_for st.wide p l

  abbrev line : List ℕ
  line = entry_bytes img z e

  abbrev asks : State
  asks = with_pending st (Log p l o n) (finished_line st img w p l o n bytes)

  T : LogTaken st p l o n
  T = log-taken st p l o n row

  abbrev same : Bool
  same = not (merge_changes (seen_line st img w p l) o n bytes)

  both : has_entry st.wide p l && same ≡ true
  unfolding changes_nothing
  both = ap (λ (x : Bool). cond x (has_entry st.wide p l) (holds st w p l) && same) (sym mine) ∙ idle

  has : has_entry st.wide p l ≡ true
  has = and_left (has_entry st.wide p l) same both

  low : e < st.wide.count
  low = ltb-true e st.wide.count has

  entry-low : 8 * (entry_word z e + 9) ≤ length img
  entry-low = omega (arith, entry-end z e (omega (arith, low, (valid st ok).entries.few)), long)

  seen : seen_line st img w p l ≡ line
  seen = ap (λ (x : Bool). cond x line (line_bytes img z (seen_frame st w p l) l)) (ap (λ (x : Bool). x && has_entry st.wide p l) mine ∙ has)

  -- ---- the stores

  unchanged : merge_changes line o n bytes ≡ false
  unchanged = ap (λ (x : List ℕ). merge_changes x o n bytes) (sym seen) ∙ not-true (merge_changes (seen_line st img w p l) o n bytes) (and_right (has_entry st.wide p l) same both)

  finished : finished_line st img w p l o n bytes ≡ line_words line
  finished =
      ap (λ (x : List ℕ). line_words (merged x o n bytes)) seen
      ∙ ap line_words (merge-same line o n bytes (length_part img (8 * (entry_word z e + 1)) 64 (omega (arith, entry-low))) T.args.fits given unchanged)

  value : (i : ℕ) → i < 9 → log_value asks p l i ≡ word img (entry_word z e + i)
  value zero m =
      let a : entry_word z e ≡ entry_word z e + 0 = omega arith in
      sym (entry_found st.wide.keys st.wide.count (key_of p l) low) ∙ sym (stored e low) ∙ ap (word img) a
  value (suc i) m =
      let j : suc i - 1 ≡ i = omega arith in
      let a : entry_word z e + 1 + i ≡ entry_word z e + suc i = omega arith in
      rw (eqb-suc-zero i, j)
      (ap (λ (ws : List ℕ). get_or ws i 0) finished ∙ line_at img (entry_word z e + 1) i (omega arith) (omega (arith, entry-low)) ∙ ap (word img) a)

  pub entry-back : (i : ℕ) → i < needs st (Log p l o n) → store_made asks img (Log p l o n) i ≡ img
  unfolding needs
  entry-back i m = ap (store img (entry_word z e + i)) (value i m) ∙ store_same img (entry_word z e + i) sound (omega (arith, m, entry-low))

  -- ---- the state

  used-again : with_entry st.wide p l ≡ st.wide
  used-again =
      let keys : set st.wide.keys e (key_of p l) ≡ st.wide.keys =
      ap (set st.wide.keys e) (sym (entry_found st.wide.keys st.wide.count (key_of p l) low)) ∙ set-get_or st.wide.keys e 0 in
      rw has (λ i. record { writer = st.wide.writer; count = st.wide.count; keys = keys i })

  pub logged-back : st.pending ≡ no_pending → completed asks (Log p l o n) ≡ st
  logged-back none =
      λ i. record { sizes = st.sizes; head = st.head; tail = st.tail; next = st.next; table = st.table; map = st.map; writers = st.writers; wide = used-again i; pending = sym none i }
