use mathlib.Core.Path.{◌≡◌, refl, sym, ap, ap₂, ◌∙◌}
use mathlib.Core.List.{List, ◌++◌}
use Prim.Native.Nat.{ℕ, ◌+◌, ◌-◌}
use native.Mathlib.Omega.{arith}
use lib.ListN.{length, take, drop}
use Rattle.words.specs.Words.{part}
use Rattle.words.proofs.Parts.{length_part, bytes-part, over-whole}
use Rattle.image.specs.Lines.{merged, differ, line_words}
use Rattle.image.proofs.LineLaws.{length_merged, merge-back, merge-words}
use Rattle.lines.proofs.merged_at.Lts
use Rattle.lines.proofs.merged_at.Tie
use Rattle.lines.proofs.merged_at.Reads
use Rattle.std.proofs.lemmas.Grind.{common_steps}
use Prim.Native.Nat.{◌≤◌}
use Rattle.lines.proofs.merged_at.Goals as goal

abbrev At-After-line-6-1 : Type 0
At-After-line-6-1 = Lts.After-line6 Tie.the-claims Reads.Pre Reads.Post Tie.handed_clauses

abbrev At-Start : Type 0
At-Start = Lts.Start Tie.the-claims Reads.Pre Reads.Post Tie.handed_clauses

-- a list laid over one of its length is the list itself
whole : (d below : List ℕ) → length below ≤ length d → d ≡ take (length d) d ++ drop (length d) below
whole d below h = grind (arith, common_steps)

-- The buffer is the line after the first copy and the merged line after the second; the words of both are compared.
module _ (c : At-After-line-6-1) where
  abbrev start : At-Start
  start = c.before.before.before.before.before.before.before.before.before.before.before.before

  abbrev line : List ℕ
  line = part start.args.bytes.now start.args.at 64

  sized : length line ≡ 64
  sized = length_part start.args.bytes.now start.args.at 64 (omega arith)

  -- the buffer after the first copy
  abbrev read : List ℕ
  read = c.before.before.before.before.before.before.before.before.copy_words.new.dst

  read_is : read ≡ line
  read_is = c.before.before.before.before.before.before.before.before.copy_words.ensures ∙ over-whole _ line sized

  -- and after both
  abbrev left : List ℕ
  left =
      let x = start.args in
      take x.offset read ++ (c.before.before.copy_from_slice.new.self ++ drop (x.offset + x.n - x.offset) (drop x.offset read))

  laid : left ≡ merged line start.args.offset start.args.n start.args.«data».now
  laid =
      merge-back line start.args.offset start.args.n start.args.«data».now sized (omega arith) (omega arith) _ refl
      c.before.before.before.before.before.before.before.before.copy_words.ensures
      (c.before.before.copy_from_slice.ensures.after ∙ whole _ _ (omega arith))

  laid-length : length left ≡ 64
  laid-length = ap length laid ∙ length_merged line start.args.offset start.args.n start.args.«data».now sized (omega arith) (omega arith)

pub slice_bounds-words_of-end-2 : goal.slice_bounds-words_of-end-2
slice_bounds-words_of-end-2 c = sym (laid-length c.before)

pub words_of-words-requires : goal.words_of-words-requires
words_of-words-requires c = laid-length c.before

pub returns : goal.returns
returns c =
    let m = c.before.before.before.before.before in
    let x = (start m).args in
    let new = c.words_of-words.ensures ∙ ap line_words (laid m) in
    let old = m.before.before.before.before.before.words_of-before.ensures ∙ ap line_words (read_is m) in
    let bytes = bytes-part x.bytes.now _ 64 (λ i. (c.type_inv.bytes i).fits) in record {
      words = new;
      changed = c.words_differ-changed.ensures
          ∙ ap₂ (differ 8) new old
          ∙ merge-words (line m) x.offset x.n x.«data».now (sized m) (omega arith) (omega arith) bytes (λ i. (c.type_inv.«data» i).fits);
    }
