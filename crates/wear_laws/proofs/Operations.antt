-- The stores of each operation go to the words of lines one after the other.
use Prim.Native.Nat.{ℕ, ◌+◌, ◌-◌, ◌*◌, ◌/◌, ◌%◌, ◌<◌, ◌≤◌}
use mathlib.Core.List.{List}
use mathlib.Core.Path.{◌≡◌, ap, subst, ◌∙◌}
use native.Mathlib.Omega.{arith}
use lib.Dec.{ltb, eqb}
use lib.ListN.{get_or}
use borrow.Author.Tests.{ltb-true, ltb-false, eqb-true, eqb-false}
use Rattle.bounded.proofs.Tests.{case_on}
use Rattle.layout.specs.declared.Sizes.{Sizes}
use Rattle.layout.specs.Layout.{Legal, frames, frame_word, line_word, image_words}
use Rattle.replay.specs.Table.{slot_in}
use Rattle.state.specs.declared.Op.TheVariants.{Write, Commit, Consolidate, Checkpoint, Format}
use Rattle.refinement.specs.Frames.{other_frame, page_slot}
use Rattle.refinement.specs.Write.{write_slot}
use Rattle.refinement.specs.Consolidate.{copy_to, copy_lines}
use Rattle.refinement.specs.Calls.{world_of}
use Rattle.refinement.specs.Stores.{World, store_at}
use Rattle.refinement.proofs.FormatAsked.{formatting}
use Rattle.placing.specs.Placing.{records_of, recorded_in, copies_of, Placed}
use Rattle.placing.proofs.Placed.{each_placed}
use Rattle.wear.specs.Wear.{word_of}
use Rattle.wear.proofs.Pending.{Pends, word-is}
use Rattle.wear_laws.proofs.Runs.{Runs}

-- none made
pub none_made : (z : Sizes) (word : ℕ → ℕ) (n : ℕ) → n ≡ 0 → Runs z word n
none_made z word n e = record { back = λ i l h p. absurd (omega arith); on = λ i l h p. absurd (omega arith) }

-- none to a frame
outside : (z : Sizes) (word : ℕ → ℕ) (n : ℕ) → ((i : ℕ) → i < n → word i < frame_word z) → Runs z word n
outside z word n out =
    record {
      back = λ i l h p. absurd (let x = out i l in omega arith);
      on = λ i l h p. absurd (let x = out i (omega arith) in omega arith);
    }

-- all to one line
one_line : (z : Sizes) (word : ℕ → ℕ) (f l n : ℕ) → ((i : ℕ) → word i ≡ line_word z f l + i) → n ≤ 8 → Runs z word n
one_line z word f l n at few =
    record {
      back = λ i m h p.
          let d : word i - frame_word z ≡ 512 * f + 8 * l + i = omega (arith, at i) in
          let q : 0 < (512 * f + 8 * l + i) % 8 = subst (λ (x : ℕ). 0 < x % 8) d p in
          let some : 0 < i = omega arith in
          (some, omega (arith, at i, at (i - 1)));
      on = λ i m h p. omega (arith, at i, at (i + 1));
    }

-- to c lines of one frame, and then to none
lines : (z : Sizes) (word : ℕ → ℕ) (f c n : ℕ) (line : ℕ → ℕ) → ((i : ℕ) → i < 8 * c → word i ≡ line_word z f (line (i / 8)) + i % 8)
    → ((i : ℕ) → 8 * c ≤ i → i < n → word i < frame_word z) → Runs z word n
lines z word f c n line at past =
    record { back = back; on = on }
  where
    place : (i : ℕ) → i < 8 * c → (word i - frame_word z) % 8 ≡ i % 8
    place i l =
        let d : word i - frame_word z ≡ 512 * f + 8 * line (i / 8) + i % 8 = omega (arith, at i l) in
        rw d (omega arith)

    inside : (i : ℕ) → i < n → frame_word z ≤ word i → i < 8 * c
    inside i l h = case_on (ltb i (8 * c)) (λ t. ltb-true i (8 * c) t) (λ t. absurd (let x = past i (ltb-false i (8 * c) t) l in omega arith))

    back : (i : ℕ) → i < n → frame_word z ≤ word i → 0 < (word i - frame_word z) % 8 → (0 < i) × (word (i - 1) + 1 ≡ word i)
    back i l h p =
        let m = inside i l h in
        let q = place i m in
        let some : 0 < i = omega arith in
        let same : (i - 1) / 8 ≡ i / 8 = omega arith in
        let w : word (i - 1) ≡ line_word z f (line (i / 8)) + (i - 1) % 8 =
        at (i - 1) (omega arith) ∙ ap (λ (x : ℕ). line_word z f (line x) + (i - 1) % 8) same in
        (some, omega (arith, w, at i m))

    on : (i : ℕ) → i + 1 < n → frame_word z ≤ word i → (word i - frame_word z) % 8 < 7 → word (i + 1) ≡ word i + 1
    on i l h p =
        let m = inside i (omega arith) h in
        let q = place i m in
        let same : (i + 1) / 8 ≡ i / 8 = omega arith in
        let w : word (i + 1) ≡ line_word z f (line (i / 8)) + (i + 1) % 8 =
        at (i + 1) (omega arith) ∙ ap (λ (x : ℕ). line_word z f (line x) + (i + 1) % 8) same in
        omega (arith, w, at i m)

-- ---- by operation

module _ (v : World) (n : ℕ) (legal : Legal v.st.sizes) where
  abbrev z : Sizes
  z = v.st.sizes

  placed : Placed v.st v.image
  placed = each_placed v.st v.image legal

  pub write-runs : (w p l o c k : ℕ) → Pends v n (Write w p l o c) → k ≤ 8 → Runs z (word_of v) k
  write-runs w p l o c k q few =
      let f = other_frame (slot_in v.st.table (write_slot v.st p)) l in
      one_line z (word_of v) f l k (λ i. word-is q i ∙ placed.write w p l o c i) few

  pub commit-runs : (w k : ℕ) → Pends v n (Commit w) → Runs z (word_of v) k
  commit-runs w k q = outside z (word_of v) k (λ i l. rw (word-is q i) (low i))
    where
      low : (i : ℕ) → store_at v.st (Commit w) i < frame_word z
      low i =
          let m = records_of v.st w in
          case_on (ltb i (4 * m))
          (λ t. omega (arith, (placed.records w i (ltb-true i (4 * m) t)).below))
          (λ t. omega (arith, placed.head w i (ltb-false i (4 * m) t)))

  pub checkpoint-runs : (k : ℕ) → Pends v n Checkpoint → Runs z (word_of v) k
  checkpoint-runs k q = outside z (word_of v) k (λ i l. rw (word-is q i) (low i))
    where
      low : (i : ℕ) → store_at v.st Checkpoint i < frame_word z
      low i =
          let m = recorded_in v.st in
          case_on (ltb i (3 * m))
          (λ t. omega (arith, (placed.slots i (ltb-true i (3 * m) t)).below))
          (λ t. omega (arith, placed.tail i (ltb-false i (3 * m) t)))

  pub consolidate-runs : (p k : ℕ) → p < z.pages → Pends v n (Consolidate p) → Runs z (word_of v) k
  consolidate-runs p k page q =
      let t = page_slot v.st p in
      lines z (word_of v) (copy_to t) (copies_of v.st p) k (λ j. get_or (copy_lines t) j 64) (λ i l. word-is q i ∙ placed.copies p i l)
      (λ i l m. rw (word-is q i) (low i l))
    where
      low : (i : ℕ) → 8 * copies_of v.st p ≤ i → store_at v.st (Consolidate p) i < frame_word z
      low i l =
          let c = copies_of v.st p in
          case_on (eqb i (8 * c))
          (λ t. omega (arith, placed.page p i (eqb-true i (8 * c) t)))
          (λ t.
          let u = eqb-false i (8 * c) t in
          case_on (ltb i (8 * c + 5))
          (λ s. omega (arith, (placed.freeing p i (omega arith) (ltb-true i (8 * c + 5) s)).below))
          (λ s. omega (arith, placed.freed p i (ltb-false i (8 * c + 5) s))))

-- a word of so many lines, but not the last of its own
not_last : (x c : ℕ) → x < 8 * c → x % 8 < 7 → x + 1 < 8 * c
not_last x c h p = omega arith

-- a format's, whose image ends with a frame
module _ (y : Sizes) (ok : Legal y) (none : y.entries ≡ 0) (img : List ℕ) where
  abbrev word : ℕ → ℕ
  word = word_of (world_of (formatting y) img)

  abbrev format-placed : Placed (formatting y) img
  format-placed = each_placed (formatting y) img ok

  word_at : (i : ℕ) → word i ≡ store_at (formatting y) Format i
  word_at i = let x : 0 + i ≡ i = omega arith in ap (store_at (formatting y) Format) x

  rises : (i : ℕ) → 8 ≤ i → i < image_words y → word i ≡ i
  rises i g m = word_at i ∙ format-placed.rising i g m

  -- those to frames
  framed : (k i : ℕ) → k ≤ image_words y + 1 → i < k → frame_word y ≤ word i → (8 ≤ i) × (i < image_words y)
  framed k i few l h =
      let e = word_at i in
      case_on (ltb i 8)
      (λ t. absurd (let c = format-placed.first i (ltb-true i 8 t) in omega (arith, e)))
      (λ t.
      let g = ltb-false i 8 t in
      case_on (ltb i (image_words y))
      (λ u. (g, ltb-true i (image_words y) u))
      (λ u.
      let m : i ≡ image_words y = omega (arith, ltb-false i (image_words y) u) in
      let last : store_at (formatting y) Format i ≡ 3 =
      ap (store_at (formatting y) Format) m ∙ format-placed.last in
      absurd (omega (arith, e, last))))

  pub format-runs : (k : ℕ) → k ≤ image_words y + 1 → Runs y word k
  format-runs k few =
      record {
        back = λ i l h p.
            let f = framed k i few l h in
            let w = rises i f.0 f.1 in
            let x : i - frame_word y ≡ word i - frame_word y = omega arith in
            let q : 0 < (i - frame_word y) % 8 = rw x p in
            let b = rises (i - 1) (omega arith) (omega (arith, f.1)) in
            (omega arith, omega arith);
        on = λ i l h p.
            let f = framed k i few (omega arith) h in
            let w = rises i f.0 f.1 in
            let x : i - frame_word y ≡ word i - frame_word y = omega arith in
            let q : (i - frame_word y) % 8 < 7 = rw x p in
            let more : frame_word y ≤ i = omega arith in
            let inside : i - frame_word y < 8 * (64 * frames y) = omega (arith, f.1, none) in
            let next = not_last (i - frame_word y) (64 * frames y) inside q in
            let low : i + 1 < image_words y = omega (arith, next, none) in
            let b = rises (i + 1) (omega (arith, f.0)) low in
            omega arith;
      }
