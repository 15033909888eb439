-- The stores to frames, by their copies: of a line, and of an input.
use Prim.Native.Nat.{ℕ, zero, suc, ◌+◌, ◌-◌, ◌*◌, ◌/◌, ◌%◌, ◌<◌, ◌≤◌}
use mathlib.Core.Bool.{Bool, true, false, cond, ◌&&◌}
use mathlib.Core.List.{List, []}
use mathlib.Core.Path.{◌≡◌, refl, sym, ap, ap₂, ◌∙◌}
use native.Mathlib.Omega.{arith}
use lib.Dec.{leb, ltb, eqb}
use lib.ListN.{get_or}
use borrow.Author.Tests.{lt-ltb, le-ltb, le-leb, lt-leb, leb-true, leb-false, eqb-true, eqb-false}
use Rattle.bounded.specs.Below.{one, count_below}
use Rattle.bounded.proofs.Below.{count-ext}
use Rattle.bounded.proofs.Tests.{case_on, row_keeps}
use Rattle.bounded.proofs.Tab.{get_or-tab}
use Rattle.replay.proofs.Tables.{one_value}
use Rattle.layout.specs.declared.Sizes.{Sizes}
use Rattle.layout.specs.Layout.{slot_word, padding_word, frame_word}
use Rattle.text.specs.declared.Line.{Line}
use Rattle.text.specs.Fields.{parsed}
use Rattle.executing.specs.Called.{Machine}
use Rattle.wear.specs.Performs.{NarrowMachine}
use Rattle.wear.specs.Wear.{part_of, ends_copy, wear_of, worn_by, line_wear}
use Rattle.wear_lines.specs.Lines.{Work, opening, first, turned, parts, act}
use Rattle.wear_laws.specs.Inputs.{number}
use Rattle.wear_laws.specs.Copies.{made, sizes_at, word_at, in_frames, last_in_line, stores_to, copies_to, cut_to, adding, summed, sum_below, any_frame}
use Rattle.wear_laws.specs.Copies.{StoresOfCopies}
use Rattle.wear_laws.proofs.Beside.{two, three}
use Rattle.wear_laws.proofs.Runs.{eights}
use Rattle.wear_laws.proofs.Copies.{line-runs, Kept, act-kept, first-kept}

-- ---- a store

module _ (z : Sizes) where
  -- to a frame
  in-any : (a : ℕ) → eqb (part_of z a) 0 ≡ in_frames z any_frame a
  unfolding part_of in_frames
  in-any a =
      case_on (leb (frame_word z) a)
      (λ t.
      let l = leb-true (frame_word z) a t in
      rw (t, le-ltb a 8 (omega arith), le-ltb a (slot_word z z.slots) (omega arith), le-ltb a (padding_word z) (omega arith), le-ltb a (frame_word z) l))
      (λ t.
      let l = leb-false (frame_word z) a t in
      let other : ℕ → Type 0 = λ p. eqb p 0 ≡ false in
      rw (t, lt-ltb a (frame_word z) l)
      (row_keeps other (ltb a 8) 1 _ refl (row_keeps other (ltb a (slot_word z z.slots)) 2 _ refl (row_keeps other (ltb a (padding_word z)) 3 4 refl refl))))

  -- the last of a line of frame f
  ends-one : (f a : ℕ) → ends_copy z f a ≡ last_in_line z (λ g. eqb g f) a
  unfolding ends_copy in_frames
  ends-one f a = case_on (leb (frame_word z) a) (λ t. rw t) (λ t. rw t)

-- of some frame: of one below n, or from n on
one-frame : (n c : ℕ) → 1 ≡ sum_below n (λ k. one (eqb c k)) + one (leb n c)
unfolding sum_below one
one-frame zero c = rw (le-leb 0 c (omega arith))
one-frame (suc n) c =
    let ih = one-frame n c in
    case_on (eqb c n)
    (λ t.
    let e = eqb-true c n t in
    let was : one (leb n c) ≡ 1 = rw (le-leb n c (omega arith)) in
    rw (t, lt-leb (suc n) c (omega arith)) (omega (arith, ih, was)))
    (λ t.
    let e = eqb-false c n t in
    let same : leb (suc n) c ≡ leb n c =
    case_on (leb n c)
    (λ u. let l = leb-true n c u in le-leb (suc n) c (omega arith) ∙ sym u)
    (λ u. let l = leb-false n c u in lt-leb (suc n) c (omega arith) ∙ sym u) in
    rw (t, same) (omega (arith, ih)))

-- ---- sums

sum-ext : (n : ℕ) (f g : ℕ → ℕ) → ((k : ℕ) → k < n → f k ≡ g k) → sum_below n f ≡ sum_below n g
unfolding sum_below
sum-ext zero f g h = refl
sum-ext (suc n) f g h = ap₂ ◌+◌ (sum-ext n f g (λ k l. h k (omega arith))) (h n (omega arith))

sum-zero : (n : ℕ) → sum_below n (λ k. 0) ≡ 0
unfolding sum_below
sum-zero zero = refl
sum-zero (suc n) = omega (arith, sum-zero n)

sum-plus : (n : ℕ) (f g : ℕ → ℕ) → sum_below n (λ k. f k + g k) ≡ sum_below n f + sum_below n g
unfolding sum_below
sum-plus zero f g = refl
sum-plus (suc n) f g = omega (arith, sum-plus n f g)

-- counts of stores, each of which is one of m kinds or of the last kind
count-kinds : (m : ℕ) (all : ℕ → Bool) (kind : ℕ → ℕ → Bool) (last : ℕ → Bool) → ((i : ℕ) → one (all i) ≡ sum_below m (λ k. one (kind k i)) + one (last i))
    → (n : ℕ) → count_below n all ≡ sum_below m (λ k. count_below n (kind k)) + count_below n last
unfolding count_below
count-kinds m all kind last h zero = let e = sum-zero m in omega (arith, e)
count-kinds m all kind last h (suc n) =
    let ih = count-kinds m all kind last h n in
    let p = sum-plus m (λ k. count_below n (kind k)) (λ k. one (kind k n)) in
    omega (arith, ih, p, h n)

-- ---- copies of frames below n, and of the others

and_yes : (b : Bool) → b && true ≡ b
and_yes true = refl
and_yes false = refl

and_no : (b : Bool) → b && false ≡ false
and_no true = refl
and_no false = refl

-- x: to a frame; c: its number; w: to the last word of a line
kinds : (x w : Bool) (c n : ℕ) → one ((x && true) && w) ≡ sum_below n (λ k. one (x && (eqb c k && w))) + one ((x && leb n c) && w)
unfolding one
kinds true true c n =
    let e = sum-ext n (λ k. one (eqb c k && true)) (λ k. one (eqb c k)) (λ k l. ap one (and_yes (eqb c k))) in
    one-frame n c ∙ ap₂ ◌+◌ (sym e) (ap one (sym (and_yes (leb n c))))
kinds true false c n =
    let e = sum-ext n (λ k. one (eqb c k && false)) (λ k. 0) (λ k l. ap one (and_no (eqb c k))) ∙ sum-zero n in
    ap₂ ◌+◌ (sym e) (ap one (sym (and_no (leb n c))))
kinds false w c n = ap (λ (x : ℕ). x + 0) (sym (sum-zero n))

copy-kinds : (z : Sizes) (a : ℕ) → one (last_in_line z any_frame a) ≡ sum_below 15 (λ k. one (ends_copy z k a)) + one (last_in_line z (leb 15) a)
unfolding in_frames ends_copy
copy-kinds z a = kinds (leb (frame_word z) a) (eqb ((a - frame_word z) % 8) 7) ((a - frame_word z) / 512) 15

-- ---- a line

module _ (m : Machine) (img : List ℕ) (line : Line) where
  abbrev z : Sizes
  z = sizes_at m img line

  abbrev n : ℕ
  n = made m img line

  abbrev word : ℕ → ℕ
  word = word_at m img line

  abbrev wear : ℕ → ℕ
  wear = line_wear m img line

  copies_of : (f : ℕ) → f < 15 → wear f ≡ count_below n (λ i. ends_copy z f (word i))
  unfolding line_wear worn_by wear_of
  copies_of f l = rw (lt-ltb f 15 l)

  to-frames : wear 15 ≡ count_below n (λ i. in_frames z any_frame (word i))
  unfolding line_wear worn_by wear_of
  to-frames = count-ext (λ i. eqb (part_of z (word i)) 0) (λ i. in_frames z any_frame (word i)) n (λ i l. in-any z (word i))

  module _ (narrow : NarrowMachine m) where
    line_frame : (f : ℕ) → f < 15 → stores_to (λ g. eqb g f) m img line ≡ 8 * wear f + cut_to (λ g. eqb g f) m img line
    line_frame f l =
        let is : ℕ → Bool = λ g. eqb g f in
        let e = copies_of f l ∙ count-ext (λ i. ends_copy z f (word i)) (λ i. last_in_line z is (word i)) n (λ i h. ends-one z f (word i)) in
        eights z word is n (line-runs m img line narrow) ∙ ap (λ (x : ℕ). 8 * x + cut_to is m img line) (sym e)

    line-frames : wear 15 ≡ 8 * (sum_below 15 wear + copies_to (leb 15) m img line) + cut_to any_frame m img line
    line-frames =
        let e = count-kinds 15 (λ i. last_in_line z any_frame (word i)) (λ k i. ends_copy z k (word i)) (λ i. last_in_line z (leb 15) (word i))
        (λ i. copy-kinds z (word i)) n in
        let s = sum-ext 15 wear (λ k. count_below n (λ i. ends_copy z k (word i))) copies_of in
        to-frames
        ∙ eights z word any_frame n (line-runs m img line narrow)
        ∙ ap (λ (x : ℕ). 8 * x + cut_to any_frame m img line) (e ∙ ap (λ (x : ℕ). x + copies_to (leb 15) m img line) (sym s))

-- ---- an input

abbrev Has : Type 0
Has = Machine → List ℕ → Line → ℕ

-- a sum of two things that a line has
module _ (sum : ℕ → ℕ → ℕ) (none : sum 0 0 ≡ 0) (adds : (a b c d : ℕ) → sum (a + b) (c + d) ≡ sum a c + sum b d) (p q r : Has)
    (each : (m : Machine) (img : List ℕ) (line : Line) → NarrowMachine m → p m img line ≡ sum (q m img line) (r m img line)) where
  record Sums (x y w : Work × ℕ) : Type 0 where
    kept : Kept x.0
    same : x.0 ≡ y.0
    also : x.0 ≡ w.0
    total : x.1 ≡ sum y.1 w.1

  line-sums : (x y w : Work × ℕ) (line : List ℕ) → Sums x y w → Sums (adding p x line) (adding q y line) (adding r w line)
  line-sums x y w line h =
      let v = x.0 in
      let l = parsed 9 line in
      let at : Has → Work → ℕ = λ has u. cond (parts line) 0 (has u.machine u.image l) in
      let new : at p v ≡ sum (at q v) (at r v) =
      case_on (parts line) (λ t. rw t (sym none)) (λ t. rw t (each v.machine v.image l h.kept)) in
      let y-new : at q v ≡ at q y.0 = ap (at q) h.same in
      let w-new : at r v ≡ at r w.0 = ap (at r) h.also in
      record {
        kept = act-kept v line h.kept;
        same = ap (λ (u : Work). act u line) h.same;
        also = ap (λ (u : Work). act u line) h.also;
        total =
            ap₂ ◌+◌ h.total (new ∙ ap₂ sum y-new w-new) ∙ sym (adds y.1 (at q y.0) w.1 (at r w.0));
      }

  pub sums : (size : ℕ) (input : List ℕ) → summed p size input ≡ sum (summed q size input) (summed r size input)
  sums size input =
      (three (adding p) (adding q) (adding r) Sums line-sums input [] (first size, 0) (first size, 0) (first size, 0)
      (record { kept = first-kept size; same = refl; also = refl; total = sym none })).total

-- a number is what the lines have of it
record Counts (k : ℕ) (w : Work) (x : Work × ℕ) : Type 0 where
  same : w ≡ x.0
  total : get_or w.worn k 0 ≡ x.1

module _ (k : ℕ) (low : k < 22) where
  abbrev has : Has
  has m img line = line_wear m img line k

  worn-line : (w : Work) (line : List ℕ) → get_or (act w line).worn k 0 ≡ get_or w.worn k 0 + cond (parts line) 0 (has w.machine w.image (parsed 9 line))
  unfolding act opening turned
  worn-line w line =
      case_on (parts line)
      (λ t. rw t (omega arith))
      (λ t. rw t (get_or-tab 22 (λ (j : ℕ). get_or w.worn j 0 + line_wear w.machine w.image (parsed 9 line) j) k 0 low))

  counts-line : (w : Work) (x : Work × ℕ) (line : List ℕ) → Counts k w x → Counts k (act w line) (adding has x line)
  counts-line w x line h =
      let at : Work → ℕ = λ u. cond (parts line) 0 (has u.machine u.image (parsed 9 line)) in
      record { same = ap (λ (u : Work). act u line) h.same; total = worn-line w line ∙ ap₂ ◌+◌ h.total (ap at h.same) }

  worn-none : (size : ℕ) → get_or (first size).worn k 0 ≡ 0
  unfolding opening
  worn-none size = one_value 22 k 0

  number-summed : (size : ℕ) (input : List ℕ) → number size input k ≡ summed has size input
  number-summed size input =
      (two act (adding has) (Counts k) counts-line input [] (first size) (first size, 0) (record { same = refl; total = worn-none size })).total

module _ (size : ℕ) (input : List ℕ) where
  abbrev all : Has → ℕ
  all has = summed has size input

  plus : (p q r : Has) → ((m : Machine) (img : List ℕ) (line : Line) → p m img line ≡ q m img line + r m img line) → all p ≡ all q + all r
  plus p q r h = sums (λ a b. a + b) refl (λ a b c d. omega arith) p q r (λ m img line n. h m img line) size input

  eight : (p q r : Has) → ((m : Machine) (img : List ℕ) (line : Line) → NarrowMachine m → p m img line ≡ 8 * q m img line + r m img line)
      → all p ≡ 8 * all q + all r
  eight p q r h = sums (λ a b. 8 * a + b) refl (λ a b c d. omega arith) p q r h size input

  numbers : (n : ℕ) → n ≤ 22 → all (λ m img line. sum_below n (line_wear m img line)) ≡ sum_below n (number size input)
  unfolding sum_below
  numbers zero l = sums (λ a b. 0) refl (λ a b c d. refl) (λ m img line. 0) (λ m img line. 0) (λ m img line. 0) (λ m img line n. refl) size input
  numbers (suc n) l =
      plus (λ m img line. sum_below n (line_wear m img line) + line_wear m img line n) (λ m img line. sum_below n (line_wear m img line))
      (λ m img line. line_wear m img line n) (λ m img line. refl)
      ∙ ap₂ ◌+◌ (numbers n (omega arith)) (sym (number-summed n (omega arith) size input))

  frame-stored : (f : ℕ) → f < 15 → all (stores_to (λ g. eqb g f)) ≡ 8 * number size input f + all (cut_to (λ g. eqb g f))
  frame-stored f l =
      let is : ℕ → Bool = λ g. eqb g f in
      eight (stores_to is) (λ m img line. line_wear m img line f) (cut_to is) (λ m img line narrow. line_frame m img line narrow f l)
      ∙ ap (λ (x : ℕ). 8 * x + all (cut_to is)) (sym (number-summed f (omega arith) size input))

  frames-stored : number size input 15 ≡ 8 * (sum_below 15 (number size input) + all (copies_to (leb 15))) + all (cut_to any_frame)
  frames-stored =
      let below : Has = λ m img line. sum_below 15 (line_wear m img line) in
      let copies : Has = λ m img line. below m img line + copies_to (leb 15) m img line in
      let e = plus copies below (copies_to (leb 15)) (λ m img line. refl) in
      number-summed 15 (omega arith) size input
      ∙ eight (λ m img line. line_wear m img line 15) copies (cut_to any_frame) (λ m img line narrow. line-frames m img line narrow)
      ∙ ap (λ (x : ℕ). 8 * x + all (cut_to any_frame)) (e ∙ ap (λ (x : ℕ). x + all (copies_to (leb 15))) (numbers 15 (omega arith)))

pub stores-of-copies : StoresOfCopies
stores-of-copies size input = record { frame = frame-stored size input; frames = frames-stored size input }
