-- Both programs on the same bytes: wear_by_frame's machine is powerhit's in the input that has begun, and what is counted is what is told.
use Prim.Native.Nat.{ℕ, ◌+◌, ◌%◌, ◌^◌, ◌<◌}
use mathlib.Core.Bool.{true, false}
use mathlib.Core.List.{List, [], ◌∷◌, ◌++◌, append-nil}
use mathlib.Core.Path.{◌≡◌, refl, sym, ap, ◌∙◌, subst}
use native.Mathlib.Omega.{arith}
use lib.Dec.{eqb}
use lib.ListN.{length, get_or, replicate, length-replicate}
use borrow.Author.Tests.{ne_eqb}
use Rattle.bounded.specs.Tab.{tab}
use Rattle.bounded.proofs.Tests.{case_on}
use Rattle.bounded.proofs.Tab.{get_or-tab}
use Rattle.cutting.specs.Feeding.{Fed, fed_byte, fed, ended}
use Rattle.cutting.proofs.Feeding.{fed-append}
use Rattle.text.specs.declared.Line.{Line}
use Rattle.text.specs.Fields.{parsed, fields, with_byte, all_digits, value_from}
use Rattle.executing.specs.Called.{Machine}
use Rattle.printing.specs.Output.{output_line}
use Rattle.script.specs.Listing.{text}
use Rattle.script.specs.Turns.{turn_of}
use Rattle.script.specs.Work as Powerhit
use Rattle.wear.specs.Wear.{line_wear}
use Rattle.wear_lines.specs.Lines.{Work, opening, first, turned, parts, act}
use Rattle.wear_laws.specs.Inputs.{unfed, worked, inputs_from, inputs_of}
use Rattle.wear_laws.specs.Listings.{listing, tells, stores_told, all_told, StoresTold}
use Rattle.wear_laws.proofs.Counted.{made, line-parts, line-writers}
use Rattle.wear_laws.proofs.Turned.{turn-readable, turn-long}
use Rattle.wear_laws.proofs.Reading.{one_line, one-line-more, fed-part, fed-whole, line-told}

-- the 22 numbers with a line's
abbrev added : List ℕ → (ℕ → ℕ) → List ℕ
added worn more = tab 22 (λ k. get_or worn k 0 + more k)

-- a sum of some of them, to which each line adds its stores
module _ (total : List ℕ → ℕ) (size : ℕ)
    (adds : (m : Machine) (img : List ℕ) (line : Line) (worn : List ℕ) → total (added worn (line_wear m img line)) ≡ total worn + made m img line) where
  abbrev start : Powerhit.Work
  start = Powerhit.opening (replicate size 0)

  -- after `whole`, the lines of the input that has begun
  record At (base : ℕ) (whole : List ℕ) (w : Work) : Type 0 where
    listed : Powerhit.Work
    stores : ℕ
    before : fed Powerhit.act (unfed start) whole ≡ unfed listed
    machine : w.machine ≡ listed.machine
    image : w.image ≡ listed.image
    long : length w.image ≡ size
    told : fed tells (unfed 0) listed.printed ≡ unfed stores
    sum : total w.worn ≡ base + stores

  -- an input begins
  begins : (base : ℕ) (worn : List ℕ) → total worn ≡ base → At base [] (opening size worn)
  unfolding opening fed fed_byte text fields with_byte all_digits value_from
  begins base worn e =
      record {
        listed = start;
        stores = 0;
        before = refl;
        machine = refl;
        image = refl;
        long = length-replicate size 0;
        told = refl;
        sum = omega (arith, e);
      }

  module _ (base : ℕ) (whole : List ℕ) (w : Work) (h : At base whole w) where
    -- what powerhit prints for the lines
    lines-told : stores_told (listing size whole) ≡ h.stores
    unfolding ended
    lines-told = ap (λ (f : Fed Powerhit.Work). stores_told (ended Powerhit.act f).printed) h.before ∙ ap (ended tells) h.told

    module _ (line : List ℕ) (one : one_line line ≡ true) where
      abbrev next : Powerhit.Work
      next = Powerhit.act h.listed line

      abbrev stores-made : ℕ
      stores-made = made w.machine w.image (parsed 9 line)

      told-next : fed tells (unfed 0) next.printed ≡ unfed (h.stores + stores-made)
      unfolding Powerhit.act
      told-next =
          let p = h.listed in
          let q = parsed 9 line in
          let n = (p.lines + 1) % 2 ^ 64 in
          let o = (turn_of p.machine p.image q).output in
          let same : made p.machine p.image q ≡ stores-made = rw (h.machine, h.image) in
          fed-append tells (unfed 0) p.printed (output_line n o)
          ∙ ap (λ (f : Fed ℕ). fed tells f (output_line n o)) h.told
          ∙ line-told h.stores n o (turn-readable p.machine p.image q)
          ∙ ap (λ (x : ℕ). unfed (h.stores + x)) same

      -- a line more
      goes : At base (whole ++ (line ++ (10 ∷ []))) (turned (parsed 9 line) w)
      unfolding turned Powerhit.act
      goes =
          record {
            listed = next;
            stores = h.stores + stores-made;
            before = fed-append Powerhit.act (unfed start) whole (line ++ (10 ∷ [])) ∙ rw h.before (fed-whole Powerhit.act h.listed line one);
            machine = rw (h.machine, h.image);
            image = rw (h.machine, h.image);
            long = turn-long w.machine w.image (parsed 9 line) ∙ h.long;
            told = told-next;
            sum = adds w.machine w.image (parsed 9 line) w.worn ∙ omega (arith, h.sum);
          }

      -- the last, which no newline ends
      last-told : eqb (length line) 0 ≡ false → stores_told (listing size (whole ++ line)) ≡ h.stores + stores-made
      unfolding ended
      last-told some =
          let e : fed Powerhit.act (unfed start) (whole ++ line) ≡ record { done = h.listed; begun = line } =
          fed-append Powerhit.act (unfed start) whole line ∙ rw h.before (fed-part Powerhit.act h.listed [] line one) in
          let last : ended Powerhit.act (record { done = h.listed; begun = line }) ≡ next = rw some in
          ap (λ (f : Fed Powerhit.Work). stores_told (ended Powerhit.act f).printed) e
          ∙ ap (λ (p : Powerhit.Work). stores_told p.printed) last
          ∙ ap (ended tells) told-next

  -- ---- all bytes

  module _ (base : ℕ) (whole : List ℕ) (w : Work) (h : At base whole w) where
    ends : (begun : List ℕ) → one_line begun ≡ true
        → total (ended act (record { done = w; begun = begun })).worn ≡ base + all_told size (inputs_from whole begun [])
    unfolding ended act opening turned inputs_from all_told
    ends [] one = rw append-nil (omega (arith, lines-told base whole w h, h.sum))
    ends (b ∷ l) one =
        let begun = b ∷ l in
        let some : eqb (length begun) 0 ≡ false = ne_eqb (length begun) 0 (λ q. omega arith) in
        case_on (parts begun)
        (λ p. rw (some, p) (omega (arith, lines-told base whole w h, h.sum)))
        (λ p.
        let u = last-told base whole w h begun one some in
        let v = adds w.machine w.image (parsed 9 begun) w.worn in
        rw (some, p) (omega (arith, u, v, h.sum)))

    -- a line `=`
    abbrev parted : Work
    parted = opening (length w.image) w.worn

    begins-next : At (base + h.stores) [] parted
    begins-next = subst (λ (n : ℕ). At (base + h.stores) [] (opening n w.worn)) (sym h.long) (begins (base + h.stores) w.worn h.sum)

  fed-told : (bytes : List ℕ) (base : ℕ) (whole begun : List ℕ) (w : Work) → At base whole w → one_line begun ≡ true
      → total (ended act (fed act (record { done = w; begun = begun }) bytes)).worn ≡ base + all_told size (inputs_from whole begun bytes)
  unfolding fed fed_byte act inputs_from all_told
  fed-told [] base whole begun w h one = ends base whole w h begun one
  fed-told (b ∷ bytes) base whole begun w h one =
      case_on (eqb b 10)
      (λ t.
      case_on (parts begun)
      (λ p.
      let ih = fed-told bytes (base + h.stores) [] [] (parted base whole w h) (begins-next base whole w h) refl in
      rw (t, p) (omega (arith, ih, lines-told base whole w h)))
      (λ p. rw (t, p) (fed-told bytes base (whole ++ (begun ++ (10 ∷ []))) [] (turned (parsed 9 begun) w) (goes base whole w h begun one) refl)))
      (λ t. rw t (fed-told bytes base whole (begun ++ (b ∷ [])) w h (one-line-more begun b one t)))

  all_told_are : (input : List ℕ) → total (replicate 22 0) ≡ 0 → total (worked size input).worn ≡ all_told size (inputs_of input)
  all_told_are input e =
      let r = fed-told input 0 [] [] (first size) (begins 0 (replicate 22 0) e) refl in
      omega (arith, r)

-- ---- the two sums

abbrev five : List ℕ → ℕ
five worn = get_or worn 15 0 + get_or worn 16 0 + get_or worn 17 0 + get_or worn 18 0 + get_or worn 19 0

abbrev two : List ℕ → ℕ
two worn = get_or worn 20 0 + get_or worn 21 0

module _ (m : Machine) (img : List ℕ) (line : Line) (worn : List ℕ) where
  more-at : (k : ℕ) → k < 22 → get_or (added worn (line_wear m img line)) k 0 ≡ get_or worn k 0 + line_wear m img line k
  more-at k l = get_or-tab 22 (λ (j : ℕ). get_or worn j 0 + line_wear m img line j) k 0 l

  five-adds : five (added worn (line_wear m img line)) ≡ five worn + made m img line
  five-adds =
      let frames = more-at 15 (omega arith) in
      let header = more-at 16 (omega arith) in
      let tables = more-at 17 (omega arith) in
      let journal = more-at 18 (omega arith) in
      let padding = more-at 19 (omega arith) in
      omega (arith, line-parts m img line)

  two-adds : two (added worn (line_wear m img line)) ≡ two worn + made m img line
  two-adds = omega (arith, line-writers m img line, more-at 20 (omega arith), more-at 21 (omega arith))

pub stores-told : StoresTold
stores-told size input =
    record {
      parts = all_told_are five size five-adds input refl;
      writers = all_told_are two size two-adds input refl;
    }
