-- A line that goes on, and text that is printed, in their buffers.
use mathlib.Core.Path.{◌≡◌, sym, ap, ap₂, ◌∙◌}
use mathlib.Core.List.{List, [], ◌++◌, append-nil}
use Prim.Native.Nat.{ℕ, ◌+◌, ◌-◌, ◌<◌, ◌≤◌, min}
use native.Mathlib.Omega.{arith}
use lib.Dec.{ltb}
use lib.ListN.{length, take, drop, length-append, length-take, length-drop}
use lib.Seq.{take-nil, take_all, take-add, take-append-le, take-append-add, drop-append-le, drop-length, length-take-le}
use borrow.Author.Tests.{ltb-true, ltb-false}
use Rattle.bounded.proofs.Tests.{case_on}
use Rattle.words.specs.Words.{part, over}
use Rattle.words.proofs.Parts.{part-over, take-over, length_over}
use Rattle.cutting.specs.Pieces.{fitting}
use Rattle.cutting.specs.Buffers.{Holds, Ends}
use Rattle.cutting.proofs.Cutting.{fitting-le}

-- ---- what is laid behind the first bytes

laid-behind : (l : List ℕ) (a : ℕ) (ys : List ℕ) → a + length ys ≤ length l → take (a + length ys) (over l a ys) ≡ take a l ++ ys
unfolding part
laid-behind l a ys h =
    take-add a (length ys) (over l a ys) ∙ ap₂ (λ (t u : List ℕ). t ++ u) (take-over l a ys h a (omega arith)) (part-over l a ys h)

-- ---- a line

pub holds-none : (line : List ℕ) → Holds line 0 []
holds-none line = record { within = omega arith; bytes = sym (take-nil (length line)) }

pub holds-length : {line : List ℕ} {kept : ℕ} {begun : List ℕ} → Holds line kept begun → kept ≡ min (length line) (length begun)
holds-length {line} {kept} {begun} h = sym (length-take-le kept line h.within) ∙ ap length h.bytes ∙ length-take (length line) begun

-- a line and more of it, in a buffer of n bytes
held : (n : ℕ) (begun more : List ℕ) → take n begun ++ take (n - min n (length begun)) more ≡ take n (begun ++ more)
held n begun more =
    case_on (ltb (length begun) n)
    (λ t.
    let h : length begun < n = ltb-true (length begun) n t in
    let e : n - min n (length begun) ≡ n - length begun = omega arith in
    let d : length begun + (n - length begun) ≡ n = omega arith in
    ap₂ (λ (a b : List ℕ). a ++ b) (take_all n begun (omega arith)) (ap (λ (k : ℕ). take k more) e)
    ∙ sym (take-append-add begun more (n - length begun))
    ∙ ap (λ (k : ℕ). take k (begun ++ more)) d)
    (λ t.
    let h : n ≤ length begun = ltb-false (length begun) n t in
    let e : n - min n (length begun) ≡ 0 = omega arith in
    ap (λ (k : ℕ). take n begun ++ take k more) e ∙ append-nil (take n begun) ∙ sym (take-append-le n begun more h))

pub holds_more : {line : List ℕ} {have : ℕ} {begun : List ℕ} (input : List ℕ) (from to : ℕ) → Holds line have begun
    → (let more = fitting line have input from to in Holds (over line have more) (have + length more) (begun ++ part input from (to - from)))
unfolding fitting
holds_more {line} {have} {begun} input from to h =
    let more : List ℕ = fitting line have input from to in
    let rest : List ℕ = part input from (to - from) in
    let f : have + length more ≤ length line = fitting-le line have input from to h.within in
    let n : length (over line have more) ≡ length line = length_over line have more f in
    record {
      within = omega (arith, n, f);
      bytes =
          laid-behind line have more f
          ∙ ap₂ (λ (t u : List ℕ). t ++ u) h.bytes (ap (λ (k : ℕ). take (length line - k) rest) (holds-length h))
          ∙ held (length line) begun rest
          ∙ ap (λ (k : ℕ). take k (begun ++ rest)) (sym n);
    }

-- ---- what is printed

-- all is written
pub ends-none : (out printed : List ℕ) → Ends out 0 printed
ends-none out printed =
    let e : length printed - 0 ≡ length printed = omega arith in
    record { within = omega arith; bytes = sym (ap (λ (k : ℕ). drop k printed) e ∙ drop-length printed) }

-- text that is put behind, where there is room: the buffer stays as long as it is
pub ends_more : {out : List ℕ} {at : ℕ} {printed : List ℕ} (text : List ℕ) → Ends out at printed → at ≤ length out
    → length (over out at text) ≡ length out → Ends (over out at text) (at + length text) (printed ++ text)
unfolding over
ends_more {out} {at} {printed} text h r k =
    let room : at + length text ≤ length out = omega (arith, simp (length-append, length-take, length-drop) at k) in
    let e : length (printed ++ text) - (at + length text) ≡ length printed - at = omega (arith, length-append printed text, h.within) in
    record {
      within = omega (arith, length-append printed text, h.within);
      bytes =
          laid-behind out at text room
          ∙ ap (λ (t : List ℕ). t ++ text) h.bytes
          ∙ sym (ap (λ (n : ℕ). drop n (printed ++ text)) e ∙ drop-append-le (length printed - at) printed text (omega arith));
    }
