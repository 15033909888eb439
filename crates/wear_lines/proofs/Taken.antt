-- A line taken, and the numbers printed.
use Prim.Native.Nat.{ℕ, zero, suc, ◌+◌, ◌*◌, ◌%◌, ◌^◌, ◌<◌, ◌≤◌}
use mathlib.Core.Bool.{true, false}
use mathlib.Core.List.{List, [], ◌∷◌, ◌++◌}
use mathlib.Core.Path.{◌≡◌, refl, sym, ap, ap₂, subst, ◌∙◌}
use native.Mathlib.Numerals.{add-one}
use native.Mathlib.Omega.{arith}
use lib.ListN.{length, get_or, replicate, length-append, length-replicate, get_or-replicate}
use lib.Seq.{ext_get_or}
use Rattle.bounded.specs.Tab.{tab, filled}
use Rattle.bounded.proofs.Below.{ends}
use Rattle.bounded.proofs.Tests.{contradicts}
use Rattle.bounded.proofs.Tab.{length-filled, get_or-filled, get_or-tab}
use Rattle.decimals.specs.Decimal.{decimal_of}
use Rattle.decimals.proofs.Printing.{decimal-le}
use Rattle.number_text.specs.Text.{Put, each}
use Rattle.number_text.proofs.Puts.{put-none, put_then, put_as, length-each}
use Rattle.text.specs.declared.Line.{Line}
use Rattle.text.specs.Fields.{parsed}
use Rattle.executing.specs.Called.{Machine}
use Rattle.script.specs.Performed.{started}
use Rattle.script.specs.Turns.{turn_of}
use Rattle.wear.specs.Wear.{line_wear}
use Rattle.wear.specs.Performs.{Counts, Performs, NarrowMachine}
use Rattle.wear.proofs.Narrow.{turn-narrow}
use Rattle.wear_lines.specs.Lines.{Work, opening, turned, parts, act, ended, number_line, response}
use Rattle.wear_lines.specs.Stands.{Stands, Acts, PutResponse}

-- ---- a line

module _ (m : Machine) (img counts line : List ℕ) (m' : Machine) (img' : List ℕ) where
  pub acts-parting : parts line ≡ true → m' ≡ started → img' ≡ replicate (length img) 0 → Acts m img counts line m' img' counts
  unfolding act opening
  acts-parting t e q =
      record {
        stands = λ w s. rw t (record {
          machine = e;
          image = q ∙ ap (λ (x : List ℕ). replicate (length x) 0) s.image;
          sums = s.sums;
        });
        narrow = subst NarrowMachine (sym e) (λ f. contradicts f refl);
      }

  pub acts-turn : (counts' : List ℕ) (q : Line) → parts line ≡ false → q ≡ parsed 9 line → NarrowMachine m
      → Performs (turn_of m img q) (line_wear m img q) counts m' img' counts' → Acts m img counts line m' img' counts'
  unfolding act turned
  acts-turn counts' q t e narrow p =
      record {
        stands = λ w s.
            let sums : ℕ → ℕ = λ k. get_or w.worn k 0 + line_wear w.machine w.image (parsed 9 line) k in
            rw t (record {
              machine = p.machine ∙ rw (e, s.machine, s.image);
              image = p.image ∙ rw (e, s.machine, s.image);
              sums = λ k l.
                  p.adds.sums (λ k. get_or w.worn k 0) s.sums k l
                  ∙ ap (λ (x : ℕ). (get_or w.worn k 0 + x) % 2 ^ 64) (rw (e, s.machine, s.image))
                  ∙ sym (ap (λ (x : ℕ). x % 2 ^ 64) (get_or-tab 22 sums k 0 l));
            });
        narrow = subst NarrowMachine (sym p.machine) (turn-narrow m img q narrow);
      }

-- ---- the numbers

each-ext : (f g : ℕ → List ℕ) (n : ℕ) → ((k : ℕ) → k < n → f k ≡ g k) → each n f ≡ each n g
unfolding each
each-ext f g zero h = refl
each-ext f g (suc n) h = ap₂ (λ (a b : List ℕ). a ++ b) (each-ext f g n (λ k l. h k (omega arith))) (h n (omega arith))

-- a loop that puts the numbers of a list has come to number k
abbrev pub listed : List ℕ → ℕ → List ℕ
listed counts k = each k (λ j. ended (get_or counts j 0))

ended-le : (v : ℕ) → length (ended v) ≤ 21
ended-le v = omega (arith, length-append (decimal_of v) (10 ∷ []), decimal-le v)

pub listed-none : (out counts : List ℕ) → Put out 0 (listed counts 0) out 0
unfolding each
listed-none out counts = put-none out 0

module _ {out out' : List ℕ} (counts : List ℕ) (k : ℕ) {next : ℕ} (p : Put out 0 (listed counts k) out' next) where
  pub listed_at : next ≤ 21 * k
  listed_at = omega (arith, p.place, length-each 21 (λ j. ended (get_or counts j 0)) (λ j. ended-le (get_or counts j 0)) k)

  pub listed-turn : {out'' : List ℕ} {last : ℕ} → Put out' next (ended (get_or counts k 0)) out'' last → next ≤ length out → Put out 0 (listed counts (k + 1)) out'' last
  unfolding each
  listed-turn q h = rw add-one (put_then p q h)

pub listed-end : (out out' counts : List ℕ) (k next : ℕ) → k ≤ 22 → 22 ≤ k → Put out 0 (listed counts k) out' next → PutResponse counts out out' next
unfolding response
listed-end out out' counts k next h l p =
    record {
      text = λ m img w s.
          put_as (ends (listed counts) 22 k h l ∙ each-ext (λ j. ended (get_or counts j 0)) (λ j. number_line (get_or w.worn j 0)) 22 (λ j r. ap ended (s.sums j r))) p;
    }
