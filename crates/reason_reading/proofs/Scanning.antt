-- A text scanned byte by byte: what is read so far and the text that is left give its numbers.
use mathlib.Core.Path.{◌≡◌, sym, ap, ◌∙◌}
use mathlib.Core.Bool.{Bool, true, false, ◌&&◌, ◌||◌}
use mathlib.Core.List.{List, [], ◌∷◌}
use Prim.Native.Nat.{ℕ, suc, ◌+◌, ◌-◌, ◌*◌, ◌^◌, ◌<◌, ◌≤◌}
use native.Mathlib.Numerals.{add-one}
use native.Mathlib.Omega.{arith}
use lib.Dec.{ltb, leb, eqb}
use lib.ListN.{length, get_or, drop, drop_of_length-le}
use lib.Seq.{drop-cons}
use borrow.Author.Tests.{eq-eqb, le-leb, eqb-true, ltb-true, ltb-false, leb-true}
use Rattle.bounded.proofs.Tests.{case_on, and_left, and_right, every_held, held-every}
use Rattle.reason_reading.specs.Numbers.{goes_on, with_digit, numbers_from, numbers_in}
use Rattle.std.specs.Prelude.{Option, Some, None}
use Rattle.std.specs.Option.{unwrap_or}

-- ---- a digit

pub record Digit (v b : ℕ) : Type 0 where
  pub low : 48 ≤ b
  pub high : b ≤ 57
  pub small : 10 * v + (b - 48) < 2 ^ 64

abbrev room : ℕ → ℕ → Bool
room v b = ltb v 1844674407370955161 || eqb v 1844674407370955161 && leb b 53

room_small : (v b : ℕ) → 48 ≤ b → b ≤ 57 → room v b ≡ true → 10 * v + (b - 48) < 2 ^ 64
room_small v b l h e =
    case_on (ltb v 1844674407370955161)
    (λ t. omega (arith, ltb-true v 1844674407370955161 t))
    (λ t.
    let q : eqb v 1844674407370955161 && leb b 53 ≡ true = rw t at e in
    omega (arith, eqb-true v 1844674407370955161 (and_left (eqb v 1844674407370955161) (leb b 53) q), leb-true b 53 (and_right (eqb v 1844674407370955161) (leb b 53) q)))

small-room : (v b : ℕ) → 48 ≤ b → 10 * v + (b - 48) < 2 ^ 64 → room v b ≡ true
small-room v b l h =
    case_on (ltb v 1844674407370955161)
    (λ t. rw t)
    (λ t.
    let g : 1844674407370955161 ≤ v = ltb-false v 1844674407370955161 t in
    let e : v ≡ 1844674407370955161 = omega arith in
    rw (t, eq-eqb v 1844674407370955161 e, le-leb b 53 (omega arith)))

pub digit : (v b : ℕ) → goes_on v b ≡ true → Digit v b
digit v b t =
    let h = every_held (leb 48 b ∷ leb b 57 ∷ room v b ∷ []) t in
    let l : 48 ≤ b = leb-true 48 b h.0 in
    let g : b ≤ 57 = leb-true b 57 h.1.0 in
    record { low = l; high = g; small = room_small v b l g h.1.1.0 }

pub is_a_digit : (v b : ℕ) → Digit v b → goes_on v b ≡ true
is_a_digit v b d =
    held-every (leb 48 b ∷ leb b 57 ∷ room v b ∷ [])
    (le-leb 48 b d.low, (le-leb b 57 d.high, (small-room v b d.low d.small, tt)))

-- ---- one byte more

module _ (v b : ℕ) (bs : List ℕ) where
  pub at-digit : (on : Bool) → goes_on v b ≡ true → numbers_from on v (b ∷ bs) ≡ numbers_from true (10 * v + (b - 48)) bs
  unfolding numbers_from
  at-digit on t = rw t

  pub at_gap : goes_on v b ≡ false → numbers_from false v (b ∷ bs) ≡ numbers_from false 0 bs
  unfolding numbers_from
  at_gap t = rw t

  pub at-end : goes_on v b ≡ false → numbers_from true v (b ∷ bs) ≡ v ∷ numbers_from false 0 bs
  unfolding numbers_from
  at-end t = rw t

-- ---- the turns of a loop that looks for one number

-- the numbers of the text left after a number or none, which stands right before it
abbrev pub numbers_after : Option ℕ → List ℕ → List ℕ
numbers_after None l = numbers_from false 0 l
numbers_after (Some v) l = numbers_from true v l

-- the number looked for is the one at `left` of those that are left
abbrev pub Going : List ℕ → ℕ → ℕ → Option ℕ → ℕ → Type 0
Going text k left number i = get_or (numbers_in text) k 0 ≡ get_or (numbers_after number (drop i text)) left 0

-- a number goes on with a byte, or does not
taken : (v b n : ℕ) → with_digit v b ≡ Some n → (goes_on v b ≡ true) × (n ≡ 10 * v + (b - 48))
taken v b n e =
    case_on (goes_on v b)
    (λ t. let q : ◌≡◌ {A = Option ℕ} (Some (10 * v + (b - 48))) (Some n) = rw t at e in (t, cc))
    (λ t. let q : ◌≡◌ {A = Option ℕ} None (Some n) = rw t at e in let z : ◌≡◌ {A = ℕ} 0 1 = cc in absurd (omega arith))

left_out : (v b : ℕ) → with_digit v b ≡ None → goes_on v b ≡ false
left_out v b e =
    case_on (goes_on v b)
    (λ t. let q : ◌≡◌ {A = Option ℕ} (Some (10 * v + (b - 48))) None = rw t at e in let z : ◌≡◌ {A = ℕ} 0 1 = cc in absurd (omega arith))
    (λ t. t)

module _ (text : List ℕ) (k left i : ℕ) (h : i < length text) where
  abbrev later : List ℕ
  later = drop (i + 1) text

  split : drop i text ≡ get_or text i 0 ∷ later
  split = rw (add-one, drop-cons text i 0 h)

  pub turn-digit : (number : Option ℕ) (n : ℕ) → with_digit (unwrap_or number 0) (get_or text i 0) ≡ Some n → Going text k left number i → Going text k left (Some n) (i + 1)
  turn-digit None n e g =
      g
      ∙ ap (λ (l : List ℕ). get_or (numbers_from false 0 l) left 0) split
      ∙ ap (λ (l : List ℕ). get_or l left 0) (at-digit 0 (get_or text i 0) later false (taken 0 (get_or text i 0) n e).0)
      ∙ ap (λ (m : ℕ). get_or (numbers_from true m later) left 0) (sym (taken 0 (get_or text i 0) n e).1)
  turn-digit (Some v) n e g =
      g
      ∙ ap (λ (l : List ℕ). get_or (numbers_from true v l) left 0) split
      ∙ ap (λ (l : List ℕ). get_or l left 0) (at-digit v (get_or text i 0) later true (taken v (get_or text i 0) n e).0)
      ∙ ap (λ (m : ℕ). get_or (numbers_from true m later) left 0) (sym (taken v (get_or text i 0) n e).1)

  pub turn_gap : with_digit 0 (get_or text i 0) ≡ None → Going text k left None i → Going text k left None (i + 1)
  turn_gap e g =
      g
      ∙ ap (λ (l : List ℕ). get_or (numbers_from false 0 l) left 0) split
      ∙ ap (λ (l : List ℕ). get_or l left 0) (at_gap 0 (get_or text i 0) later (left_out 0 (get_or text i 0) e))

  module _ (v : ℕ) (e : with_digit v (get_or text i 0) ≡ None) (g : Going text k left (Some v) i) where
    closes : get_or (numbers_in text) k 0 ≡ get_or (v ∷ numbers_from false 0 later) left 0
    closes =
        g
        ∙ ap (λ (l : List ℕ). get_or (numbers_from true v l) left 0) split
        ∙ ap (λ (l : List ℕ). get_or l left 0) (at-end v (get_or text i 0) later (left_out v (get_or text i 0) e))

    pub turn-found : left ≡ 0 → v ≡ get_or (numbers_in text) k 0
    turn-found z = sym (closes ∙ ap (λ (n : ℕ). get_or (v ∷ numbers_from false 0 later) n 0) z)

    pub turn-past : 0 < left → Going text k (left - 1) None (i + 1)
    turn-past z =
        let e : left ≡ suc (left - 1) = omega arith in
        closes ∙ ap (λ (n : ℕ). get_or (v ∷ numbers_from false 0 later) n 0) e

-- no byte is left
going_end : (text : List ℕ) (k left : ℕ) (number : Option ℕ) (i : ℕ) → length text ≤ i → Going text k left number i
    → get_or (numbers_in text) k 0 ≡ get_or (numbers_after number []) left 0
going_end text k left number i h g = g ∙ ap (λ (l : List ℕ). get_or (numbers_after number l) left 0) (drop_of_length-le text {i = i} h)

pub end-found : (text : List ℕ) (k left v i : ℕ) → length text ≤ i → Going text k left (Some v) i → left ≡ 0 → v ≡ get_or (numbers_in text) k 0
unfolding numbers_from
end-found text k left v i h g z = sym (going_end text k left (Some v) i h g ∙ ap (λ (n : ℕ). get_or (v ∷ []) n 0) z)

pub end-past : (text : List ℕ) (k left v i : ℕ) → length text ≤ i → Going text k left (Some v) i → 0 < left → 0 ≡ get_or (numbers_in text) k 0
unfolding numbers_from
end-past text k left v i h g z =
    let e : left ≡ suc (left - 1) = omega arith in
    sym (going_end text k left (Some v) i h g ∙ ap (λ (n : ℕ). get_or (v ∷ []) n 0) e)

pub end-none : (text : List ℕ) (k left i : ℕ) → length text ≤ i → Going text k left None i → 0 ≡ get_or (numbers_in text) k 0
unfolding numbers_from
end-none text k left i h g = sym (going_end text k left None i h g)
