-- The meters and their events (document 02, L2 and L10). Meter m is the first word of line m of page 0. Meter 0 is credit, 1 cash in, 2 cash out,
-- 3 bet, 4 won. The events 1 to 4 move credit and the meter of their own number; event 5 is a count, which moves one of meters 5 to 23. An event is lent
-- the moduli, ms.
use Rattle.std.specs.Prelude.{ℕ, ◌+◌, ◌-◌, ◌%◌, Bool, ◌&&◌, ◌||◌, not, cond, List, ltb, leb, eqb, length, get_or}
use Rattle.bounded.specs.Below.{all_below}
use Rattle.bounded.specs.Tab.{tab}

-- row 26 of a modulus: it is outside 100 to 1,000,000,000,000
abbrev pub modulus_bad : ℕ → Bool
modulus_bad x = ltb x 100 || ltb 1000000000000 x

-- 24 moduli in the range
unfoldable pub moduli_ok : List ℕ → Bool
moduli_ok ms = eqb (length ms) 24 && all_below 24 (λ m. not (modulus_bad (get_or ms m 0)))

-- that of meter m
unfoldable pub modulus_of : List ℕ → ℕ → ℕ
modulus_of ms m = get_or ms m 0

-- L2's own: 100,000,000 for meters 0 to 4, 1,000,000 for 5 to 14, 10,000 for 15 to 23
unfoldable pub fixed_modulus : ℕ → ℕ
fixed_modulus m = cond (ltb m 5) 100000000 (cond (ltb m 15) 1000000 10000)

unfoldable pub fixed_moduli : List ℕ
fixed_moduli = tab 24 fixed_modulus

-- the events that there are
abbrev pub event_known : ℕ → ℕ → Bool
event_known kind meter = (leb 1 kind && leb kind 4) || (eqb kind 5 && (leb 5 meter && leb meter 23))

-- of a known event: whether it moves credit, the meter of its own, and the one whose line goes first (credit's, where it moves credit)
abbrev pub moves_credit : ℕ → Bool
moves_credit kind = ltb kind 5

abbrev pub own_meter : ℕ → ℕ → ℕ
own_meter kind meter = cond (moves_credit kind) kind meter

abbrev pub first_meter : ℕ → ℕ → ℕ
first_meter kind meter = cond (moves_credit kind) 0 meter

-- the lines that it writes, and its stores: 8 for each, 4 for the record, 1 for head
abbrev pub event_needs : ℕ → ℕ
event_needs kind = cond (moves_credit kind) 21 13

-- a meter's new number: the stored one and the amount by remainder. Credit does not roll: cash in and won are added, cash out and bet taken off
abbrev pub rolled : List ℕ → ℕ → ℕ → ℕ → ℕ
rolled ms meter stored amount = (stored + amount) % modulus_of ms meter

abbrev pub adds : ℕ → Bool
adds kind = eqb kind 1 || eqb kind 4

abbrev pub credit_after : ℕ → ℕ → ℕ → ℕ
credit_after kind credit amount = cond (adds kind) (credit + amount) (credit - amount)

-- the number of the line that goes first
abbrev pub first_number : List ℕ → ℕ → ℕ → ℕ → ℕ → ℕ
first_number ms kind meter stored amount = cond (moves_credit kind) (credit_after kind stored amount) (rolled ms meter stored amount)

-- row 21: the amount is not below the meter's modulus, or the new credit is below 0 or not below meter 0's modulus
unfoldable pub credit_bad : List ℕ → ℕ → ℕ → ℕ → Bool
credit_bad ms kind credit amount =
    cond (adds kind) (leb (modulus_of ms 0) (credit + amount)) (ltb credit amount || leb (modulus_of ms 0) (credit - amount))

unfoldable pub amount_bad : List ℕ → ℕ → ℕ → ℕ → ℕ → Bool
amount_bad ms kind meter stored amount =
    leb (modulus_of ms (own_meter kind meter)) amount || (moves_credit kind && credit_bad ms kind stored amount)
