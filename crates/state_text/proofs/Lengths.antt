-- How many numbers a state has, and how long their text is: what the room in the buffer is reckoned from.
use Prim.Native.Nat.{ℕ, ◌*◌, ◌≤◌, min}
use mathlib.Core.Bool.{false}
use mathlib.Core.List.{List, ◌++◌}
use mathlib.Core.Path.{◌≡◌}
use native.Mathlib.Omega.{arith}
use lib.ListN.{length, drop, get_or, length-append, length-take}
use Rattle.bounded.specs.Below.{one}
use Rattle.bounded.proofs.Tab.{length-tab}
use Rattle.words.specs.Words.{part}
use Rattle.replay.specs.declared.Table.{Table}
use Rattle.state.specs.State.{State, Writers}
use Rattle.decimals.proofs.Printing.{decimal-le}
use Rattle.number_text.specs.Text.{each, blanked, field}
use Rattle.number_text.proofs.Puts.{length-each, length-blanked}
use Rattle.pending_text.specs.Numbers.{pending_numbers}
use Rattle.pending_text.proofs.Lengths.{pending-long}
use Rattle.state_text.specs.Numbers.{slot_numbers, open_numbers, held_numbers, writer_numbers, header_numbers, entry_number, key_number}
use Rattle.state_text.specs.Numbers.{turn_numbers, wide_numbers, places_numbers, places_field, work_numbers, state_field}

-- ---- numbers

slots-long : (t : Table) (n : ℕ) → length (each n (slot_numbers t)) ≤ 5 * n
slots-long t n = length-each 5 (slot_numbers t) (λ j. omega arith) n

map-long : (map : List ℕ) (n : ℕ) → length (each n (entry_number map)) ≤ 1 * n
map-long map n = length-each 1 (entry_number map) (λ j. omega arith) n

pub length-open : (ws : Writers) → length (open_numbers ws) ≡ 4
length-open ws = length-tab 4 (λ w. one (get_or ws.opened w false))

pub held-short : (held : List ℕ) (n : ℕ) → n ≤ 16 → (w : ℕ) → length (held_numbers held n w) ≤ 16
unfolding part
held-short held n h w = omega (arith, length-take n (drop (16 * w) held))

writers-long : (ws : Writers) (n : ℕ) → n ≤ 16 → length (writer_numbers ws n) ≤ 68
writers-long ws n h =
    let held = each 4 (held_numbers ws.held n) in
    omega (arith, length-append (open_numbers ws) held, length-open ws, length-each 16 (held_numbers ws.held n) (held-short ws.held n h) 4)

wide-long : (st : State) → length (wide_numbers st) ≤ 67
wide-long st =
    let n = min st.wide.count 64 in
    let keys = length-each 1 (key_number st.wide.keys) (λ j. omega arith) n in
    omega (arith, length-append (turn_numbers st) (each n (key_number st.wide.keys)), keys)

-- ---- text: a number has at most 20 digits, and a mark stands before it

pub slots-text : (t : Table) (n : ℕ) → n ≤ 16 → length (blanked (each n (slot_numbers t))) ≤ 1680
slots-text t n h = omega (arith, length-blanked (each n (slot_numbers t)), slots-long t n)

map-text : (map : List ℕ) (n : ℕ) → n ≤ 1024 → length (blanked (each n (entry_number map))) ≤ 21504
map-text map n h = omega (arith, length-blanked (each n (entry_number map)), map-long map n)

pub writers-text : (ws : Writers) (n : ℕ) → n ≤ 16 → length (blanked (writer_numbers ws n)) ≤ 1428
writers-text ws n h = omega (arith, length-blanked (writer_numbers ws n), writers-long ws n h)

pub wide-text : (st : State) → length (blanked (wide_numbers st)) ≤ 1407
wide-text st = omega (arith, length-blanked (wide_numbers st), wide-long st)

pub places-text : (st : State) → length (places_field st) ≤ 23331
places-text st =
    let s = each (min st.sizes.slots 16) (slot_numbers st.table) in
    let m = each (min st.sizes.pages 1024) (entry_number st.map) in
    let two = length-append (header_numbers st) (s ++ m) in
    let one = length-append s m in
    let page = length-append (field st.sizes.pages) (blanked (places_numbers st)) in
    let text = length-blanked (places_numbers st) in
    let slots = slots-long st.table (min st.sizes.slots 16) in
    let map = map-long st.map (min st.sizes.pages 1024) in
    omega (arith, two, one, page, decimal-le st.sizes.pages, text, slots, map)

pub state-text : (st : State) → length (state_field st) ≤ 29001
state-text st =
    let n = min st.sizes.slots 16 in
    let h : n ≤ 16 = omega arith in
    let w = writer_numbers st.writers n in
    let p = pending_numbers st.pending in
    let two = length-append w (wide_numbers st ++ p) in
    let one = length-append (wide_numbers st) p in
    let all = length-append (places_field st) (blanked (work_numbers st)) in
    let text = length-blanked (work_numbers st) in
    omega (arith, two, one, all, text, places-text st, writers-long st.writers n h, wide-long st, pending-long st.pending)
