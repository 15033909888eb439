-- Where row 14 or 18 turns a call back, a writer stands in its way, and the one that is said is the lowest.
use mathlib.Core.Path.{◌≡◌, refl, subst}
use mathlib.Core.Bool.{Bool, true, false, not, ◌&&◌, ◌||◌}
use mathlib.Core.List.{List}
use Prim.Native.Nat.{ℕ, ◌+◌, ◌<◌, min}
use native.Mathlib.Omega.{arith}
use lib.Dec.{ltb, leb, eqb}
use borrow.Author.Tests.{ltb-true, ltb-false, not-false, eqb-true, eqb-false}
use Rattle.bounded.specs.Rows.{refusal}
use Rattle.bounded.specs.Below.{some_below, first_below}
use Rattle.bounded.proofs.Tests.{case_on, contradicts, and_left, and_right, or_left, or_right}
use Rattle.bounded.proofs.Below.{first-le, first_holds, first-before, none_made}
use Rattle.layout.specs.Layout.{sizes_ok}
use Rattle.layout.proofs.LayoutLaws.{legal}
use Rattle.meters.specs.Meters.{event_known, first_meter, own_meter}
use Rattle.meters.proofs.MeterLaws.{first-low, own_range}
use Rattle.state.specs.State.{State, own_frame}
use Rattle.state.specs.Held.{others_hold, some_hold}
use Rattle.state.specs.Wide.{is_wide}
use Rattle.operations.specs.Operations.{slot_for, slotted}
use Rattle.validity.specs.Validity.{state_ok, slots_ok}
use Rattle.validity.proofs.Ranged.{slots-good}
use Rattle.refinement.specs.Calls.{write_call_rows, consolidate_call_rows, event_call_rows}
use Rattle.refusals.specs.Met.{holds_line, holds_slot, slot_met, line_holder, page_holder, event_holder, Lowest}
use Rattle.refusals.proofs.Slots.{has-slot, line_first, page-first}
use Rattle.refusals.proofs.OnlyRow.{stopped, never}
use Rattle.refusals.proofs.Returned.{write_table}

-- some of the four stand in the way, so the first is one of them
lowest : (f : ℕ → Bool) → some_below 4 f ≡ true → Lowest f (first_below 4 f)
lowest f e = record { writer = low; stands = first_holds f 4 low; lowest = first-before f 4 }
  where
    low : first_below 4 f < 4
    low =
        case_on (eqb (first_below 4 f) 4)
        (λ t.
        let z : first_below 4 f ≡ 4 = eqb-true (first_below 4 f) 4 t in
        contradicts e (none_made f 4 (λ i h. first-before f 4 i (omega arith))))
        (λ t. let n : first_below 4 f ≡ 4 → ⊥ = eqb-false (first_below 4 f) 4 t in omega (arith, first-le f 4))

sizes-ok : (st : State) → state_ok st ≡ true → sizes_ok st.sizes ≡ true
unfolding state_ok
sizes-ok st e =
    (slots-good st.sizes st.head st.tail st.table (own_frame st) (and_left (slots_ok st.sizes st.head st.tail st.table (own_frame st)) _ e)).sizes

-- the slot that is met is the page's
module _ (st : State) (p : ℕ) (ok : not (state_ok st) ≡ false) (has : slotted st p ≡ true) where
  sizes : sizes_ok st.sizes ≡ true
  sizes = sizes-ok st (not-false (state_ok st) ok)

  slot : slot_for st p ≡ slot_met st.sizes st.table.page p
  slot = has-slot st.sizes st.table.page p (slot_for st p) sizes refl (ltb-true (slot_for st p) st.sizes.slots has)

  slot-low : slot_for st p < 16
  slot-low = let l = legal st.sizes sizes in omega (arith, ltb-true (slot_for st p) st.sizes.slots has)

-- 14, which a wide writer never meets
narrow-met : (st : State) (img : List ℕ) (w p l o n : ℕ) (bytes : List ℕ) → refusal (write_table st img w p l o n bytes false) ≡ 14
    → Lowest (holds_line st.writers.held w (slot_for st p) l) (line_holder st w p l)
unfolding others_hold
narrow-met st img w p l o n bytes e =
    let s = stopped (write_table st img w p l o n bytes false) 7 14 refl e in
    let others = others_hold st.writers.held w (slot_for st p) l in
    let has = and_left (slotted st p) others s.applies in
    let args = s.past.1.1.1.1.0 in
    let bad = ltb 3 w || leb st.sizes.pages p in
    let high : ltb 63 l ≡ false = or_right bad (ltb 63 l) (or_left (bad || ltb 63 l) (eqb n 0) (or_left (bad || ltb 63 l || eqb n 0) (ltb 64 (o + n)) args)) in
    subst (λ (v : ℕ). Lowest (holds_line st.writers.held w (slot_for st p) l) v)
    (line_first st p (slot_for st p) (slot st p s.past.0 has) w l (slot-low st p s.past.0 has) (ltb-false 63 l high))
    (lowest (holds_line st.writers.held w (slot_for st p) l) (and_right (slotted st p) others s.applies))

pub write-met : (st : State) (img : List ℕ) (w p l o n : ℕ) (bytes : List ℕ) → refusal (write_call_rows st img w p l o n bytes) ≡ 14
    → Lowest (holds_line st.writers.held w (slot_for st p) l) (line_holder st w p l)
write-met st img w p l o n bytes e =
    case_on (is_wide st.wide w)
    (λ t. never (write_table st img w p l o n bytes true) 14 refl (rw t at e))
    (λ t. narrow-met st img w p l o n bytes (rw t at e))

-- 18
pub consolidate-met : (st : State) (img : List ℕ) (p : ℕ) → refusal (consolidate_call_rows st img p) ≡ 18
    → Lowest (holds_slot st.writers.held (slot_for st p)) (page_holder st p)
unfolding some_hold
consolidate-met st img p e =
    let s = stopped (consolidate_call_rows st img p) 6 18 refl e in
    let has = not-false (slotted st p) s.past.1.1.1.1.1.0 in
    subst (λ (v : ℕ). Lowest (holds_slot st.writers.held (slot_for st p)) v)
    (page-first st p (slot_for st p) (slot st p s.past.0 has) (slot-low st p s.past.0 has))
    (lowest (holds_slot st.writers.held (slot_for st p)) s.applies)

-- 14, of an event: on either of its lines
two-lowest : (f g : ℕ → Bool) → some_below 4 f || some_below 4 g ≡ true → Lowest (λ v. f v || g v) (min (first_below 4 f) (first_below 4 g))
two-lowest f g e =
    let a = first_below 4 f in
    let b = first_below 4 g in
    let low : min a b < 4 =
    case_on (some_below 4 f) (λ t. omega (arith, (lowest f t).writer)) (λ t. omega (arith, (lowest g (rw t at e)).writer)) in
    record {
      writer = low;
      stands =
          case_on (ltb a b)
          (λ t.
          let m : min a b ≡ a = omega (arith, ltb-true a b t) in
          rw (m, first_holds f 4 (omega arith)))
          (λ t.
          let m : min a b ≡ b = omega (arith, ltb-false a b t) in
          rw (m, first_holds g 4 (omega arith)) (or-true (f b)));
      lowest = λ u h. rw (first-before f 4 u (omega arith), first-before g 4 u (omega arith));
    }
  where
    or-true : (b : Bool) → b || true ≡ true
    or-true true = refl
    or-true false = refl

both : (s a b : Bool) → (s && a) || (s && b) ≡ true → (s ≡ true) × (a || b ≡ true)
both true a b e = (refl, e)
both false a b e = contradicts e refl

pub event-met : (st : State) (img ms : List ℕ) (k m a : ℕ) → refusal (event_call_rows st img ms k m a) ≡ 14
    → Lowest (λ v. holds_line st.writers.held 1 (slot_for st 0) (first_meter k m) v || holds_line st.writers.held 1 (slot_for st 0) (own_meter k m) v) (event_holder st k m)
unfolding others_hold event_holder
event-met st img ms k m a e =
    let s = stopped (event_call_rows st img ms k m a) 8 14 refl e in
    let f = holds_line st.writers.held 1 (slot_for st 0) (first_meter k m) in
    let g = holds_line st.writers.held 1 (slot_for st 0) (own_meter k m) in
    let h = both (slotted st 0) (some_below 4 f) (some_below 4 g) s.applies in
    let known = not-false (event_known k m) s.past.1.1.1.1.0 in
    let first = line_first st 0 (slot_for st 0) (slot st 0 s.past.0 h.0) 1 (first_meter k m) (slot-low st 0 s.past.0 h.0) (omega (arith, first-low k m known)) in
    let own = line_first st 0 (slot_for st 0) (slot st 0 s.past.0 h.0) 1 (own_meter k m) (slot-low st 0 s.past.0 h.0) (omega (arith, (own_range k m known).1)) in
    rw (← first, ← own) (two-lowest f g h.1)
