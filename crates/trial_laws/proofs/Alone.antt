-- Worlds between the calls of rounds: nothing is pending, writer 0 is open or not, every other writer is closed, none is prepared and none is wide.
use Prim.Native.Nat.{ℕ, ◌+◌, ◌-◌, ◌%◌, ◌<◌, ◌≤◌}
use mathlib.Core.Bool.{Bool, true, false, not, ◌&&◌, ◌||◌, and-false}
use mathlib.Core.List.{List, [], ◌∷◌, ◌++◌}
use mathlib.Core.Path.{◌≡◌, refl, sym, ap, ◌∙◌}
use native.Mathlib.Nat.{mod-eq_of_lt, add-mod_right}
use native.Mathlib.Omega.{arith}
use lib.Dec.{ltb, leb, eqb}
use lib.ListN.{length}
use borrow.Author.Tests.{ltb-true, ltb-false, leb-true, leb-false, eqb-true, eqb-false, le-ltb, lt-leb}
use Rattle.bounded.specs.Below.{first_below}
use Rattle.bounded.specs.Rows.{Row, refusal}
use Rattle.bounded.proofs.Below.{first-before, none_made}
use Rattle.bounded.proofs.Rows.{row-none, row_at}
use Rattle.bounded.proofs.Tests.{case_on, contradicts}
use Rattle.layout.specs.declared.Sizes.{Sizes}
use Rattle.layout.specs.Layout.{image_length}
use Rattle.masks.specs.Lines.{in_mask}
use Rattle.masks.proofs.Bits.{in-none}
use Rattle.journal.proofs.Ring.{live-none}
use Rattle.state.specs.State.{State}
use Rattle.state.specs.Held.{is_open, no_writer, held_at, others_hold, held_slots}
use Rattle.state.specs.Slots.{free_at, round_slot, free_after}
use Rattle.operations.specs.Operations.{is_idle, live, slot_for, line_taken, none_free, journal_full, write_args_bad, write_rows}
use Rattle.validity.specs.Validity.{state_ok}
use Rattle.refinement.specs.Stores.{World}
use Rattle.refinement.specs.Calls.{quiet_rows, begin_rows, begin_of, abort_rows, abort_of, write_of, commit_call_rows, commit_of, free_call_rows, free_of, checkpoint_call_rows, checkpoint_of}
use Rattle.refinement.specs.Run.{begin, abort, commit, free, checkpoint, write, exec}
use Rattle.refinement.specs.Reference.{Reference}
use Rattle.refinement.proofs.Cases.{standing-of}
use Rattle.refinement.proofs.Lacks.{lacks}
use Rattle.refinement.proofs.Reached.{Reached}
use Rattle.refinement.proofs.Standing.{Standing}
use Rattle.refinement.proofs.StateValid.{valid}
use Rattle.refinement.proofs.Valid.{legal-sizes}
use Rattle.refinement.proofs.Viewed.{viewed-fits}
use Rattle.placing.proofs.Needed.{held-few}

-- of a state, whatever is pending
pub record Only (mine : Bool) (st : State) : Type 0 where
  pub opened : is_open st.writers.opened 0 ≡ mine
  pub others : (w : ℕ) → 0 < w → w < 4 → is_open st.writers.opened w ≡ false
  pub unprepared : st.writers.prepared ≡ no_writer
  pub narrow : st.wide.writer ≡ no_writer

pub record Alone (z : Sizes) (past : List ℕ) (mine : Bool) (v : World) : Type 0 where
  pub machine : Reference
  pub reached : Reached z past v machine
  pub idle : is_idle v.st.pending.op ≡ true
  pub only : Only mine v.st

-- ---- a slot that is free is found

round-to : (t x m : ℕ) → t < m → x < m → (k : ℕ) × (k < m) × ((t + k) % m ≡ x)
round-to t x m p q =
    case_on (ltb x t)
    (λ c.
    let h : x < t = ltb-true x t c in
    let e : t + (x + m - t) ≡ x + m = omega arith in
    (x + m - t, omega arith, rw (e, add-mod_right) (mod-eq_of_lt q)))
    (λ c.
    let h : t ≤ x = ltb-false x t c in
    let e : t + (x - t) ≡ x = omega arith in
    (x - t, omega arith, rw e (mod-eq_of_lt q)))

first_some : (f : ℕ → Bool) (n k : ℕ) → k < n → f k ≡ true → first_below n f < n
first_some f n k l e =
    case_on (ltb (first_below n f) n)
    (λ t. ltb-true (first_below n f) n t)
    (λ t. let h : n ≤ first_below n f = ltb-false (first_below n f) n t in contradicts e (first-before f n k (omega arith)))

pub free-found : (z : Sizes) (page : List ℕ) (next s : ℕ) → next < z.slots → s < z.slots → free_at page s ≡ true → free_after z page next < z.slots
unfolding free_after
free-found z page next s l m e =
    let r = round-to next s z.slots l m in
    first_some (λ k. free_at page (round_slot z next k)) z.slots r.0 r.1 (ap (free_at page) r.2 ∙ e)

-- ---- the rows of the calls

-- with no live record there is room for as many as there are slots
pub has_room : (st : State) (n : ℕ) → state_ok st ≡ true → st.head ≡ st.tail → n ≤ st.sizes.slots → journal_full st n ≡ false
has_room st n ok e h =
    let none : live st ≡ 0 = rw e (live-none st.sizes st.tail) in
    le-ltb st.sizes.places (live st + n) (omega (arith, (legal-sizes st ok).places-low))

module _ {z : Sizes} {past : List ℕ} {mine : Bool} {v : World} (a : Alone z past mine v) where
  abbrev st : State
  st = v.st

  abbrev img : List ℕ
  img = v.image

  standing : Standing past v a.machine
  standing = standing-of v a.machine a.reached.related

  pub ok : state_ok st ≡ true
  ok = standing.valid

  pub long : image_length st.sizes ≤ length img
  long = viewed-fits st img a.machine standing.viewed

  -- 8, 4 and 9
  is-valid : not (state_ok st) ≡ false
  is-valid = ap not ok

  fits : ltb (length img) (image_length st.sizes) ≡ false
  fits = le-ltb (length img) (image_length st.sizes) long

  quiet : not (is_idle st.pending.op) ≡ false
  quiet = ap not a.idle

  unprepared : ltb st.writers.prepared 4 ≡ false
  unprepared = rw a.only.unprepared

  -- 14: a closed writer holds no line
  none-held : (s u : ℕ) → s < st.sizes.slots → u < 4 → not (eqb u 0) && in_mask (held_at st.writers.held u s) 0 ≡ false
  none-held s u l m =
      case_on (eqb u 0)
      (λ t. rw t)
      (λ t.
      let n : u ≡ 0 → ⊥ = eqb-false u 0 t in
      let e : held_at st.writers.held u s ≡ 0 =
      case_on (eqb (held_at st.writers.held u s) 0)
      (λ q. eqb-true (held_at st.writers.held u s) 0 q)
      (λ q. contradicts ((valid st ok).held.opens s u l m (eqb-false (held_at st.writers.held u s) 0 q)) (a.only.others u (omega arith) m)) in
      rw (t, e) (in-none 0))

  line-free : (s : ℕ) → line_taken st.sizes st.writers.held 0 s 0 ≡ false
  unfolding others_hold
  line-free s =
      case_on (ltb s st.sizes.slots)
      (λ t. rw t (none_made (λ u. not (eqb u 0) && in_mask (held_at st.writers.held u s) 0) 4 (λ u l. none-held s u (ltb-true s st.sizes.slots t) l)))
      (λ t. rw t)

  pub checkpoint-taken : (exec checkpoint v).number ≡ 0
  unfolding exec checkpoint_of
  checkpoint-taken = sym (row-none (checkpoint_call_rows st img) (is-valid, (fits, (quiet, tt))))

  -- the freeing of a slot
  pub free-known : let n = (exec free v).number in (not (eqb n 0 || (eqb n 19 || eqb n 22))) ≡ false
  unfolding exec free_of
  free-known =
      lacks (λ n. not (eqb n 0 || (eqb n 19 || eqb n 22))) (free_call_rows st img)
      (is-valid, λ b. (fits, λ c. (quiet, λ d. (unprepared, λ e. (refl, λ f. (refl, λ g. refl))))))

  pub free-room : st.head ≡ st.tail → eqb (exec free v).number 19 ≡ false
  unfolding exec free_of
  free-room e =
      let low = (legal-sizes st ok).slots-low in
      lacks (λ n. eqb n 19) (free_call_rows st img)
      (refl, λ b. (refl, λ c. (refl, λ d. (refl, λ g. (refl, λ f. (has_room st 1 ok e (omega (arith, low)), λ h. refl))))))

-- with writer 0 closed, a begin
pub begin-taken : {z : Sizes} {past : List ℕ} {v : World} → Alone z past false v → (exec (begin 0) v).number ≡ 0
unfolding exec begin_of
begin-taken {v = v} a = sym (row-none (begin_rows v.st 0) (is-valid a, (quiet a, (refl, (rw a.only.narrow, (a.only.opened, tt))))))

-- with writer 0 open, the others
module _ {z : Sizes} {past : List ℕ} {v : World} (a : Alone z past true v) where
  is_open_now : not (is_open v.st.writers.opened 0) ≡ false
  is_open_now = ap not a.only.opened

  pub abort-taken : (exec (abort 0) v).number ≡ 0
  unfolding exec abort_of
  abort-taken = sym (row-none (abort_rows v.st 0) (is-valid a, (quiet a, (refl, (is_open_now, (rw a.only.unprepared, tt))))))

  pub commit-known : let n = (exec (commit 0) v).number in (not (eqb n 0 || eqb n 19)) ≡ false
  unfolding exec commit_of
  commit-known =
      lacks (λ n. not (eqb n 0 || eqb n 19)) (commit_call_rows v.st v.image 0)
      (is-valid a, λ b. (fits a, λ c. (quiet a, λ d. (refl, λ e. (is_open_now, λ f. (unprepared a, λ g. (refl, λ h. refl)))))))

  pub commit-room : v.st.head ≡ v.st.tail → (exec (commit 0) v).number ≡ 0
  unfolding exec commit_of
  commit-room e =
      let room = has_room v.st (length (held_slots v.st.sizes v.st.writers.held 0)) (ok a) e (held-few v.st.sizes v.st.writers.held 0) in
      sym (row-none (commit_call_rows v.st v.image 0) (is-valid a, (fits a, (quiet a, (refl, (is_open_now, (unprepared a, (room, tt))))))))

  -- a write of one byte to the start of page p
  module _ (p x : ℕ) where
    abbrev rows : List Row
    rows = quiet_rows v.st (length v.image) ++ ((ltb 1 1, 11) ∷ write_rows v.st 0 p 0 0 1)

    number_is : (exec (write 0 p 0 0 1 (x ∷ [])) v).number ≡ refusal rows
    unfolding exec write_of
    number_is = rw a.only.narrow

    pub write_known : let n = (exec (write 0 p 0 0 1 (x ∷ [])) v).number in (not (eqb n 0 || (eqb n 15 || eqb n 11))) ≡ false
    write_known =
        rw number_is
        (lacks (λ n. not (eqb n 0 || (eqb n 15 || eqb n 11))) rows (
          is-valid a,
          λ b. (
            fits a,
            λ c. (
              quiet a,
              λ d. (
                refl,
                λ e. (
                  refl,
                  λ f. (
                    is_open_now,
                    λ g. (
                      rw a.only.unprepared,
                      λ h. (
                        line-free a (slot_for v.st p),
                        λ i. (refl, λ j. refl),
                      ),
                    ),
                  ),
                ),
              ),
            ),
          ),
        ))

    -- 11: the page is none of the store's
    pub write-outside : (exec (write 0 p 0 0 1 (x ∷ [])) v).number ≡ 11 → v.st.sizes.pages ≤ p
    write-outside n =
        case_on (leb v.st.sizes.pages p)
        (λ t. leb-true v.st.sizes.pages p t)
        (λ t.
        let args : write_args_bad v.st.sizes 0 p 0 0 1 ≡ false = rw t in
        contradicts (ap (λ (k : ℕ). eqb k 11) (sym number_is ∙ n))
        (lacks (λ k. eqb k 11) rows
        (refl, λ b. (refl, λ c. (refl, λ d. (refl, λ e. (args, λ f. (refl, λ g. (refl, λ h. (refl, λ i. (refl, λ j. refl)))))))))))

    pub write-inside : (exec (write 0 p 0 0 1 (x ∷ [])) v).number ≡ 15 → p < v.st.sizes.pages
    write-inside n =
        case_on (leb v.st.sizes.pages p)
        (λ t.
        let args : write_args_bad v.st.sizes 0 p 0 0 1 ≡ true = rw t in
        let e : 11 ≡ refusal rows = row_at rows 4 (omega arith) (is-valid a, (fits a, (quiet a, (refl, tt)))) args in
        let q : ◌≡◌ {A = ℕ} 11 15 = e ∙ sym number_is ∙ n in
        absurd (omega arith))
        (λ t. leb-false v.st.sizes.pages p t)

    -- with a slot free it is taken
    pub write-taken : p < v.st.sizes.pages → free_after v.st.sizes v.st.table.page v.st.next < v.st.sizes.slots
        → (exec (write 0 p 0 0 1 (x ∷ [])) v).number ≡ 0
    write-taken l some =
        let z = v.st.sizes in
        let args : write_args_bad z 0 p 0 0 1 ≡ false = rw (lt-leb z.pages p l) in
        let free : none_free z v.st.table.page v.st.next (slot_for v.st p) ≡ false =
        rw (lt-leb z.slots (free_after z v.st.table.page v.st.next) some) (and-false (leb z.slots (slot_for v.st p))) in
        number_is
        ∙ sym (row-none rows
        (is-valid a, (fits a, (quiet a, (refl, (args, (is_open_now, (rw a.only.unprepared, (line-free a (slot_for v.st p), (free, tt))))))))))
