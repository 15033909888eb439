-- Who holds which line after a write, and what the reference machine has: all but the written line is as it was.
use Prim.Native.Nat.{ℕ, ◌^◌, ◌<◌}
use mathlib.Core.Bool.{Bool, true, false, ◌&&◌}
use mathlib.Core.List.{List}
use mathlib.Core.Logic.{◌⊎◌, inl, inr, ⊎_elim}
use mathlib.Core.Path.{◌≡◌, refl, sym, ap, ◌∙◌, subst}
use native.Mathlib.Omega.{arith}
use lib.Dec.{ltb, eqb}
use lib.ListN.{length}
use borrow.Author.Tests.{ltb-true, lt-ltb, le-ltb, eqb-true, eqb-false}
use Rattle.bounded.proofs.Tab.{tab-ext}
use Rattle.bounded.proofs.Tests.{case_on}
use Rattle.layout.specs.declared.Sizes.{Sizes}
use Rattle.layout.specs.Layout.{Legal}
use Rattle.journal.specs.declared.Slot.{Slot}
use Rattle.replay.specs.declared.Table.{Table}
use Rattle.replay.specs.Table.{pages_apart, slot_in}
use Rattle.replay.proofs.Tables.{Sixteen, slot-other}
use Rattle.masks.specs.Lines.{in_mask, with_line}
use Rattle.masks.proofs.Members.{in-none, in-with-same, in-with-other, with-lt}
use Rattle.state.specs.State.{State}
use Rattle.state.specs.declared.Op.TheVariants.{Write}
use Rattle.state.specs.Held.{held_at}
use Rattle.operations.specs.Operations.{slot_for}
use Rattle.validity.specs.Validity.{state_ok}
use Rattle.operations.proofs.Taken.{WriteTaken}
use Rattle.refinement.specs.Write.{write_slot, write_table}
use Rattle.refinement.specs.Stores.{completed}
use Rattle.refinement.proofs.LinePut.{held_same, held-slot, held-writer}
use Rattle.refinement.proofs.StateValid.{valid}
use Rattle.refinement.specs.Reference.{Reference, Cell, laid_over, none, written, read_line}
use Rattle.refinement.proofs.Invariant.{holds}
use Rattle.refinement.proofs.WriteTable.{Own, Takes, own-or-takes, write-slot-low, page-slot, slot_kept, slot-differs}

-- ---- who holds which line afterwards

module _ (st : State) (w p l o n : ℕ) (ok : state_ok st ≡ true) (T : WriteTaken st w p l o n) (full : Sixteen st.table)
    (lines : length st.writers.held ≡ 64) (apart : pages_apart st.sizes (write_table st p).page ≡ true) where
  abbrev z : Sizes
  z = st.sizes

  abbrev after : State
  after = completed st (Write w p l o n)

  abbrev held : List ℕ
  held = st.writers.held

  abbrev s : ℕ
  s = write_slot st p

  cases : Own st p ⊎ Takes st p
  cases = own-or-takes st p ok T.some-free

  g : Legal z
  g = (valid st ok).legal

  slot-low : s < z.slots
  slot-low = write-slot-low st p ok T.some-free

  -- the written line of the written page, or another
  abbrev pub Same : ℕ → ℕ → ℕ → Type 0
  Same v q i = (v ≡ w) × (q ≡ p) × (i ≡ l)

  pub same_or_not : (v q i : ℕ) → Same v q i ⊎ (Same v q i → ⊥)
  same_or_not v q i =
      case_on (eqb v w)
      (λ a.
      case_on (eqb q p)
      (λ c.
      case_on (eqb i l)
      (λ d. inl (eqb-true v w a, eqb-true q p c, eqb-true i l d))
      (λ d. inr (λ h. eqb-false i l d h.2)))
      (λ c. inr (λ h. eqb-false q p c h.1)))
      (λ a. inr (λ h. eqb-false v w a h.0))

  slot-now : slot_for after p ≡ s
  slot-now = page-slot st p g full T.args.page-low apart cases

  -- the mask of the slot written to has one line more
  mask-same : in_mask (held_at after.writers.held w s) l ≡ true
  mask-same =
      ap (λ (m : ℕ). in_mask m l) (held_same held w s (with_line (held_at held w s) l) lines T.args.writer-low (omega (arith, slot-low, g.slots-high)))
      ∙ in-with-same (held_at held w s) l

  pub holds-new : holds after w p l ≡ true
  holds-new = subst (λ (k : ℕ). ltb k z.slots && in_mask (held_at after.writers.held w k) l ≡ true) (sym slot-now) (rw (lt-ltb s z.slots slot-low) mask-same)

  -- of other lines and other writers it has the same
  mask-kept : (v i : ℕ) → (Same v p i → ⊥) → in_mask (held_at after.writers.held v s) i ≡ in_mask (held_at held v s) i
  mask-kept v i out =
      let low : s < 16 = omega (arith, slot-low, g.slots-high) in
      let m : ℕ = with_line (held_at held w s) l in
      case_on (eqb v w)
      (λ a.
      let e : v ≡ w = eqb-true v w a in
      subst (λ (x : ℕ). in_mask (held_at after.writers.held x s) i ≡ in_mask (held_at held x s) i) (sym e)
      (ap (λ (x : ℕ). in_mask x i) (held_same held w s m lines T.args.writer-low low) ∙ in-with-other (held_at held w s) l i (λ c. out (e, refl, sym c))))
      (λ a. ap (λ (x : ℕ). in_mask x i) (held-writer held w s m lines T.args.writer-low low v s low (eqb-false v w a)))

  -- nobody holds a line of a free slot
  free-none : Takes st p → (v i : ℕ) → v < 4 → in_mask (held_at held v s) i ≡ false
  free-none h v i lv =
      case_on (eqb (held_at held v s) 0)
      (λ e. ap (λ (m : ℕ). in_mask m i) (eqb-true (held_at held v s) 0 e) ∙ in-none i)
      (λ e. absurd ((valid st ok).held.owned s v slot-low lv (eqb-false (held_at held v s) 0 e) (ap (λ (t : Slot). t.page) h.free)))

  pub holds_kept : (v q i : ℕ) → v < 4 → q < z.pages → (Same v q i → ⊥) → holds after v q i ≡ holds st v q i
  holds_kept v q i lv lq out =
      let t : Table = st.table in
      let now : ℕ → ℕ = held_at after.writers.held v in
      case_on (eqb q p)
      (λ c.
      let x : q ≡ p = eqb-true q p c in
      let mask = mask-kept v i (λ h. out (h.0, x, h.2)) in
      let here : holds after v p i ≡ in_mask (now s) i =
      subst (λ (k : ℕ). ltb k z.slots && in_mask (now k) i ≡ in_mask (now s) i) (sym slot-now) (rw (lt-ltb s z.slots slot-low)) in
      let before : in_mask (held_at held v s) i ≡ holds st v p i =
      ⊎_elim
      (λ (h : Own st p). subst (λ (k : ℕ). in_mask (held_at held v k) i ≡ holds st v p i) (sym h.slot) (rw (lt-ltb (slot_for st p) z.slots h.has)))
      (λ (h : Takes st p). free-none h v i lv ∙ sym (ap (λ (d : Bool). d && in_mask (held_at held v (slot_for st p)) i) (le-ltb (slot_for st p) z.slots (omega (arith, h.none)))))
      cases in
      subst (λ (y : ℕ). holds after v y i ≡ holds st v y i) (sym x) (here ∙ mask ∙ before))
      (λ c.
      let ne : q ≡ p → ⊥ = eqb-false q p c in
      let k : slot_for after q ≡ slot_for st q = slot_kept st p g full T.args.page-low apart cases q lq ne in
      ap (λ (j : ℕ). ltb j z.slots && in_mask (now j) i) k
      ∙ case_on (ltb (slot_for st q) z.slots)
      (λ e.
      let m : slot_for st q < z.slots = ltb-true (slot_for st q) z.slots e in
      ap (λ (x : ℕ). ltb (slot_for st q) z.slots && in_mask x i)
      (held-slot held w s (with_line (held_at held w s) l) lines T.args.writer-low (omega (arith, slot-low, g.slots-high)) v (slot_for st q) (omega (arith, m, g.slots-high))
      (slot-differs st p g full T.args.page-low apart cases slot-low q lq ne m)))
      (λ e. ap (λ (d : Bool). d && in_mask (now (slot_for st q)) i) e ∙ sym (ap (λ (d : Bool). d && in_mask (held_at held v (slot_for st q)) i) e)))

  -- another writer's masks stay, and so do the slots of which it holds lines
  pub mask-other : (v k : ℕ) → (v ≡ w → ⊥) → k < z.slots → held_at after.writers.held v k ≡ held_at held v k
  mask-other v k ne lk =
      held-writer held w s (with_line (held_at held w s) l) lines T.args.writer-low (omega (arith, slot-low, g.slots-high)) v k (omega (arith, lk, g.slots-high)) ne

  pub held-slot-kept : (v k : ℕ) → v < 4 → k < z.slots → (held_at held v k ≡ 0 → ⊥) → slot_in after.table k ≡ slot_in st.table k
  held-slot-kept v k lv lk some =
      ⊎_elim
      (λ (h : Own st p). ap (λ (t : Table). slot_in t k) h.table)
      (λ (h : Takes st p).
      ap (λ (t : Table). slot_in t k) h.table
      ∙ slot-other st.table s _ k (λ q. (valid st ok).held.owned k v lk lv some (ap (λ (x : ℕ). (slot_in st.table x).page) q ∙ ap (λ (t : Slot). t.page) h.free)))
      cases

  -- masks stay below 2 ^ 64
  pub held-low-kept : ((v k : ℕ) → v < 4 → k < z.slots → held_at held v k < 2 ^ 64) → (v k : ℕ) → v < 4 → k < z.slots → held_at after.writers.held v k < 2 ^ 64
  held-low-kept h v k lv lk =
      let low : s < 16 = omega (arith, slot-low, g.slots-high) in
      let m : ℕ = with_line (held_at held w s) l in
      let d : m < 2 ^ 64 = with-lt (held_at held w s) l (h w s T.args.writer-low slot-low) T.args.line_low in
      case_on (eqb v w)
      (λ a.
      case_on (eqb k s)
      (λ c.
      subst (λ (x : ℕ). held_at after.writers.held x k < 2 ^ 64) (sym (eqb-true v w a))
      (subst (λ (x : ℕ). held_at after.writers.held w x < 2 ^ 64) (sym (eqb-true k s c))
      (subst (λ (x : ℕ). x < 2 ^ 64) (sym (held_same held w s m lines T.args.writer-low low)) d)))
      (λ c. subst (λ (x : ℕ). x < 2 ^ 64) (sym (held-slot held w s m lines T.args.writer-low low v k (omega (arith, lk, g.slots-high)) (eqb-false k s c))) (h v k lv lk)))
      (λ a. subst (λ (x : ℕ). x < 2 ^ 64) (sym (held-writer held w s m lines T.args.writer-low low v k (omega (arith, lk, g.slots-high)) (eqb-false v w a))) (h v k lv lk))

-- ---- what the reference machine has afterwards

module _ (b : Reference) (w p l o n : ℕ) (bytes : List ℕ) where
  -- off the line written
  pub writes_kept : (v q i j : ℕ) → ((v ≡ w) × (q ≡ p) × (i ≡ l) → ⊥) → (written w p l o n bytes b).writes v q i j ≡ b.writes v q i j
  writes_kept v q i j out =
      case_on (eqb v w)
      (λ a.
      case_on (eqb q p)
      (λ c.
      case_on (eqb i l)
      (λ d. absurd (out (eqb-true v w a, eqb-true q p c, eqb-true i l d)))
      (λ d. rw (a, c, d)))
      (λ c. rw (a, c)))
      (λ a. rw a)

  pub line_same : (v q i : ℕ) → ((v ≡ w) × (q ≡ p) × (i ≡ l) → ⊥) → read_line b v q i ≡ read_line (written w p l o n bytes b) v q i
  line_same v q i out =
      tab-ext 64 (λ j. laid_over (b.writes v q i j) (b.pages q i j)) (λ j. laid_over ((written w p l o n bytes b).writes v q i j) (b.pages q i j))
      (λ j _. ap (λ (c : Cell). laid_over c (b.pages q i j)) (sym (writes_kept v q i j out)))
