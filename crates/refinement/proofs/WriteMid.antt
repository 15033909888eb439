-- A store of a pending write: it goes to the frame that is not the committed one, which no committed line and no other writer's copy
-- has; so every store but the eighth leaves all as it was.
use Prim.Native.Nat.{ℕ, ◌+◌, ◌-◌, ◌*◌, ◌^◌, ◌<◌, ◌≤◌}
use mathlib.Core.Bool.{Bool, true, false, not, ◌&&◌, cond}
use mathlib.Core.List.{List}
use mathlib.Core.Logic.{◌⊎◌, inr, ⊎_elim}
use mathlib.Core.Path.{◌≡◌, refl, sym, ap, ◌∙◌, subst}
use native.Mathlib.Omega.{arith}
use lib.Dec.{ltb, leb, eqb}
use lib.ListN.{length, get_or, get_or-eq_default}
use borrow.Author.Tests.{ltb-true, ltb-false, lt-ltb, eqb-true, eqb-false, ne_eqb}
use Rattle.bounded.proofs.Below.{none-at}
use Rattle.bounded.proofs.Tab.{length-tab, get_or-tab}
use Rattle.bounded.proofs.Tests.{case_on, contradicts, and_left, and_right}
use Rattle.layout.specs.declared.Sizes.{Sizes}
use Rattle.layout.specs.Layout.{frames, line_word, image_length}
use Rattle.image.specs.Lines.{line_words}
use Rattle.words.specs.Words.{Bytes, word, word_at}
use Rattle.layout.proofs.LayoutLaws.{line-apart}
use Rattle.words.proofs.Runs.{words-tab}
use Rattle.words.proofs.WordLaws.{word_lt}
use Rattle.journal.specs.declared.Slot.{Slot}
use Rattle.replay.specs.Table.{slot_in}
use Rattle.replay.specs.Map.{page_frames}
use Rattle.mount.proofs.Dead.{Dead, dead-line}
use Rattle.masks.specs.Lines.{in_mask}
use Rattle.state.specs.State.{State}
use Rattle.state.specs.declared.Op.TheVariants.{Write}
use Rattle.state.specs.Held.{held_at, others_hold}
use Rattle.operations.specs.Operations.{slot_for, slotted, needs}
use Rattle.validity.specs.Validity.{state_ok}
use Rattle.operations.proofs.Taken.{WriteTaken, write-taken}
use Rattle.refinement.specs.Frames.{other_frame}
use Rattle.refinement.specs.Write.{write_slot}
use Rattle.refinement.specs.Stores.{stepped}
use Rattle.refinement.proofs.Pending.{pends}
use Rattle.refinement.specs.Recall.{frame_of}
use Rattle.refinement.specs.Reference.{Reference, Cell, byte, laid_over, writing, under, advances, written, read_line}
use Rattle.refinement.proofs.Invariant.{Durable, holds, Doing, Busy, Related}
use Rattle.refinement.proofs.Copies.{other-low, slot-spare-low, copy_apart, others_apart, free-apart, free-other-apart}
use Rattle.refinement.proofs.Stepping.{Aside, Mid, step-mid}
use Rattle.refinement.proofs.WriteTable.{Own, Takes, own-or-takes, other_none}

-- no row turns back a write that is pending
pub write-pending : (st : State) (w p l o n : ℕ) → state_ok st ≡ true → st.pending.op ≡ Write w p l o n → WriteTaken st w p l o n
write-pending st w p l o n valid e = write-taken st w p l o n (pends st (Write w p l o n) valid e refl).taken

-- ---- the frame that is written

module _ (past : List ℕ) (st : State) (img : List ℕ) (b : Reference) (valid : state_ok st ≡ true) (D : Durable past st img b) (w p l o n : ℕ)
    (T : WriteTaken st w p l o n) where
  abbrev pub target : ℕ
  target = other_frame (slot_in st.table (write_slot st p)) l

  cases : Own st p ⊎ Takes st p
  cases = own-or-takes st p valid T.some-free

  own-target : Own st p → target ≡ other_frame (slot_in st.table (slot_for st p)) l
  own-target h = ap (λ (s : ℕ). other_frame (slot_in st.table s) l) h.slot

  free-target : Takes st p → target ≡ (slot_in st.table (write_slot st p)).spare
  free-target h = other_none (slot_in st.table (write_slot st p)) l (ap (λ (v : Slot). v.bitmap) h.free)

  pub target-low : target < frames st.sizes
  target-low =
      ⊎_elim
      (λ (h : Own st p). subst (λ (f : ℕ). f < frames st.sizes) (sym (own-target h)) (other-low st img valid D p l T.args.page-low h.has))
      (λ (h : Takes st p). subst (λ (f : ℕ). f < frames st.sizes) (sym (free-target h)) (slot-spare-low st img valid D (write_slot st p) h.slot-low))
      cases

  target-committed : (q : ℕ) → q < st.sizes.pages → target ≡ frame_of (page_frames (word img)) st.sizes st.table q l → ⊥
  target-committed q lq e =
      ⊎_elim
      (λ (h : Own st p). copy_apart st img valid D p l q T.args.page-low lq h.has (sym (own-target h) ∙ e))
      (λ (h : Takes st p). free-apart st img valid D (write_slot st p) q l h.slot-low (ap (λ (v : Slot). v.page) h.free) lq (sym (free-target h) ∙ e))
      cases

  -- no other writer holds the line
  others-not : slot_for st p < st.sizes.slots → (v : ℕ) → v < 4 → (v ≡ w → ⊥) → in_mask (held_at st.writers.held v (slot_for st p)) l ≡ true → ⊥
  unfolding others_hold
  others-not m v lv ne h =
      let none : others_hold st.writers.held w (slot_for st p) l ≡ false = rw (lt-ltb (slot_for st p) st.sizes.slots m) at T.line-free in
      let at-v = none-at (λ i. not (eqb i w) && in_mask (held_at st.writers.held i (slot_for st p)) l) 4 v lv none in
      contradicts refl (rw (ne_eqb v w ne, h) at at-v)

  target-owned : (v q : ℕ) → v < 4 → q < st.sizes.pages → holds st v q l ≡ true → ((v ≡ w) × (q ≡ p) → ⊥) → target ≡ other_frame (slot_in st.table (slot_for st q)) l → ⊥
  target-owned v q lv lq h out e =
      let m : slot_for st q < st.sizes.slots = ltb-true (slot_for st q) st.sizes.slots (and_left (slotted st q) (in_mask (held_at st.writers.held v (slot_for st q)) l) h) in
      let k : in_mask (held_at st.writers.held v (slot_for st q)) l ≡ true = and_right (slotted st q) (in_mask (held_at st.writers.held v (slot_for st q)) l) h in
      ⊎_elim
      (λ (c : Own st p).
      case_on (eqb q p)
      (λ t.
      let x : q ≡ p = eqb-true q p t in
      others-not c.has v lv (λ y. out (y, x)) (subst (λ (i : ℕ). in_mask (held_at st.writers.held v (slot_for st i)) l ≡ true) x k))
      (λ t. others_apart st img valid D p l q l T.args.page-low lq c.has m (λ x. eqb-false q p t (sym x)) (sym (own-target c) ∙ e)))
      (λ (c : Takes st p). free-other-apart st img valid D (write_slot st p) q l c.slot-low (ap (λ (v : Slot). v.page) c.free) lq m (sym (free-target c) ∙ e))
      cases

  -- ---- store k

  abbrev pub word_of : ℕ → ℕ
  word_of k = line_word st.sizes target l + k

  pub target-inside : (k : ℕ) → k < 8 → 8 * word_of k + 8 ≤ image_length st.sizes
  target-inside k m = omega (arith, target-low, T.args.line_low)

  pub target-aside : (k : ℕ) → k < 8 → Aside past st img b D (Write w p l o n) (word_of k)
  target-aside k m =
      record {
        dead = subst (λ (z : Sizes). Dead D.view (line_word z target l + k)) D.sizes-same (dead-line D.view D.mounts.legal target l k (rw D.sizes-same target-low) T.args.line_low m);
        uncommitted =
            λ q i j lq li lj e.
            let a = line-apart st.sizes (frame_of (page_frames (word img)) st.sizes st.table q i) i j target l k li T.args.line_low lj m e in
            target-committed q lq (sym a.0 ∙ ap (frame_of (page_frames (word img)) st.sizes st.table q) a.1);
        unowned =
            λ v q i j lv lq li lj out h e.
            let a = line-apart st.sizes (other_frame (slot_in st.table (slot_for st q)) i) i j target l k li T.args.line_low lj m e in
            let x : i ≡ l = a.1 in
            target-owned v q lv lq (subst (λ (y : ℕ). holds st v q y ≡ true) x h) (λ c. out (c.0, c.1, x))
            (sym a.0 ∙ ap (other_frame (slot_in st.table (slot_for st q))) x);
        off = λ p. inr (omega arith);
      }

-- ---- the finished line

pub line_word_is : (line : List ℕ) (k : ℕ) → k < 8 → get_or (line_words line) k 0 ≡ word line k
line_word_is line k m =
    ap (λ (ws : List ℕ). get_or ws k 0) (words-tab line 0 8)
    ∙ get_or-tab 8 (λ i. word_at line (0 + 8 * i)) k 0 m
    ∙ (let e : 0 + 8 * k ≡ 8 * k = omega arith in ap (word_at line) e)

-- what the reference machine reads once the write is done
module _ (st : State) (img : List ℕ) (b : Reference) (w p l o n : ℕ) (doing : Doing st img b (Write w p l o n)) where
  abbrev pub given : List ℕ
  given = doing.0

  abbrev pub new_line : List ℕ
  new_line = read_line (written w p l o n given b) w p l

  pub at-work : b.work ≡ under (writing w p l o n given) (needs st (Write w p l o n) - st.pending.made)
  at-work = doing.3

  pub finished : st.pending.line ≡ line_words new_line
  finished = doing.4

  pub new-length : length new_line ≡ 64
  new-length = length-tab 64 _

  over-byte : (c : Bool) (y x : ℕ) (old : Cell) → y < 256 → laid_over old x < 256 → laid_over (cond c (byte y) old) x < 256
  over-byte true y x old h k = h
  over-byte false y x old h k = k

  pub new-bytes : Bytes new_line
  new-bytes i =
      case_on (ltb i 64)
      (λ t.
      let m : i < 64 = ltb-true i 64 t in
      let old : laid_over (b.writes w p l i) (b.pages p l i) < 256 = subst (λ (x : ℕ). x < 256) (get_or-tab 64 (λ j. laid_over (b.writes w p l j) (b.pages p l j)) i 0 m) (doing.5 i) in
      subst (λ (x : ℕ). x < 256) (sym (get_or-tab 64 (λ j. laid_over ((written w p l o n given b).writes w p l j) (b.pages p l j)) i 0 m))
      (over-byte (eqb w w && eqb p p && eqb l l && leb o i && ltb i (o + n)) (get_or given (i - o) 0) (b.pages p l i) (b.writes w p l i) (doing.1 (i - o)) old))
      (λ t. subst (λ (x : ℕ). x < 256) (sym (get_or-eq_default new_line 0 (omega (arith, ltb-false i 64 t, new-length)))) (omega arith))

  -- the k-th word that is stored
  pub value-is : (k : ℕ) → k < 8 → get_or st.pending.line k 0 ≡ word new_line k
  value-is k m = ap (λ (ws : List ℕ). get_or ws k 0) finished ∙ line_word_is new_line k m

  pub value_low : (k : ℕ) → k < 8 → get_or st.pending.line k 0 < 2 ^ 64
  value_low k m = subst (λ (x : ℕ). x < 2 ^ 64) (sym (value-is k m)) (word_lt new_line k new-bytes)

-- ---- store m

module _ (past : List ℕ) (st : State) (img : List ℕ) (b : Reference) (B : Busy past st img b) (w p l o n : ℕ) (e : st.pending.op ≡ Write w p l o n) where
  pub write-doing : Doing st img b (Write w p l o n)
  write-doing = subst (Doing st img b) e B.doing

  pub write_mid : (m : ℕ) → m < 8 → Mid past st img b B.durable (Write w p l o n) m
  write_mid m k =
      let T = write-pending st w p l o n B.valid e in
      record {
        is_in_place = refl;
        inside = target-inside past st img b B.valid B.durable w p l o n T m k;
        low = value_low st img b w p l o n write-doing m k;
        apart = λ j h q. omega arith;
        stable = λ j h. refl;
        harmless = inr (target-aside past st img b B.valid B.durable w p l o n T m k);
      }

  pub write-on : st.pending.made + 1 < 8 → Related past (stepped (record { st = st; image = img })) (advances 1 b.work b)
  unfolding needs
  write-on h =
      let d = write-doing in
      let m : ℕ = st.pending.made in
      step-mid past st img b B (writing w p l o n d.0) (Write w p l o n) e refl d.3 h (write_mid m (omega arith))
      (d.0, d.1, d.2, refl, d.4, d.5)
