-- Row 8 of the writers, as facts: who holds lines, who is prepared, who is wide; from the test and back.
use Prim.Native.Nat.{ℕ, ◌+◌, ◌<◌, ◌≤◌}
use mathlib.Core.Bool.{Bool, true, false, ◌&&◌, ◌||◌, not}
use mathlib.Core.List.{List}
use mathlib.Core.Logic.{⊎_elim}
use mathlib.Core.Path.{◌≡◌, refl, ap, ◌∙◌}
use native.Mathlib.Omega.{arith}
use lib.Dec.{ltb, eqb}
use lib.ListN.{length}
use borrow.Author.Tests.{eqb-true, eqb-false, eq-eqb, ne_eqb, ltb-true, ltb-false, lt-ltb, le-ltb, not-true}
use Rattle.bounded.specs.Below.{all_below}
use Rattle.bounded.proofs.Below.{all-at, all_made}
use Rattle.bounded.proofs.Tests.{case_on, contradicts, and_left, and_right}
use Rattle.layout.specs.declared.Sizes.{Sizes}
use Rattle.journal.specs.declared.Slot.{Slot}
use Rattle.replay.specs.declared.Table.{Table}
use Rattle.journal.specs.Slots.{no_page}
use Rattle.journal.specs.Records.{live_count}
use Rattle.replay.specs.Table.{slot_in}
use Rattle.journal.proofs.SlotWords.{or_cases}
use Rattle.masks.specs.Lines.{disjoint}
use Rattle.masks.proofs.Disjoint.{disjoint-sym, none-disjoint}
use Rattle.state.specs.State.{Wide}
use Rattle.state.specs.Slots.{free_at}
use Rattle.state.specs.Held.{is_open, held_at, held_slots, some_hold, holder_ok, held_ok}
use Rattle.state.specs.Wide.{some_wide, alone_open, none_held, wide_ok}
use Rattle.entries.specs.Entries.{entries_ok}
use Rattle.entries.proofs.EntryLaws.{Right, entries-right, right-entries}
use Rattle.operations.specs.Operations.{journal_full_of}
use Rattle.validity.specs.Validity.{prepared_ok}

-- what holds of each two of which the second is lower, and goes both ways, holds of each two
pub either_way : (P : ℕ → ℕ → Type 0) (n : ℕ) → ((s k : ℕ) → P s k → P k s) → ((s k : ℕ) → s < n → k < s → P s k) → (s k : ℕ) → s < n → k < n → (s ≡ k → ⊥) → P s k
either_way P n swap low s k l m d =
    case_on (ltb k s)
    (λ t. low s k l (ltb-true k s t))
    (λ t. swap k s (low k s m (omega (arith, d, ltb-false k s t))))

pub differ : (a b : ℕ) → not (eqb a b) ≡ true → a ≡ b → ⊥
differ a b e = eqb-false a b (not-true (eqb a b) e)

-- ---- held lines

-- who holds lines is open, and holds them of slots with pages; no line is held by two
pub record HeldFine (z : Sizes) (f : ℕ → Slot) (opened : List Bool) (held : List ℕ) : Type 0 where
  pub opens : (s w : ℕ) → s < z.slots → w < 4 → (held_at held w s ≡ 0 → ⊥) → is_open opened w ≡ true
  pub owned : (s w : ℕ) → s < z.slots → w < 4 → (held_at held w s ≡ 0 → ⊥) → (f s).page ≡ no_page → ⊥
  pub apart : (s w v : ℕ) → s < z.slots → w < 4 → v < 4 → (w ≡ v → ⊥) → disjoint (held_at held w s) (held_at held v s) ≡ true

module _ (z : Sizes) (t : Table) (opened : List Bool) (held : List ℕ) where
  -- what a holder's test says where it holds a line
  holder : held_ok z t.page opened held ≡ true → (s w : ℕ) → s < z.slots → w < 4 → (held_at held w s ≡ 0 → ⊥)
      → all_below w (λ v. disjoint (held_at held w s) (held_at held v s)) && (is_open opened w && not (free_at t.page s)) ≡ true
  unfolding held_ok
  holder e s w l m n =
      ⊎_elim
      (λ q. absurd (n (eqb-true (held_at held w s) 0 q)))
      (λ q. q)
      (or_cases (eqb (held_at held w s) 0) (all_below w (λ v. disjoint (held_at held w s) (held_at held v s)) && (is_open opened w && not (free_at t.page s)))
      (all-at (holder_ok opened held (free_at t.page s) s) 4 w m (all-at (λ s. all_below 4 (holder_ok opened held (free_at t.page s) s)) z.slots s l e)))

  rest : held_ok z t.page opened held ≡ true → (s w : ℕ) → s < z.slots → w < 4 → (held_at held w s ≡ 0 → ⊥) → is_open opened w && not (free_at t.page s) ≡ true
  rest e s w l m n =
      and_right (all_below w (λ v. disjoint (held_at held w s) (held_at held v s))) (is_open opened w && not (free_at t.page s)) (holder e s w l m n)

  disjoint-below : held_ok z t.page opened held ≡ true → (s : ℕ) → s < z.slots → (w v : ℕ) → w < 4 → v < w → disjoint (held_at held w s) (held_at held v s) ≡ true
  disjoint-below e s l w v m k =
      case_on (eqb (held_at held w s) 0)
      (λ q. ap (λ (x : ℕ). disjoint x (held_at held v s)) (eqb-true (held_at held w s) 0 q) ∙ none-disjoint (held_at held v s))
      (λ q.
      all-at (λ v. disjoint (held_at held w s) (held_at held v s)) w v k
      (and_left (all_below w (λ v. disjoint (held_at held w s) (held_at held v s))) (is_open opened w && not (free_at t.page s)) (holder e s w l m (eqb-false (held_at held w s) 0 q))))

  pub held-fine : held_ok z t.page opened held ≡ true → HeldFine z (slot_in t) opened held
  held-fine e =
      record {
        opens = λ s w l m n. and_left (is_open opened w) (not (free_at t.page s)) (rest e s w l m n);
        owned = λ s w l m n. eqb-false (slot_in t s).page no_page (not-true (free_at t.page s) (and_right (is_open opened w) (not (free_at t.page s)) (rest e s w l m n)));
        apart =
            λ s w v l.
            either_way (λ w v. disjoint (held_at held w s) (held_at held v s) ≡ true) 4
            (λ w v q. disjoint-sym (held_at held v s) (held_at held w s) ∙ q) (disjoint-below e s l) w v;
      }

  pub held-ok : HeldFine z (slot_in t) opened held → held_ok z t.page opened held ≡ true
  unfolding held_ok
  held-ok h =
      all_made (λ s. all_below 4 (holder_ok opened held (free_at t.page s) s)) z.slots
      (λ s l.
      all_made (holder_ok opened held (free_at t.page s) s) 4
      (λ w m.
      case_on (eqb (held_at held w s) 0)
      (λ q. rw q)
      (λ q.
      let n = eqb-false (held_at held w s) 0 q in
      rw (
        q,
        all_made (λ v. disjoint (held_at held w s) (held_at held v s)) w (λ v k. h.apart s w v l m (omega arith) (λ e. omega arith)),
        h.opens s w l m n,
        ne_eqb (slot_in t s).page no_page (h.owned s w l m n),
      ))))

-- ---- the prepared writer

-- writer w is open, and its records fit
pub record PreparedFine (z : Sizes) (head tail : ℕ) (opened : List Bool) (held : List ℕ) (w : ℕ) : Type 0 where
  pub opens : is_open opened w ≡ true
  pub fits : live_count z head tail + length (held_slots z held w) ≤ z.places

module _ (z : Sizes) (head tail : ℕ) (opened : List Bool) (held : List ℕ) (w : ℕ) where
  abbrev fills : Bool
  fills = journal_full_of z head tail (length (held_slots z held w))

  pub prepared-fine : prepared_ok z head tail opened held w ≡ true → w < 4 → PreparedFine z head tail opened held w
  unfolding prepared_ok
  prepared-fine e l =
      let h : is_open opened w && not fills ≡ true = rw (lt-ltb w 4 l) at e in
      record {
        opens = and_left (is_open opened w) (not fills) h;
        fits = ltb-false z.places (live_count z head tail + length (held_slots z held w)) (not-true fills (and_right (is_open opened w) (not fills) h));
      }

  pub prepared-ok : (w < 4 → PreparedFine z head tail opened held w) → prepared_ok z head tail opened held w ≡ true
  unfolding prepared_ok
  prepared-ok h =
      case_on (ltb w 4)
      (λ t.
      let p = h (ltb-true w 4 t) in
      rw (t, p.opens, le-ltb z.places (live_count z head tail + length (held_slots z held w)) p.fits))
      (λ t. rw t)

-- ---- a wide transaction

-- writer w is open, alone, not prepared, and no line is held
pub record WideFine (z : Sizes) (opened : List Bool) (held : List ℕ) (prepared w : ℕ) : Type 0 where
  pub opens : is_open opened w ≡ true
  pub closed : (v : ℕ) → v < 4 → (v ≡ w → ⊥) → is_open opened v ≡ false
  pub unprepared : prepared ≡ w → ⊥
  pub unheld : (s : ℕ) → s < z.slots → some_hold held s ≡ false

module _ (z : Sizes) (opened : List Bool) (held : List ℕ) (prepared : ℕ) (d : Wide) where
  -- the test of writer v
  abbrev alone : ℕ → Bool
  alone v = (is_open opened v && eqb v d.writer) || (not (is_open opened v) && not (eqb v d.writer))

  abbrev beside : Bool
  beside = alone_open opened d.writer && (not (eqb prepared d.writer) && none_held z held)

  pub wide-right : wide_ok z opened held prepared d ≡ true → Right z d.keys d.count
  unfolding wide_ok
  wide-right e = entries-right z d.keys d.count (and_left (entries_ok z d.keys d.count) (not (some_wide d.writer) || beside) e)

  pub wide-fine : wide_ok z opened held prepared d ≡ true → d.writer < 4 → WideFine z opened held prepared d.writer
  unfolding wide_ok
  wide-fine e l =
      let w = d.writer in
      let h : beside ≡ true = rw (lt-ltb w 4 l) at (and_right (entries_ok z d.keys d.count) (not (some_wide w) || beside) e) in
      let a : alone_open opened w ≡ true = and_left (alone_open opened w) (not (eqb prepared w) && none_held z held) h in
      let r : not (eqb prepared w) && none_held z held ≡ true = and_right (alone_open opened w) (not (eqb prepared w) && none_held z held) h in
      record {
        opens = case_on (is_open opened w) (λ t. t) (λ t. contradicts (rw (t, eq-eqb w w refl) at (all-at alone 4 w l a)) refl);
        closed =
            λ v m n.
            case_on (is_open opened v)
            (λ t. contradicts (rw (t, ne_eqb v w n) at (all-at alone 4 v m a)) refl)
            (λ t. t);
        unprepared = differ prepared w (and_left (not (eqb prepared w)) (none_held z held) r);
        unheld = λ s m. not-true (some_hold held s) (all-at (λ s. not (some_hold held s)) z.slots s m (and_right (not (eqb prepared w)) (none_held z held) r));
      }

  pub wide_is_ok : Right z d.keys d.count → (d.writer < 4 → WideFine z opened held prepared d.writer) → wide_ok z opened held prepared d ≡ true
  unfolding wide_ok
  wide_is_ok r h =
      let w = d.writer in
      case_on (ltb w 4)
      (λ t.
      let f = h (ltb-true w 4 t) in
      let a : alone_open opened w ≡ true =
      all_made alone 4
      (λ v m.
      case_on (eqb v w)
      (λ q. rw (q, ap (is_open opened) (eqb-true v w q) ∙ f.opens))
      (λ q. rw (q, f.closed v m (eqb-false v w q)))) in
      rw (right-entries z d.keys d.count r, t, a, ne_eqb prepared w f.unprepared)
      (all_made (λ s. not (some_hold held s)) z.slots (λ s m. ap not (f.unheld s m))))
      (λ t. rw (right-entries z d.keys d.count r, t))
