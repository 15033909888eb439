-- What holds of the reference machine and the events completed, and goes on holding when an operation is asked for and its stores are made.
use Prim.Native.Nat.{ℕ, zero, suc, ◌-◌, ◌<◌, ◌≤◌, min}
use mathlib.Core.Bool.{true, false, cond}
use mathlib.Core.List.{List, [], ◌∷◌, append-nil}
use mathlib.Core.Path.{◌≡◌, refl, sym, ap, ◌∙◌, subst}
use native.Mathlib.Omega.{arith}
use lib.Dec.{leb, eqb}
use borrow.Author.Tests.{leb-true, leb-false}
use Rattle.bounded.proofs.Tab.{tab-ext}
use Rattle.bounded.proofs.Tests.{case_on, row_keeps}
use Rattle.words.specs.Words.{word_at}
use Rattle.meters.specs.Meters.{moduli_ok, event_known, moves_credit, first_meter, amount_bad}
use Rattle.refinement.specs.Reference.{Reference, Cell, none, laid_over, Task, Work, idle, under, copying, writing, committing, moving, nothing, with_work, meter_on, first_moved, moved, does, starts, starts_copy, continues, copies, advances}
use Rattle.refinement.specs.Totals.{Move, finishes, Account, gained, AddUp}
use Rattle.refinement.proofs.StepCall.{work-same}
use Rattle.refinement.proofs.Totals.{moved-adds-up}
use Rattle.refinement.proofs.WriteHeld.{writes_kept}

-- the meters told otherwise
pub adds-ext : (f g : ℕ → ℕ) (h : Account) → ((i : ℕ) → i ≤ 23 → f i ≡ g i) → AddUp f h → AddUp g h
adds-ext f g h e A =
    let z = e 0 (omega arith) in
    record {
      credit = omega (arith, z, A.credit);
      in-range = omega (arith, z, A.in-range);
      rolls = λ i l u. sym (e i u) ∙ A.rolls i l u;
    }

-- of what is under way: no write to page 0, and of an event that it is known, was lent the moduli last loaded, and its amount taken
abbrev pub Fits : List ℕ → (ℕ → ℕ) → Task → Type 0
Fits ms meter (writing w p l o n bytes) = p ≡ 0 → ⊥
Fits ms meter (moving ts k m a) = (ts ≡ ms) × (event_known k m ≡ true) × (moduli_ok ts ≡ true) × (amount_bad ts k m (meter (first_meter k m)) a ≡ false)
Fits ms meter (committing w) = Unit
Fits ms meter nothing = Unit

abbrev pub WorkFits : List ℕ → (ℕ → ℕ) → Work → Type 0
WorkFits ms meter idle = Unit
WorkFits ms meter (under t left) = Fits ms meter t
WorkFits ms meter (copying w left) = Unit

pub record Tally (b : Reference) (h : Account) : Type 0 where
  pub clean : (w l i : ℕ) → b.writes w 0 l i ≡ none
  pub adds : AddUp (meter_on b) h
  pub fits : WorkFits h.moduli (meter_on b) b.work

-- the event that a task is, when it is done
abbrev pub moves : Task → List Move
moves (moving ts k m a) = record { kind = k; meter = m; amount = a } ∷ []
moves (writing w p l o n bytes) = []
moves (committing w) = []
moves nothing = []

pub no_move : (b : Reference) (h : Account) → Tally b h → Tally b (gained h [])
no_move b h T =
    let e = append-nil h.since in
    let f = append-nil h.all in
    subst (Tally b) (λ i. record { moduli = h.moduli; start = h.start; since = sym e i; all = sym f i }) T

does-tally : (t : Task) (b : Reference) (h : Account) → Tally b h → Fits h.moduli (meter_on b) t → Tally (does t (with_work idle b)) (gained h (moves t))
does-tally (writing w p l o n bytes) b h T f =
    no_move (does (writing w p l o n bytes) (with_work idle b)) h
    (record { clean = λ v i j. writes_kept (with_work idle b) w p l o n bytes v 0 i j (λ e. f (sym e.1)) ∙ T.clean v i j; adds = T.adds; fits = tt })
does-tally (committing w) b h T f =
    no_move (does (committing w) (with_work idle b)) h
    (record {
      clean = λ v i j. row_keeps (λ (c : Cell). c ≡ none) (eqb v w) none (b.writes v 0 i j) refl (T.clean v i j);
      adds =
          adds-ext (meter_on b) (meter_on (does (committing w) (with_work idle b))) h
          (λ i u.
          ap (λ (x : List ℕ). word_at x 0)
          (tab-ext 64 (b.pages 0 i) (λ j. laid_over (b.writes w 0 i j) (b.pages 0 i j)) (λ j l. ap (λ (c : Cell). laid_over c (b.pages 0 i j)) (sym (T.clean w i j)))))
          T.adds;
      fits = tt;
    })
does-tally (moving ts k m a) b h T f =
    subst (λ (ms : List ℕ). Tally (moved ms k m a (with_work idle b)) (gained h (moves (moving ts k m a)))) (sym f.0)
    (record {
      clean = λ v i j. row_keeps (λ (c : Reference). c.writes v 0 i j ≡ none) (moves_credit k) _ (first_moved h.moduli k m a (with_work idle b)) (T.clean v i j) (T.clean v i j);
      adds =
          moved-adds-up (with_work idle b) h k m a f.1 (subst (λ (ms : List ℕ). moduli_ok ms ≡ true) f.0 f.2)
          (subst (λ (ms : List ℕ). amount_bad ms k m (meter_on b (first_meter k m)) a ≡ false) f.0 f.3) T.adds;
      fits = row_keeps (λ (c : Reference). WorkFits h.moduli (meter_on c) c.work) (moves_credit k) _ (first_moved h.moduli k m a (with_work idle b)) tt tt;
    })
does-tally nothing b h T f = no_move (with_work idle b) h (record { clean = T.clean; adds = T.adds; fits = tt })

-- an operation other than an event asked for
pub starts-tally : (t : Task) (n : ℕ) (b : Reference) (h : Account) → moves t ≡ [] → b.work ≡ idle → Fits h.moduli (meter_on b) t → Tally b h → Tally (starts t n b) (gained h [])
starts-tally t zero b h q i f T = subst (λ (es : List Move). Tally (does t b) (gained h es)) q (subst (λ (c : Reference). Tally (does t c) (gained h (moves t))) (work-same b idle i) (does-tally t b h T f))
starts-tally t (suc n) b h q i f T = no_move (with_work (under t (suc n)) b) h (record { clean = T.clean; adds = T.adds; fits = f })

pub copy-starts-tally : (w n : ℕ) (b : Reference) (h : Account) → b.work ≡ idle → Tally b h → Tally (starts_copy w n b) (gained h [])
copy-starts-tally w zero b h i T = starts-tally (committing w) 0 b h refl i tt T
copy-starts-tally w (suc n) b h i T = no_move (with_work (copying w (suc n)) b) h (record { clean = T.clean; adds = T.adds; fits = tt })

-- stores made of what is under way
finishes-is : (k left : ℕ) (t : Task) → finishes k (under t left) ≡ cond (leb left k) (moves t) []
finishes-is k left (moving ms e m a) = refl
finishes-is k left (writing w p l o n bytes) = row_keeps (λ (x : List Move). [] ≡ x) (leb left k) [] [] refl refl
finishes-is k left (committing w) = row_keeps (λ (x : List Move). [] ≡ x) (leb left k) [] [] refl refl
finishes-is k left nothing = row_keeps (λ (x : List Move). [] ≡ x) (leb left k) [] [] refl refl

goes_on : (t : Task) (n : ℕ) (b : Reference) (h : Account) → 0 < n → Fits h.moduli (meter_on b) t → Tally b h → Tally (continues t n b) h
goes_on t zero b h l f T = absurd (omega arith)
goes_on t (suc n) b h l f T = record { clean = T.clean; adds = T.adds; fits = f }

pub advance : (k : ℕ) (w : Work) (b : Reference) (h : Account) → WorkFits h.moduli (meter_on b) w → Tally b h → Tally (advances k w b) (gained h (finishes k w))
advance k idle b h f T = no_move b h T
advance k (under t left) b h f T =
    subst (λ (es : List Move). Tally (continues t (left - min k left) b) (gained h es)) (sym (finishes-is k left t))
    (case_on (leb left k)
    (λ e.
    let z : left - min k left ≡ 0 = omega (arith, leb-true left k e) in
    rw (e, z) (does-tally t b h T f))
    (λ e.
    let s : 0 < left - min k left = omega (arith, leb-false left k e) in
    rw e (no_move (continues t (left - min k left) b) h (goes_on t (left - min k left) b h s f T))))
advance k (copying w left) b h f T = copies-tally (min k left)
  where
    -- the commit with the first store, and nothing with the others
    rest-tally : (n : ℕ) → Tally (continues nothing n (does (committing w) b)) (gained h [])
    rest-tally zero = does-tally (committing w) b h T tt
    rest-tally (suc n) = let D = does-tally (committing w) b h T tt in record { clean = D.clean; adds = D.adds; fits = tt }

    copies-tally : (n : ℕ) → Tally (copies w left n b) (gained h [])
    copies-tally zero = no_move b h T
    copies-tally (suc n) = rest-tally (left - suc n)
