-- The table of numbers that each call can return is that of its rows: a call answers with no other number, and each number stands in a row.
use mathlib.Core.Path.{◌≡◌, refl, sym, subst}
use mathlib.Core.Bool.{Bool, true, false, cond, not, ◌&&◌, ◌||◌}
use mathlib.Core.List.{List, [], ◌∷◌}
use Prim.Native.Nat.{ℕ, ◌<◌}
use lib.Dec.{ltb}
use lib.ListN.{length}
use Rattle.bounded.specs.Below.{all_below}
use Rattle.bounded.specs.Rows.{Row, refusal}
use Rattle.bounded.proofs.Below.{all-at}
use Rattle.bounded.proofs.Tests.{case_on, and_left, and_right}
use Rattle.layout.specs.declared.Sizes.{Sizes}
use Rattle.words.specs.Words.{word}
use Rattle.mount.specs.Mount.{mount_rows}
use Rattle.fresh.specs.Fresh.{format_rows}
use Rattle.state.specs.State.{State}
use Rattle.state.specs.Wide.{is_wide}
use Rattle.operations.specs.Operations.{write_rows, log_rows}
use Rattle.refinement.specs.Calls.{begin_rows, begin_wide_rows, abort_rows, row_state, row_short, row_pending, write_call_rows, commit_call_rows, prepare_call_rows, confirm_call_rows, consolidate_call_rows, free_call_rows, checkpoint_call_rows, read_rows, step_rows, event_call_rows, load_rows}
use Rattle.refinement.specs.Recall.{recall_rows}
use Rattle.wording.specs.Calls.{format, mount, recall, begin, begin_wide, abort, write, commit, consolidate, checkpoint, read, step, run, free_slot, event, load, prepare, confirm, withdraw, number_count, places, one_more, one_of, stands_in, can_return}

abbrev numbers_of : List Row → List ℕ
numbers_of [] = []
numbers_of (r ∷ rs) = r.1 ∷ numbers_of rs

-- each number of a table is one that call c can return
abbrev listed : ℕ → List Row → Bool
listed c [] = true
listed c (r ∷ rs) = can_return c r.1 && listed c rs

-- two tests come out the same
abbrev agree : Bool → Bool → Bool
agree true b = b
agree false b = not b

agreed : (a b : Bool) → agree a b ≡ true → a ≡ b
agreed true b e = sym e
agreed false true e = e
agreed false false e = refl

pub record Returns (c : ℕ) (rows : List Row) : Type 0 where
  pub answers : (n : ℕ) → refusal rows ≡ n → (n ≡ 0 → ⊥) → can_return c n ≡ true
  pub stands : (n : ℕ) → n < number_count → can_return c n ≡ one_of (numbers_of rows) n

answered : (c : ℕ) (rows : List Row) → listed c rows ≡ true → (n : ℕ) → refusal rows ≡ n → (n ≡ 0 → ⊥) → can_return c n ≡ true
answered c [] t n e z = absurd (z (sym e))
answered c (r ∷ rs) t n e z =
    case_on r.0
    (λ q. subst (λ (m : ℕ). can_return c m ≡ true) (rw q at e) (and_left (can_return c r.1) (listed c rs) t))
    (λ q. answered c rs (and_right (can_return c r.1) (listed c rs) t) n (rw q at e) z)

returns : (c : ℕ) (rows : List Row) → listed c rows ≡ true → all_below number_count (λ n. agree (can_return c n) (one_of (numbers_of rows) n)) ≡ true → Returns c rows
returns c rows t u =
    record {
      answers = answered c rows t;
      stands = λ n h. agreed (can_return c n) (one_of (numbers_of rows) n) (all-at (λ k. agree (can_return c k) (one_of (numbers_of rows) k)) number_count n h u);
    }

-- the same of a call with two tables, of which a test picks one: a number stands in either
pub record ReturnsByOne (c : ℕ) (b : Bool) (rows : Bool → List Row) : Type 0 where
  pub answers : (n : ℕ) → refusal (rows b) ≡ n → (n ≡ 0 → ⊥) → can_return c n ≡ true
  pub stands : (n : ℕ) → n < number_count → can_return c n ≡ (one_of (numbers_of (rows false)) n || one_of (numbers_of (rows true)) n)

listed-both : (c : ℕ) (rows : Bool → List Row) (b : Bool) → listed c (rows false) ≡ true → listed c (rows true) ≡ true → listed c (rows b) ≡ true
listed-both c rows true f t = t
listed-both c rows false f t = f

returns-by-one : (c : ℕ) (b : Bool) (rows : Bool → List Row) → listed c (rows false) ≡ true → listed c (rows true) ≡ true
    → all_below number_count (λ n. agree (can_return c n) (one_of (numbers_of (rows false)) n || one_of (numbers_of (rows true)) n)) ≡ true → ReturnsByOne c b rows
returns-by-one c b rows f t u =
    let either : ℕ → Bool = λ (n : ℕ). one_of (numbers_of (rows false)) n || one_of (numbers_of (rows true)) n in
    record {
      answers = answered c (rows b) (listed-both c rows b f t);
      stands = λ n h. agreed (can_return c n) (either n) (all-at (λ k. agree (can_return c k) (either k)) number_count n h u);
    }

-- ---- call by call

module _ (z : Sizes) (k : ℕ) where
  pub format-returns : Returns format (format_rows z k)
  unfolding can_return stands_in places one_of one_more all_below
  format-returns = returns format (format_rows z k) refl refl

module _ (img : List ℕ) where
  pub mount-returns : Returns mount (mount_rows (length img) (word img))
  unfolding can_return stands_in places one_of one_more all_below
  mount-returns = returns mount (mount_rows (length img) (word img)) refl refl

  pub recall-returns : (p l : ℕ) (target : List ℕ) → Returns recall (recall_rows img p l target)
  unfolding can_return stands_in places one_of one_more all_below
  recall-returns p l target = returns recall (recall_rows img p l target) refl refl

module _ (st : State) (img : List ℕ) where
  pub begin-returns : (w : ℕ) → Returns begin (begin_rows st w)
  unfolding can_return stands_in places one_of one_more all_below
  begin-returns w = returns begin (begin_rows st w) refl refl

  pub begin-wide-returns : (w : ℕ) → Returns begin_wide (begin_wide_rows st w)
  unfolding can_return stands_in places one_of one_more all_below
  begin-wide-returns w = returns begin_wide (begin_wide_rows st w) refl refl

  pub abort-returns : (w : ℕ) → Returns abort (abort_rows st w)
  unfolding can_return stands_in places one_of one_more all_below
  abort-returns w = returns abort (abort_rows st w) refl refl

  -- a write's rows, where its writer is the wide one and where it is not
  abbrev pub write_table : ℕ → ℕ → ℕ → ℕ → ℕ → List ℕ → Bool → List Row
  write_table w p l o n bytes wide =
      row_state st ∷ row_short st (length img) ∷ row_pending st ∷ (ltb (length bytes) n, 11)
      ∷ cond wide (log_rows st p l o n) (write_rows st w p l o n)

  pub write-table : (w p l o n : ℕ) (bytes : List ℕ) → write_table w p l o n bytes (is_wide st.wide w) ≡ write_call_rows st img w p l o n bytes
  write-table w p l o n bytes = refl

  pub write-returns : (w p l o n : ℕ) (bytes : List ℕ) → ReturnsByOne write (is_wide st.wide w) (write_table w p l o n bytes)
  unfolding can_return stands_in places one_of one_more all_below
  write-returns w p l o n bytes = returns-by-one write (is_wide st.wide w) (write_table w p l o n bytes) refl refl refl

  pub commit-returns : (w : ℕ) → Returns commit (commit_call_rows st img w)
  unfolding can_return stands_in places one_of one_more all_below
  commit-returns w = returns commit (commit_call_rows st img w) refl refl

  pub prepare-returns : (w : ℕ) → Returns prepare (prepare_call_rows st img w)
  unfolding can_return stands_in places one_of one_more all_below
  prepare-returns w = returns prepare (prepare_call_rows st img w) refl refl

  pub confirm-returns : (w : ℕ) → Returns confirm (confirm_call_rows st img w)
  unfolding can_return stands_in places one_of one_more all_below
  confirm-returns w = returns confirm (confirm_call_rows st img w) refl refl

  pub withdraw-returns : (w : ℕ) → Returns withdraw (confirm_call_rows st img w)
  unfolding can_return stands_in places one_of one_more all_below
  withdraw-returns w = returns withdraw (confirm_call_rows st img w) refl refl

  pub consolidate-returns : (p : ℕ) → Returns consolidate (consolidate_call_rows st img p)
  unfolding can_return stands_in places one_of one_more all_below
  consolidate-returns p = returns consolidate (consolidate_call_rows st img p) refl refl

  pub checkpoint-returns : Returns checkpoint (checkpoint_call_rows st img)
  unfolding can_return stands_in places one_of one_more all_below
  checkpoint-returns = returns checkpoint (checkpoint_call_rows st img) refl refl

  pub read-returns : (w p l : ℕ) (target : List ℕ) → Returns read (read_rows st img w p l target)
  unfolding can_return stands_in places one_of one_more all_below
  read-returns w p l target = returns read (read_rows st img w p l target) refl refl

  pub step-returns : Returns step (step_rows st img)
  unfolding can_return stands_in places one_of one_more all_below
  step-returns = returns step (step_rows st img) refl refl

  pub run-returns : Returns run (step_rows st img)
  unfolding can_return stands_in places one_of one_more all_below
  run-returns = returns run (step_rows st img) refl refl

  pub free-returns : Returns free_slot (free_call_rows st img)
  unfolding can_return stands_in places one_of one_more all_below
  free-returns = returns free_slot (free_call_rows st img) refl refl

  pub event-returns : (ms : List ℕ) (k m a : ℕ) → Returns event (event_call_rows st img ms k m a)
  unfolding can_return stands_in places one_of one_more all_below
  event-returns ms k m a = returns event (event_call_rows st img ms k m a) refl refl

  pub load-returns : (text : List ℕ) → Returns load (load_rows st img text)
  unfolding can_return stands_in places one_of one_more all_below
  load-returns text = returns load (load_rows st img text) refl refl
