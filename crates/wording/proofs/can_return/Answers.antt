use mathlib.Core.Logic.{inl, inr}
use mathlib.Core.Path.{◌≡◌, refl, sym, ap, ◌∙◌}
use Prim.Native.Nat.{ℕ, ◌<◌}
use mathlib.Core.List.{List, []}
use mathlib.Core.Bool.{Bool, true, false, cond}
use lib.Dec.{eqb}
use lib.ListN.{get_or}
use native.Mathlib.Omega.{arith}
use Rattle.bounded.specs.Tab.{tab}
use Rattle.bounded.proofs.Tab.{get_or-tab}
use Rattle.wording.specs.Calls.{call_count, number_count, can_return, stands_in, places, one_of, one_more}
use Rattle.wording.proofs.Returns.{unknown-call, unknown-number}
use Rattle.wording.proofs.can_return.Goals as goal

-- The code's table is document 01's and 02's: one test over its places.
-- a row for each number, with an x for each call that can return it
abbrev table : List (List ℕ)
table = tab number_count (λ n. tab call_count (λ c. cond (can_return c n) 120 32))

marked : (b : Bool) → eqb (cond b 120 32) 120 ≡ b
marked true = refl
marked false = refl

entry : (c n : ℕ) → c < call_count → n < number_count → eqb (get_or (get_or table n []) c 0) 120 ≡ can_return c n
entry c n h l =
    ap (λ (r : List ℕ). eqb (get_or r c 0) 120) (get_or-tab number_count (λ n. tab call_count (λ c. cond (can_return c n) 120 32)) n [] l)
    ∙ ap (λ (b : ℕ). eqb b 120) (get_or-tab call_count (λ c. cond (can_return c n) 120 32) c 0 h)
    ∙ marked (can_return c n)

pub returns : goal.returns
unfolding tab can_return stands_in places one_of one_more
returns c = let x = c.args in entry x.call x.number (omega arith) (omega arith)

pub returns-then-call-ge-CALLS : goal.returns-then-call-ge-CALLS
returns-then-call-ge-CALLS c = elim c.then-call-ge-CALLS.either [ inl q ↦ sym (unknown-call _ _ q) | inr q ↦ sym (unknown-number _ _ q.1) ]
