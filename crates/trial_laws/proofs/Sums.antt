-- The counts of stores and of rounds as plain sums, part by part of a trial.
use Prim.Native.Nat.{ℕ, ◌+◌, ◌*◌, ◌%◌, ◌^◌, ◌<◌, ◌≤◌}
use mathlib.Core.Bool.{Bool, cond, ◌||◌}
use mathlib.Core.List.{List, [], ◌∷◌}
use mathlib.Core.Path.{◌≡◌, sym, ap, ◌∙◌, subst}
use native.Mathlib.Omega.{arith}
use lib.Dec.{ltb, eqb}
use lib.ListN.{length, length-take}
use borrow.Author.Tests.{ltb-false, not-true}
use Rattle.bounded.proofs.Tests.{case_on, or_right}
use Rattle.text.specs.declared.Line.{Line}
use Rattle.trials.specs.declared.Ask.{Ask}
use Rattle.trials.specs.declared.Ask.TheVariants.{Begin, Write, Free, Checkpoint, Commit, Abort}
use Rattle.trials.specs.declared.Spent.{Spent}
use Rattle.trials.specs.Trials.{nothing, Tried, made, with_room, put, put_all, committed, as_done, as_abandoned, played}
use Rattle.trial_lines.specs.Lines.{Work, numbers_of, is_round, with_round}
use Rattle.trial_laws.specs.Pages.{after}
use Rattle.trial_laws.specs.Ends.{last_of}
use Rattle.trial_laws.specs.Counts.{exactly, of_call, of_room, of_page, of_pages, of_round, pages_in, of_lines, is_done, done_in, abandoned_in}
use Rattle.trial_laws.proofs.Low.{Low, LowIn, within_more, made-low, room-low, put_low, all-low, committed-low, round-low, counts-exact}
use Rattle.trial_laws.proofs.Round.{round_same, made-done, made-abandoned, counted-more}
use Rattle.trial_laws.proofs.Theorem.{Left, left-line}

-- ---- sums

abbrev spent : ℕ → ℕ → ℕ → ℕ → Spent
spent w j c t = record { written = w; journal = j; copies = c; tables = t }

same-spent : {w w' j j' c c' t t' : ℕ} → w ≡ w' → j ≡ j' → c ≡ c' → t ≡ t' → spent w j c t ≡ spent w' j' c' t'
same-spent e f g h = λ i. spent (e i) (f i) (g i) (h i)

none_more : (s : Spent) → s ≡ exactly s nothing
none_more s = same-spent {w = s.written} {j = s.journal} {c = s.copies} {t = s.tables} (omega arith) (omega arith) (omega arith) (omega arith)

-- one part after the other
then : (s k j : Spent) {r u : Spent} → r ≡ exactly s k → u ≡ exactly r j → u ≡ exactly s (exactly k j)
then s k j e f = f ∙ ap (λ (x : Spent). exactly x j) e ∙ joined
  where
    joined : exactly (exactly s k) j ≡ exactly s (exactly k j)
    joined = same-spent (omega arith) (omega arith) (omega arith) (omega arith)

-- ---- the stores of a round

module _ {b : ℕ} where
  made-sum : (a : Ask) (t : Tried) → Low b t → b ≤ 2 ^ 63 → (made a t).spent ≡ exactly t.spent (of_call a t)
  made-sum a t h l = counts-exact a t (within_more h.counts l)

room-sum : (b : ℕ) (a : Ask) (t : Tried) → Low b t → b + 786 ≤ 2 ^ 63 → (with_room a t).spent ≡ exactly t.spent (of_room a t)
unfolding with_room of_room
room-sum b a t h l =
    let u = made a t in
    let e = made-low a t h in
    let w = made Checkpoint u in
    let one = made-sum a t h (omega arith) in
    case_on (eqb u.number 19)
    (λ q.
    rw q
    (then t.spent (of_call a t) _ one
    (then u.spent (of_call Checkpoint u) (of_call a w) (made-sum Checkpoint u e (omega arith)) (made-sum a w (made-low Checkpoint u e) (omega arith)))))
    (λ q. rw q (then t.spent (of_call a t) nothing one (none_more u.spent)))

module _ (x : ℕ) where
  put-sum : (b p : ℕ) (t : Tried) → Low b t → b + 1310 ≤ 2 ^ 63 → (put x p t).spent ≡ exactly t.spent (of_page x p t)
  unfolding put of_page
  put-sum b p t h l =
      let u = made (Write p x) t in
      let f = with_room Free u in
      let e = made-low (Write p x) t h in
      let one = made-sum (Write p x) t h (omega arith) in
      let freed = room-sum (b + 262) Free u e (omega arith) in
      case_on (eqb u.number 15)
      (λ q.
      rw q
      (then t.spent (of_call (Write p x) t) _ one
      (case_on (eqb f.number 0)
      (λ r. rw r (then u.spent (of_room Free u) _ freed (made-sum (Write p x) f (room-low (b + 262) Free u e) (omega arith))))
      (λ r. rw r (then u.spent (of_room Free u) nothing freed (none_more f.spent))))))
      (λ q. rw q (then t.spent (of_call (Write p x) t) nothing one (none_more u.spent)))

  all-sum : (b : ℕ) (ps : List ℕ) (t : Tried) → Low b t → b + 1310 * length ps ≤ 2 ^ 63 → (put_all x ps t).spent ≡ exactly t.spent (of_pages x ps t)
  unfolding put_all of_pages
  all-sum b [] t h l = none_more t.spent
  all-sum b (p ∷ ps) t h l =
      let u = put x p t in
      let one = put-sum b p t h (omega arith) in
      case_on (eqb u.number 0)
      (λ q. rw q (then t.spent (of_page x p t) _ one (all-sum (b + 1310) ps u (put_low b x p t h) (omega arith))))
      (λ q. rw q (then t.spent (of_page x p t) nothing one (none_more u.spent)))

  committed-sum : (b : ℕ) (t : Tried) → Low b t → b + 786 ≤ 2 ^ 63
      → (committed t).spent ≡ exactly t.spent (cond (eqb t.number 0) (of_room Commit t) nothing)
  unfolding committed
  committed-sum b t h l =
      case_on (eqb t.number 0) (λ q. rw q (room-sum b Commit t h l)) (λ q. rw q (none_more t.spent))

  played-sum : (b : ℕ) (ps : List ℕ) → length ps ≤ 64 → (t : Tried) → Low b t → b + 85150 ≤ 2 ^ 63 → (played ps x t).spent ≡ exactly t.spent (of_round ps x t)
  unfolding played as_done as_abandoned of_round
  played-sum b ps few t h l =
      let begun = made Begin t in
      let w = put_all x ps begun in
      let u = committed w in
      let e = made-low Begin t h in
      let all = all-low (b + 262) x ps begun e in
      let end = committed-low (b + 262 + 1310 * length ps) w all in
      let k = cond (eqb u.number 0) nothing (of_call Abort u) in
      let last : (cond (eqb u.number 0) (as_done u) (as_abandoned (made Abort u))).spent ≡ exactly u.spent k =
      case_on (eqb u.number 0) (λ q. rw q (none_more u.spent)) (λ q. rw q (made-sum Abort u end (omega arith))) in
      then t.spent (of_call Begin t) _ (made-sum Begin t h (omega arith))
      (then begun.spent (of_pages x ps begun) _ (all-sum (b + 262) ps begun e (omega arith))
      (then w.spent (cond (eqb w.number 0) (of_room Commit w) nothing) _ (committed-sum (b + 262 + 1310 * length ps) w all (omega arith)) last))

-- ---- lines

round-sum : (b : ℕ) (q : Line) (w : Work) → LowIn b w → b + 85150 ≤ 2 ^ 63
    → (with_round q w).tried.spent ≡ exactly w.tried.spent (cond (is_round q) (of_round (pages_in q) (w.lines % 256) w.tried) nothing)
unfolding with_round as_abandoned
round-sum b q w h l =
    case_on (is_round q)
    (λ e.
    let few : q.count ≤ 64 = ltb-false 64 q.count (or_right (ltb q.count 1) (ltb 64 q.count) (not-true (ltb q.count 1 || ltb 64 q.count) e)) in
    rw e (played-sum (w.lines % 256) b (pages_in q) (omega (arith, length-take q.count q.numbers)) w.tried h l))
    (λ e. rw e (none_more w.tried.spent))

pub lines-sum : (b : ℕ) (lines : List (List ℕ)) (w : Work) → Left w lines → LowIn b w → b + 85150 * length lines ≤ 2 ^ 63
    → (after lines w).tried.spent ≡ exactly w.tried.spent (of_lines lines w)
unfolding after of_lines
lines-sum b [] w g h l = none_more w.tried.spent
lines-sum b (line ∷ lines) w g h l =
    let n = left-line w line lines g in
    let q = numbers_of line in
    let u = with_round q w in
    let more : LowIn (b + 85150) u = round-low b q w h in
    let rest : (after lines u).tried.spent ≡ exactly u.tried.spent (of_lines lines u) = lines-sum (b + 85150) lines u n.1 more (omega arith) in
    let k = cond (is_round q) (of_round (pages_in q) (w.lines % 256) w.tried) nothing in
    subst (λ (v : Work). (after lines v).tried.spent ≡ exactly w.tried.spent (exactly k (of_lines lines v))) (sym n.0)
    (then w.tried.spent k (of_lines lines u) (round-sum b q w h (omega arith)) rest)

-- ---- rounds done and abandoned

-- what a round adds: one to the rounds done where it is, else one to those abandoned
record Ticks (is : Bool) (t u : Tried) : Type 0 where
  done : u.done ≡ t.done + cond is 1 0
  abandoned : u.abandoned ≡ t.abandoned + cond is 0 1

played-ticks : (ps : List ℕ) (b : ℕ) (t : Tried) → t.done + t.abandoned < 1000 → Ticks (eqb (last_of ps b t).number 0) t (played ps b t)
unfolding played as_done as_abandoned
played-ticks ps b t l =
    let u = last_of ps b t in
    let d : u.done ≡ t.done = round_same (λ (w : Tried). w.done) made-done ps b t in
    let a : u.abandoned ≡ t.abandoned = round_same (λ (w : Tried). w.abandoned) made-abandoned ps b t in
    case_on (eqb u.number 0)
    (λ e. rw e (record { done = counted-more u.done (omega arith) ∙ ap (λ (n : ℕ). n + 1) d; abandoned = omega (arith, a) }))
    (λ e.
    let v = made Abort u in
    let x : v.done ≡ t.done = made-done Abort u ∙ d in
    let y : v.abandoned ≡ t.abandoned = made-abandoned Abort u ∙ a in
    rw e (record { done = omega (arith, x); abandoned = counted-more v.abandoned (omega arith) ∙ ap (λ (n : ℕ). n + 1) y }))

round-ticks : (q : Line) (w : Work) → w.tried.done + w.tried.abandoned < 1000 → Ticks (is_done q w) w.tried (with_round q w).tried
unfolding with_round as_abandoned
round-ticks q w l =
    case_on (is_round q)
    (λ e. rw e (played-ticks (pages_in q) (w.lines % 256) w.tried l))
    (λ e. rw e (record { done = omega arith; abandoned = counted-more w.tried.abandoned (omega arith) }))

-- all rounds, each a line more
pub lines-ticks : (lines : List (List ℕ)) (w : Work) → Left w lines → w.tried.done + w.tried.abandoned + 1 ≡ w.lines
    → ((after lines w).tried.done ≡ w.tried.done + done_in lines w) × ((after lines w).tried.abandoned ≡ w.tried.abandoned + abandoned_in lines w)
unfolding after done_in abandoned_in with_round
lines-ticks [] w g e = (omega arith, omega arith)
lines-ticks (line ∷ lines) w g e =
    let n = left-line w line lines g in
    let q = numbers_of line in
    let u = with_round q w in
    let few = g.few in
    let one = round-ticks q w (omega arith) in
    let sum : cond (is_done q w) 1 0 + cond (is_done q w) 0 1 ≡ 1 = case_on (is_done q w) (λ t. rw t) (λ t. rw t) in
    let rest = lines-ticks lines u n.1 (omega (arith, one.done, one.abandoned, sum, e)) in
    let done : Work → Type 0 = λ v. (after lines v).tried.done ≡ w.tried.done + (cond (is_done q w) 1 0 + done_in lines v) in
    let abandoned : Work → Type 0 = λ v. (after lines v).tried.abandoned ≡ w.tried.abandoned + (cond (is_done q w) 0 1 + abandoned_in lines v) in
    subst (λ (v : Work). done v × abandoned v) (sym n.0) (omega (arith, rest.0, one.done), omega (arith, rest.1, one.abandoned))
