-- An input by its lines: what it comes to, what is printed for it, and the bytes that two inputs leave.
use Prim.Native.Nat.{ℕ, zero, suc, ◌+◌, ◌<◌, ◌≤◌}
use Prim.Native.Char.{code}
use mathlib.Core.Bool.{Bool, true, false, cond, not, ◌||◌}
use mathlib.Core.List.{List, [], ◌∷◌, ◌++◌}
use mathlib.Core.Path.{◌≡◌, refl, sym, ap, ◌∙◌, subst}
use native.Mathlib.Omega.{arith}
use lib.Dec.{ltb, eqb}
use lib.ListN.{length, get_or, take, drop, length-take}
use borrow.Author.Tests.{ne_eqb, lt-ltb}
use Rattle.bounded.proofs.Tests.{case_on, contradicts}
use Rattle.bounded.specs.Tab.{tab}
use Rattle.cutting.specs.Feeding.{Fed, fed_byte, fed, ended}
use Rattle.decimals.specs.Decimal.{decimal_of}
use Rattle.number_text.specs.Text.{field}
use Rattle.trials.specs.declared.Spent.{Spent}
use Rattle.trials.specs.Trials.{nothing}
use Rattle.trial_lines.specs.Lines.{Work, first, numbers_of, sizes_of, with_setting, with_round, acted, act, spent_text, response}
use Rattle.trial_laws.specs.Pages.{line_shown, after, left_by, zeros, Given, Has}
use Rattle.trial_laws.specs.Inputs.{worked, lines_from, setting_of, rounds_of, GivenInput, EqualInputs}
use Rattle.trial_laws.specs.Counts.{Within, exactly, of_lines, done_in, abandoned_in, plain_text, CountsPlain}
use Rattle.trial_laws.proofs.Low.{LowIn, first-low, counts-low}
use Rattle.trial_laws.proofs.Sums.{lines-sum, lines-ticks}
use Rattle.trial_laws.proofs.Theorem.{fresh, first_taken, Left, left-line, shown-by-rounds}

-- ---- bytes are lines

by_byte : (c : Bool) (f g : Fed Work) (bytes : List ℕ) (x y : List (List ℕ)) (w : Work)
    → ended act (fed act f bytes) ≡ after x w → ended act (fed act g bytes) ≡ after y w
    → ended act (fed act (cond c f g) bytes) ≡ after (cond c x y) w
by_byte true f g bytes x y w p q = p
by_byte false f g bytes x y w p q = q

fed-lines : (w : Work) (begun bytes : List ℕ) → ended act (fed act (record { done = w; begun = begun }) bytes) ≡ after (lines_from begun bytes) w
unfolding fed fed_byte ended lines_from after
fed-lines w begun [] = case_on (eqb (length begun) 0) (λ t. rw t) (λ t. rw t)
fed-lines w begun (b ∷ bytes) =
    by_byte (eqb b 10) (record { done = act w begun; begun = [] }) (record { done = w; begun = begun ++ (b ∷ []) }) bytes
    (begun ∷ lines_from [] bytes) (lines_from (begun ++ (b ∷ [])) bytes) w
    (fed-lines (act w begun) [] bytes) (fed-lines w (begun ++ (b ∷ [])) bytes)

-- ---- past the 1,000th round no line is read

act-past : (w : Work) (line : List ℕ) → 1000 < w.lines → act w line ≡ w
unfolding acted
act-past w line h =
    let late : not w.set || ltb 1000 w.lines ≡ true = case_on w.set (λ t. rw t (lt-ltb 1000 w.lines h)) (λ t. rw t) in
    rw (ne_eqb w.lines 0 (λ e. omega arith), late)

after-past : (lines : List (List ℕ)) (w : Work) → 1000 < w.lines → after lines w ≡ w
unfolding after
after-past [] w h = refl
after-past (line ∷ lines) w h = rw (act-past w line h) (after-past lines w h)

lines_more : (w : Work) (line : List ℕ) (n : ℕ) → w.lines + suc n ≡ 1001 → (with_round (numbers_of line) w).lines + n ≡ 1001
unfolding with_round
lines_more w line n e = omega (arith, e)

after_read : (n : ℕ) (lines : List (List ℕ)) (w : Work) → w.set ≡ true → 1 ≤ w.lines → w.lines + n ≡ 1001 → after lines w ≡ after (take n lines) w
unfolding after
after_read zero [] w s h e = refl
after_read (suc n) [] w s h e = refl
after_read zero (line ∷ lines) w s h e = after-past (line ∷ lines) w (omega arith)
after_read (suc n) (line ∷ lines) w s h e =
    let l = left-line w line [] (record { set = s; some = h; few = omega arith }) in
    let u = with_round (numbers_of line) w in
    let g = l.1 in
    subst (λ (v : Work). after lines v ≡ after (take n lines) v) (sym l.0) (after_read n lines u g.set g.some (lines_more w line n e))

-- once a line is read, whether a setting stands does not change
act-set : (w : Work) (line : List ℕ) → 1 ≤ w.lines → ((act w line).set ≡ w.set) × (1 ≤ (act w line).lines)
unfolding acted with_round
act-set w line h =
    let k : eqb w.lines 0 ≡ false = ne_eqb w.lines 0 (λ e. omega arith) in
    case_on (not w.set || ltb 1000 w.lines) (λ t. rw (k, t) (refl, h)) (λ t. rw (k, t) (refl, omega arith))

after-set : (lines : List (List ℕ)) (w : Work) → 1 ≤ w.lines → (after lines w).set ≡ w.set
unfolding after
after-set [] w h = refl
after-set (line ∷ lines) w h = let n = act-set w line h in after-set lines (act w line) n.1 ∙ n.0

-- ---- an input with a setting that is taken

first-none : (buffer : List ℕ) → (first buffer).set ≡ false
unfolding first
first-none buffer = refl

act-first : (buffer setting : List ℕ) → 1 ≤ (act (first buffer) setting).lines
unfolding acted first with_setting
act-first buffer setting = case_on (eqb (numbers_of setting).count 3) (λ t. rw t (omega arith)) (λ t. rw t (omega arith))

record Settled (buffer input : List ℕ) (setting : List ℕ) (lines : List (List ℕ)) : Type 0 where
  taken : (act (first buffer) setting).set ≡ true
  same : worked buffer input ≡ after (take 1000 lines) (act (first buffer) setting)

lines-settled : (buffer input : List ℕ) (all : List (List ℕ)) → worked buffer input ≡ after all (first buffer) → (worked buffer input).set ≡ true
    → Settled buffer input (get_or all 0 []) (drop 1 all)
unfolding after
lines-settled buffer input [] e s = contradicts s (ap (λ (w : Work). w.set) e ∙ first-none buffer)
lines-settled buffer input (setting ∷ lines) e s =
    let w = act (first buffer) setting in
    let set : w.set ≡ true = sym (after-set lines w (act-first buffer setting)) ∙ (sym (ap (λ (u : Work). u.set) e) ∙ s) in
    let t = first_taken buffer setting set in
    let one : w.lines ≡ 1 = ap (λ (u : Work). u.lines) t.same in
    record { taken = set; same = e ∙ after_read 1000 lines w set (act-first buffer setting) (omega (arith, one)) }

settled : (buffer input : List ℕ) → (worked buffer input).set ≡ true → Settled buffer input (setting_of input) (drop 1 (lines_from [] input))
settled buffer input s = lines-settled buffer input (lines_from [] input) (fed-lines (first buffer) [] input) s

few : (input : List ℕ) → length (rounds_of input) ≤ 1000
few input = omega (arith, length-take 1000 (drop 1 (lines_from [] input)))

-- ---- what two inputs leave

input-shown : (buffer input : List ℕ) → (g : GivenInput buffer input) (p l : ℕ) → Has (setting_of input) p → l < 64
    → line_shown (worked buffer input).tried.world p l ≡ tab 64 (left_by 1 (rounds_of input) zeros p l)
input-shown buffer input g p l has low =
    let s = settled buffer input g.taken in
    let given : Given buffer (setting_of input) (rounds_of input) =
    record { bytes = g.bytes; taken = s.taken; few = few input; done = subst (λ (w : Work). w.tried.abandoned ≡ 0) s.same g.done } in
    rw s.same (shown-by-rounds buffer (setting_of input) (rounds_of input) given p l has low)

pub equal-inputs : EqualInputs
equal-inputs buffer buffer' input input' g g' e p l has has' low =
    input-shown buffer input g p l has low
    ∙ ap (λ (rounds : List (List ℕ)). tab 64 (left_by 1 rounds zeros p l)) e
    ∙ sym (input-shown buffer' input' g' p l has' low)

-- ---- what is printed

none_first : (k : Spent) → exactly nothing k ≡ k
none_first k = λ i.
    record {
      written = zero-add k.written i;
      journal = zero-add k.journal i;
      copies = zero-add k.copies i;
      tables = zero-add k.tables i;
    }
  where
    zero-add : (n : ℕ) → 0 + n ≡ n
    zero-add n = omega arith

-- of a trial whose six numbers are these
same_text : (w : Work) (d a : ℕ) (s : Spent) → w.set ≡ true → w.tried.done ≡ d → w.tried.abandoned ≡ a → w.tried.spent ≡ s
    → response w ≡ decimal_of d ++ (field a ++ (spent_text s ++ (code "\n" ∷ [])))
unfolding response
same_text w d a s t e f g = rw (t, e, f, g)

rounds-plain : (buffer setting : List ℕ) (rounds : List (List ℕ)) → (act (first buffer) setting).set ≡ true → length rounds ≤ 1000
    → let w = act (first buffer) setting in (response (after rounds w) ≡ plain_text rounds w) × Within 85150000 (of_lines rounds w)
rounds-plain buffer setting rounds taken few =
    let t = first_taken buffer setting taken in
    let u = fresh (sizes_of (numbers_of setting)) buffer in
    let w = act (first buffer) setting in
    let same : w ≡ u = t.same in
    let left : Left u rounds = record { set = refl; some = omega arith; few = omega arith } in
    let low = subst (LowIn 0) same (first-low buffer setting) in
    let stores : (after rounds u).tried.spent ≡ of_lines rounds u = lines-sum 0 rounds u left low (omega arith) ∙ none_first (of_lines rounds u) in
    let ticks = lines-ticks rounds u left refl in
    let set : (after rounds u).set ≡ true = after-set rounds u (omega arith) in
    let most = subst (λ (x : Work). Within 85150000 (after rounds x).tried.spent) same (counts-low buffer setting rounds few) in
    let done : (after rounds u).tried.done ≡ done_in rounds u = omega (arith, ticks.0) in
    let abandoned : (after rounds u).tried.abandoned ≡ abandoned_in rounds u = omega (arith, ticks.1) in
    subst (λ (x : Work). (response (after rounds x) ≡ plain_text rounds x) × Within 85150000 (of_lines rounds x)) (sym same)
    (same_text (after rounds u) (done_in rounds u) (abandoned_in rounds u) (of_lines rounds u) set done abandoned stores, subst (Within 85150000) stores most)

pub counts-plain : CountsPlain
counts-plain buffer input s =
    let h = settled buffer input s in
    let p = rounds-plain buffer (setting_of input) (rounds_of input) h.taken (few input) in
    record { printed = ap response h.same ∙ p.0; low = p.1 }
