-- The calls of a round, one after the other.
use Rattle.std.proofs.Common.{◌≡◌, ℕ, ◌+◌, ◌<◌, ◌≤◌, List, length, get_or, drop, ap, add-one, drop_of_length-le, drop-cons, eq-eqb, ne_eqb}
use Rattle.layout.specs.declared.Sizes.{Sizes}
use Rattle.fresh.specs.Fresh.{format_bytes}
use Rattle.answers.specs.Answers.{Answer}
use Rattle.answers.specs.Answers.{number_of, stores_of, answered_at}
use Rattle.state_words.specs.Decoded.{decoded}
use Rattle.call_mount.specs.Replacing.{replacing}
use Rattle.refinement.specs.Outcome.{Outcome}
use Rattle.refinement.specs.Mount.{format_call}
use Rattle.refinement.specs.Calls.{world_of}
use Rattle.refinement.specs.Run.{Result}
use Rattle.trials.specs.declared.Ask.{Ask}
use Rattle.trials.specs.declared.Ask.TheVariants.{Begin, Write, Free, Checkpoint, Commit, Abort}
use Rattle.trials.specs.declared.Spent.{Spent}
use Rattle.trials.specs.declared.Trial.{Trial}
use Rattle.trials.specs.Trials.{call_of, Finishes, nothing, stores_for, plus, Tried, trial_of, untried, formatted, made, with_room, put, put_all, committed}
use Rattle.trials.specs.Trials.{counted, as_done, as_abandoned, played}

-- ---- a format

pub format-told : (z : Sizes) (a : Answer) (words img words' img' : List ℕ) (number : ℕ) (t : Trial)
    → ((ws is : List ℕ) → trial_of t ws is ≡ untried (world_of (decoded ws) is))
    → answered_at a (decoded words') ≡ replacing (decoded words) (format_call z img) → img' ≡ format_bytes z img → number ≡ number_of a
    → trial_of (record { number = number; spent = t.spent; done = t.done; abandoned = t.abandoned }) words' img'
    ≡ formatted z (world_of (decoded words) img)
unfolding formatted
format-told z a words img words' img' number t first e b n =
    let s : decoded words' ≡ (replacing (decoded words) (format_call z img)).state = ap (λ (o : Outcome). o.state) e in
    let m : number_of a ≡ (format_call z img).number = ap (λ (o : Outcome). o.number) e in
    let counts : trial_of t words img ≡ untried (world_of (decoded words) img) = first words img in
    let spent : t.spent ≡ nothing = ap (λ (x : Tried). x.spent) counts in
    let done : t.done ≡ 0 = ap (λ (x : Tried). x.done) counts in
    let abandoned : t.abandoned ≡ 0 = ap (λ (x : Tried). x.abandoned) counts in
    rw (s, b, n, m, spent, done, abandoned)

-- ---- a call

-- what is counted of a call
abbrev counts : Ask → Tried → Result → Tried
counts a t d =
    record { world = d.world; number = d.number; spent = plus t.spent (stores_for a d.stores); done = t.done; abandoned = t.abandoned }

pub call-made : (a : Ask) (t : Trial) (words img : List ℕ) (answer : Answer) (words' img' : List ℕ) (number stores : ℕ) (kinds spent : Spent)
    → Finishes (call_of a) words img answer words' img'
    → number ≡ number_of answer → stores ≡ stores_of answer
    → kinds ≡ stores_for a stores → spent ≡ plus t.spent kinds
    → trial_of (record { number = number; spent = spent; done = t.done; abandoned = t.abandoned }) words' img' ≡ made a (trial_of t words img)
unfolding made
call-made a t words img answer words' img' number stores kinds spent e hn hs hk hp =
    rw (hn, hp, hk, hs) (ap (counts a (trial_of t words img)) e)

-- ---- room in the journal

module _ (a : Ask) (x y : Tried) (e : y ≡ made a x) where
  pub room-enough : (y.number ≡ 19 → ⊥) → y ≡ with_room a x
  unfolding with_room
  room-enough h = rw (← e, ne_eqb y.number 19 h)

  pub room-made : y.number ≡ 19 → (z w : Tried) → z ≡ made Checkpoint y → w ≡ made a z → w ≡ with_room a x
  unfolding with_room
  room-made h z w f g = rw (← e, eq-eqb y.number 19 h, ← f) g

-- ---- a page

module _ (b p : ℕ) (x u : Tried) (e : u ≡ made (Write p b) x) where
  pub put-plain : (u.number ≡ 15 → ⊥) → u ≡ put b p x
  unfolding put
  put-plain h = rw (← e, ne_eqb u.number 15 h)

  module _ (h : u.number ≡ 15) (f : Tried) (g : f ≡ with_room Free u) where
    pub put-stuck : (f.number ≡ 0 → ⊥) → f ≡ put b p x
    unfolding put
    put-stuck k = rw (← e, eq-eqb u.number 15 h, ← g, ne_eqb f.number 0 k)

    pub put-freed : f.number ≡ 0 → (w : Tried) → w ≡ made (Write p b) f → w ≡ put b p x
    unfolding put
    put-freed k w i = rw (← e, eq-eqb u.number 15 h, ← g, eq-eqb f.number 0 k) i

-- ---- the pages: a loop has come to page i

module _ (b : ℕ) (ps : List ℕ) (i : ℕ) (x end : Tried) (r : put_all b (drop i ps) x ≡ end) where
  module _ (u : Tried) (h : i < length ps) (e : u ≡ put b (get_or ps i 0) x) where
    pub all_more : u.number ≡ 0 → put_all b (drop (i + 1) ps) u ≡ end
    unfolding put_all
    all_more n = rw add-one (rw (drop-cons ps i 0 h, ← e, eq-eqb u.number 0 n) at r)

    pub all-stop : (u.number ≡ 0 → ⊥) → u ≡ end
    unfolding put_all
    all-stop n = rw (drop-cons ps i 0 h, ← e, ne_eqb u.number 0 n) at r

  pub all_end : length ps ≤ i → x ≡ end
  unfolding put_all
  all_end h = rw (drop_of_length-le ps {i = i} h) at r

-- ---- the end of a round

pub not-committed : (x : Tried) → (x.number ≡ 0 → ⊥) → x ≡ committed x
unfolding committed
not-committed x h = rw (ne_eqb x.number 0 h)

pub is-committed : (x w : Tried) → x.number ≡ 0 → w ≡ with_room Commit x → w ≡ committed x
unfolding committed
is-committed x w h e = rw (eq-eqb x.number 0 h) e

module _ (ps : List ℕ) (b : ℕ) (t x y u : Tried) (begun : x ≡ made Begin t) (all : y ≡ put_all b ps x) (end : u ≡ committed y) where
  pub round-done : u.number ≡ 0 → (n : ℕ) → n ≡ counted u.done
      → record { world = u.world; number = u.number; spent = u.spent; done = n; abandoned = u.abandoned } ≡ played ps b t
  unfolding played as_done
  round-done h n k = rw (← begun, ← all, ← end, eq-eqb u.number 0 h, k)

  pub round-abandoned : (u.number ≡ 0 → ⊥) → (w : Tried) → w ≡ made Abort u → (n : ℕ) → n ≡ counted w.abandoned
      → record { world = w.world; number = w.number; spent = w.spent; done = w.done; abandoned = n } ≡ played ps b t
  unfolding played as_abandoned
  round-abandoned h w e n k = rw (← begun, ← all, ← end, ne_eqb u.number 0 h, ← e, k)
