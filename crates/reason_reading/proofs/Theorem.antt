-- Each sentence reads back as its reason, and any other text as none (`ReadsBack`).
use mathlib.Core.Path.{◌≡◌, refl, sym, ap, subst, ◌∙◌}
use mathlib.Core.Bool.{Bool, true, false, cond, ◌&&◌}
use mathlib.Core.List.{List, [], ◌∷◌, ◌++◌, append_assoc}
use Prim.Native.Nat.{ℕ, zero, suc, ◌^◌, ◌<◌}
use native.Mathlib.Omega.{arith}
use lib.ListN.{get_or}
use Rattle.bounded.proofs.Tests.{case_on, and_left, and_right}
use Rattle.decimals.specs.Decimal.{decimal_of}
use Rattle.wording.specs.Calls.{can_return, takes_writer, takes_page, takes_line, meets_writer}
use Rattle.wording.specs.Words.{codes, name_of, text_of, call_named}
use Rattle.wording.proofs.Returns.{known}
use Rattle.wording.proofs.Wording.{named}
use Rattle.reasons.specs.declared.Reason.{Reason}
use Rattle.reasons.specs.Sentence.{opening, closing, sentence}
use Rattle.std.specs.Prelude.{Option, Some, None}
use Rattle.reason_reading.specs.Numbers.{goes_on, numbers_from, numbers_in}
use Rattle.reason_reading.specs.Reading.{pick, after, guess, guess_for, same_text, read_back, Composable, ReadsBack}
use Rattle.reason_reading.proofs.Scanning.{digit}
use Rattle.reason_reading.proofs.Guessing.{given, at-start, picked, at_next}
use Rattle.reason_reading.proofs.Sentences.{fields_of, Small, numbers-sentence}
use Rattle.reason_reading.proofs.Back.{same-eq, back-these}

-- ---- the guess from a sentence is its reason

-- a field that is not taken is 0
kept : (has : Bool) (v : ℕ) → (has ≡ false → v ≡ 0) → cond has v 0 ≡ v
kept true v f = refl
kept false v f = sym (f refl)

same-reason : (c n w p l h : ℕ) {w' p' l' h' : ℕ} → w' ≡ w → p' ≡ p → l' ≡ l → h' ≡ h
    → ◌≡◌ {A = Reason} (record { call = c; number = n; writer = w'; page = p'; line = l'; holder = h' }) (record { call = c; number = n; writer = w; page = p; line = l; holder = h })
same-reason c n w p l h a b d e = cc

module _ (r : Reason) (k : Composable r) where
  abbrev c : ℕ
  c = r.call

  small : Small r
  small =
      let n = known c r.number k.returns in
      record { number = omega (arith, n.number); writer = k.writer-fits; page = k.page-fits; line = k.line-fits; holder = k.holder-fits }

  guess-for : guess_for c (r.number ∷ fields_of r) ≡ r
  unfolding guess_for
  guess-for =
      let holder = given (meets_writer r.number) r.holder ++ [] in
      let line = given (takes_line c) r.line ++ holder in
      let page = given (takes_page c) r.page ++ line in
      let a = at-start r.number (fields_of r) in
      let b = at_next (takes_writer c) r.writer page a in
      let d = at_next (takes_page c) r.page line b in
      let e = at_next (takes_line c) r.line holder d in
      same-reason c r.number r.writer r.page r.line r.holder
      (picked (takes_writer c) r.writer page a ∙ kept (takes_writer c) r.writer k.no-writer)
      (picked (takes_page c) r.page line b ∙ kept (takes_page c) r.page k.no-page)
      (picked (takes_line c) r.line holder d ∙ kept (takes_line c) r.line k.no_line)
      (picked (meets_writer r.number) r.holder [] e ∙ kept (meets_writer r.number) r.holder k.no-holder)

  named-first : (let t = sentence r in call_named (get_or t 0 0) (get_or t 1 0) (get_or t 2 0) ≡ c)
  unfolding sentence opening
  named-first =
      let rest = codes " refused (" ++ (decimal_of r.number ++ (codes "): " ++ text_of r.number)) in
      let e : (name_of c ++ rest) ++ closing r ≡ name_of c ++ (rest ++ closing r) = append_assoc (name_of c) rest (closing r) in
      subst (λ (t : List ℕ). call_named (get_or t 0 0) (get_or t 1 0) (get_or t 2 0) ≡ c) (sym e) (named c (rest ++ closing r) (known c r.number k.returns).call)

  guess-sentence : guess (sentence r) ≡ r
  unfolding guess
  guess-sentence = rw (named-first, numbers-sentence r small) guess-for

  back : (text : List ℕ) → text ≡ sentence r → read_back text ≡ Some r
  back text e =
      let g : guess text ≡ r = ap guess e ∙ guess-sentence in
      back-these text (subst (λ (q : Reason). can_return q.call q.number ≡ true) (sym g) k.returns) (e ∙ ap sentence (sym g)) ∙ ap Some g

-- ---- what is read back can be composed

-- a number v before numbers that fit, or these alone
one_more : (on : Bool) (v : ℕ) (l : List ℕ) → v < 2 ^ 64 → ((k : ℕ) → get_or l k 0 < 2 ^ 64) → (k : ℕ) → get_or (cond on (v ∷ l) l) k 0 < 2 ^ 64
one_more true v l h f zero = h
one_more true v l h f (suc k) = f k
one_more false v l h f k = f k

-- the numbers of a text fit a word
numbers_fit : (l : List ℕ) (on : Bool) (v : ℕ) → v < 2 ^ 64 → (k : ℕ) → get_or (numbers_from on v l) k 0 < 2 ^ 64
unfolding numbers_from
numbers_fit [] on v h k = one_more on v [] h (λ k. omega arith) k
numbers_fit (b ∷ l) on v h k =
    case_on (goes_on v b)
    (λ t. rw t (numbers_fit l true _ (digit v b t).small k))
    (λ t. rw t (one_more on v (numbers_from false 0 l) h (numbers_fit l false 0 (omega arith)) k))

picks : (has : Bool) (k : ℕ) (text : List ℕ) → pick has k (numbers_in text) < 2 ^ 64
picks true k text = numbers_fit text false 0 (omega arith) k
picks false k text = omega arith

unpicked : (has : Bool) (k : ℕ) (l : List ℕ) → has ≡ false → pick has k l ≡ 0
unpicked has k l e = rw e

for-composable : (c : ℕ) (text : List ℕ) → can_return c (get_or (numbers_in text) 0 0) ≡ true → Composable (guess_for c (numbers_in text))
unfolding guess_for
for-composable c text e =
    let numbers = numbers_in text in
    let met = meets_writer (get_or numbers 0 0) in
    let page = after (takes_writer c) 1 in
    let line = after (takes_page c) page in
    let holder = after (takes_line c) line in
    record {
      returns = e;
      no-writer = unpicked (takes_writer c) 1 numbers;
      no-page = unpicked (takes_page c) page numbers;
      no_line = unpicked (takes_line c) line numbers;
      no-holder = unpicked met holder numbers;
      writer-fits = picks (takes_writer c) 1 text;
      page-fits = picks (takes_page c) page text;
      line-fits = picks (takes_line c) line text;
      holder-fits = picks met holder text;
    }

guess-composable : (text : List ℕ) → can_return (guess text).call (guess text).number ≡ true → Composable (guess text)
unfolding guess guess_for
guess-composable text e = for-composable (call_named (get_or text 0 0) (get_or text 1 0) (get_or text 2 0)) text e

-- ---- the theorem

abbrev held : List ℕ → Bool
held text = can_return (guess text).call (guess text).number && same_text text (sentence (guess text))

forth : (text : List ℕ) (r : Reason) → read_back text ≡ Some r → (text ≡ sentence r) × Composable r
unfolding read_back
forth text r e =
    let can = can_return (guess text).call (guess text).number in
    let same = same_text text (sentence (guess text)) in
    case_on (held text)
    (λ t.
    let q : ◌≡◌ {A = Option Reason} (Some (guess text)) (Some r) = rw t at e in
    let g : guess text ≡ r = cc in (
      same-eq text (sentence (guess text)) (and_right can same t) ∙ ap sentence g,
      subst (λ (s : Reason). Composable s) g (guess-composable text (and_left can same t)),
    ))
    (λ t.
    let q : ◌≡◌ {A = Option Reason} None (Some r) = rw t at e in
    let z : ◌≡◌ {A = ℕ} 0 1 = cc in
    absurd (omega arith))

pub reads-back : ReadsBack
reads-back text r = (forth text r, λ h. back r h.1 text h.0)

-- the second half, said of what is read: a text that is the sentence of no reason gives none
pub reads_none : (text : List ℕ) → ((r : Reason) → Composable r → text ≡ sentence r → ⊥) → read_back text ≡ None
unfolding read_back
reads_none text f =
    let can = can_return (guess text).call (guess text).number in
    let same = same_text text (sentence (guess text)) in
    case_on (held text)
    (λ t. absurd (f (guess text) (guess-composable text (and_left can same t)) (same-eq text (sentence (guess text)) (and_right can same t))))
    (λ t. rw t)
