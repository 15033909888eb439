-- A line performed, by its form, and what it adds.
use Rattle.std.proofs.Common.{◌≡◌, ℕ, ◌≤◌, Bool, true, false, cond, not, eqb, ltb, List, [], ◌∷◌, length, replicate, sym, refl, ap, ◌∙◌, subst, arith, eq-eqb, eqb-true}
use borrow.Author.Tests.{eqb-false}
use Rattle.bounded.specs.Below.{count_below}
use Rattle.bounded.specs.Rows.{refusal}
use Rattle.bounded.proofs.Tests.{case_on, contradicts}
use Rattle.layout.specs.declared.Sizes.{Sizes}
use Rattle.layout.specs.Layout.{Legal}
use Rattle.state.specs.State.{State}
use Rattle.answers.specs.Answers.{Answer}
use Rattle.answers.specs.Answers.{number_of, stores_of}
use Rattle.refinement.specs.Stores.{World, store_at, left}
use Rattle.refinement.specs.Calls.{world_of, step_row}
use Rattle.refinement.specs.Mount.{format_of}
use Rattle.refinement.specs.Run.{Result, result, read, exec}
use Rattle.state_words.specs.Decoded.{decoded}
use Rattle.call_mount.specs.Replacing.{replacing, FormatStarted}
use Rattle.call_step.specs.declared.telling.NextStore.{NextStore}
use Rattle.call_step.specs.NextStore.{next_store_of}
use Rattle.op_stores.specs.declared.Until.TheVariants.{Asked}
use Rattle.text.specs.declared.Line.{Line}
use Rattle.calling.specs.WriteLine.{num}
use Rattle.forms.specs.declared.Ask.{Ask}
use Rattle.forms.specs.declared.Form.{Form}
use Rattle.forms.specs.declared.Form.TheVariants.{Formats, Asks, Reads, Cuts, Other}
use Rattle.forms.specs.Forms.{has, form_of}
use Rattle.printing.specs.declared.Output.{Output}
use Rattle.printing.specs.declared.Output.TheVariants.{Answered}
use Rattle.std.specs.Prelude.{Option}
use Rattle.executing.specs.declared.Mode.{Mode}
use Rattle.executing.specs.declared.Turned.{Turned}
use Rattle.executing.specs.Called.{call_of, Machine, Turn, turn, machine_at, result_at, turn_at, finished}
use Rattle.executing.proofs.Finished.{ask-told}
use Rattle.script.specs.Turns.{formats, shown, shown_by, turn_by, turn_of}
use Rattle.script.proofs.Shown.{format-refused, format-taken}
use Rattle.wear.specs.declared.shares.Ends.{Ends}
use Rattle.wear.specs.Wear.{stores_in, is_write, by_write, pending_by, worn_by, line_wear}
use Rattle.wear.specs.Shares.{wear_at, format_ends, asked_ends, frame_of, counted}
use Rattle.wear.specs.Performs.{Adds, Performs, Narrow}
use Rattle.wear.proofs.Asked.{asked-worn}
use Rattle.wear.proofs.Made.{Ran, made-ran, format-legal, format-worn, adds_none, adds-counted, worn-none}

-- ---- any turn

-- one without a store
pub performs-none : (t u : Turn) (v : World) (w : Bool) (counts : List ℕ) → u ≡ t → stores_in u.output ≡ 0
    → Performs t (worn_by v w (stores_in t.output)) counts u.machine u.image counts
performs-none t u v w counts e none =
    record {
      machine = ap (λ (x : Turn). x.machine) e;
      image = ap (λ (x : Turn). x.image) e;
      adds = adds_none counts (worn_by v w (stores_in t.output))
          (λ k. worn-none v w (stores_in t.output) k (sym (ap (λ (x : Turn). stores_in x.output) e) ∙ none));
    }

-- one whose stores count as their numbers tell
pub performs-some : (t u : Turn) (v : World) (w : Bool) (e : Ends) (n : ℕ) (counts counts' : List ℕ) → u ≡ t → n ≡ stores_in u.output → length counts ≡ 22
    → counts' ≡ counted e w n counts → ((k : ℕ) → worn_by v w n k ≡ count_below n (λ i. wear_at e w i k))
    → Performs t (worn_by v w (stores_in t.output)) counts u.machine u.image counts'
performs-some t u v w e n counts counts' q made size c same =
    let all : n ≡ stores_in t.output = made ∙ ap (λ (x : Turn). stores_in x.output) q in
    record {
      machine = ap (λ (x : Turn). x.machine) q;
      image = ap (λ (x : Turn). x.image) q;
      adds = subst (λ (m : ℕ). Adds counts (worn_by v w m) counts') all (adds-counted e w n counts counts' (worn_by v w n) size c same);
    }

-- ---- F

module _ (m : Mode) (words img : List ℕ) (z : Sizes) (a : Answer) (words' img' : List ℕ) (number : ℕ)
    (e : FormatStarted a (decoded words') img' z (decoded words) img Asked) (h : number ≡ number_of a) where
  told : result_at a words' img' ≡ result (replacing (decoded words) (format_of z img)) img
  told = ask-told a words' img' (replacing (decoded words) (format_of z img)) img e

  abbrev asks : World
  asks = world_of (replacing (decoded words) (format_of z img)).state img

  abbrev formed : Turn
  formed = formats (machine_at m words) img z

  pub refused : (counts : List ℕ) → (number ≡ 0 → ⊥) → Performs formed (worn_by asks false (stores_in formed.output)) counts (machine_at m words') img' counts
  refused counts turned-back =
      let r : Turned = record { mode = m; output = Answered 70 number 0 } in
      performs-none formed (turn_at r words' img') asks false counts (format-refused m words img z a words' img' number e h r turned-back refl) refl

  module _ (yes : number ≡ 0) where
    taken : (format_of z img).number ≡ 0
    taken = sym (h ∙ ap (λ (d : Result). d.number) told) ∙ yes

    pub sizes-legal : Legal z
    sizes-legal = format-legal (decoded words) z img taken

    pub made : (r : Turned) (words'' img'' counts counts' : List ℕ) (n : ℕ) (ends : Ends) → turn_at r words'' img'' ≡ finished 70 m.cut (result_at a words' img')
        → n ≡ stores_in r.output → length counts ≡ 22 → ends ≡ format_ends z → counts' ≡ counted ends false n counts
        → Performs formed (worn_by asks false (stores_in formed.output)) counts (machine_at r.mode words'') img'' counts'
    made r words'' img'' counts counts' n ends q s size same c =
        let d = result_at a words' img' in
        let u = turn_at r words'' img'' in
        let full : n ≡ stores_in (finished 70 m.cut d).output = s ∙ ap (λ (x : Turn). stores_in x.output) q in
        let few : n ≤ left asks.st =
        case_on (eqb n 0)
        (λ t. omega (arith, eqb-true n 0 t))
        (λ t.
        let ran = (made-ran 70 m.cut d (λ x. eqb-false n 0 t (full ∙ x))).1 in
        subst (λ (y : Result). n ≤ left y.world.st) told (subst (λ (y : ℕ). y ≤ left d.world.st) (sym full) ran.few)) in
        performs-some formed u asks false (format_ends z) n counts counts' (format-taken m words img z a words' img' number e h u yes q) s size
        (c ∙ ap (λ (x : Ends). counted x false n counts) same)
        (λ k. format-worn (decoded words) z img taken n few false k)

-- ---- a call

module _ (words img : List ℕ) (narrow : Narrow (decoded words)) (a : Ask) (line : Line) (cut : Option ℕ) (answer : Answer) (words' img' : List ℕ)
    (told : result_at answer words' img' ≡ exec (call_of a line.count line.numbers) (world_of (decoded words) img))
    (r : Turned) (words'' img'' : List ℕ) (q : turn_at r words'' img'' ≡ finished line.letter cut (result_at answer words' img'))
    (n : ℕ) (s : n ≡ stores_in r.output) where
  abbrev d : Result
  d = exec (call_of a line.count line.numbers) (world_of (decoded words) img)

  abbrev came : Turn
  came = finished line.letter cut d

  ended : turn_at r words'' img'' ≡ came
  ended = q ∙ ap (finished line.letter cut) told

  pub call_none : (counts : List ℕ) → n ≡ 0 → Performs came (worn_by d.world (is_write a) (stores_in came.output)) counts (machine_at r.mode words'') img'' counts
  call_none counts none = performs-none came (turn_at r words'' img'') d.world (is_write a) counts ended (sym s ∙ none)

  module _ (some : n ≡ 0 → ⊥) where
    full : n ≡ stores_in came.output
    full = s ∙ ap (λ (x : Turn). stores_in x.output) ended

    ran : (d.stores ≡ 0 → ⊥) × Ran d.world n
    ran =
        let h = made-ran line.letter cut d (λ x. some (full ∙ x)) in
        (h.0, subst (Ran d.world) (sym full) h.1)

    pub call-legal : (z : Sizes) → z ≡ (decoded words').sizes → Legal z
    call-legal z e = subst Legal (sym (e ∙ ap (λ (x : Result). x.world.st.sizes) told)) ran.1.legal

    -- the word of the first store
    first-told : (word : ℕ) → word ≡ (next_store_of (decoded words') img').at
        → word ≡ store_at d.world.st d.world.st.pending.op d.world.st.pending.made
    first-told word e =
        let v = d.world in
        let same : next_store_of (decoded words') img' ≡ next_store_of v.st v.image = ap (λ (x : Result). next_store_of x.world.st x.world.image) told in
        let row : eqb (step_row v.st v.image) 0 ≡ true = eq-eqb (step_row v.st v.image) 0 ran.1.row in
        e ∙ ap (λ (x : NextStore). x.at) same ∙ rw row

    pub call-some : (z : Sizes) (word needed frame : ℕ) (e : Ends) (w : Bool) (counts counts' : List ℕ) → z ≡ (decoded words').sizes
        → word ≡ (next_store_of (decoded words') img').at → needed ≡ stores_of answer → frame ≡ frame_of z word → e ≡ asked_ends a needed frame
        → w ≡ is_write a → length counts ≡ 22 → counts' ≡ counted e w n counts
        → Performs came (worn_by d.world (is_write a) (stores_in came.output)) counts (machine_at r.mode words'') img'' counts'
    call-some z word needed frame e w counts counts' hz hn hs hf he hw size c =
        let v = d.world in
        let sizes : z ≡ v.st.sizes = hz ∙ ap (λ (x : Result). x.world.st.sizes) told in
        let stores : needed ≡ d.stores = hs ∙ ap (λ (x : Result). x.stores) told in
        let at = first-told word hn in
        let first = store_at v.st v.st.pending.op v.st.pending.made in
        let at-frame : frame ≡ frame_of v.st.sizes first = hf ∙ rw (sizes, at) in
        let ends : e ≡ asked_ends a d.stores (frame_of v.st.sizes first) = he ∙ rw (stores, at-frame) in
        performs-some came (turn_at r words'' img'') v (is_write a) (asked_ends a d.stores (frame_of v.st.sizes first)) n counts counts' ended s size
        (c ∙ rw (ends, hw))
        (asked-worn (decoded words) img narrow a line.count line.numbers n ran.0 ran.1.legal ran.1.few (is_write a))

-- ---- by the line's form

-- a read makes no store
pub none-shown : (st : State) (img numbers : List ℕ) → stores_in (shown_by st img numbers) ≡ 0
unfolding shown
none-shown st img numbers =
    let n = num numbers in
    let d = exec (read (n 0) (n 1) (n 2) (replicate 64 0)) (world_of st img) in
    let number = refusal ((not (eqb d.number 0), d.number) ∷ (ltb 63 (n 3), 11) ∷ []) in
    case_on (eqb number 0) (λ t. rw t) (λ t. rw t)

-- only a format is obeyed before one is taken
abbrev obeyed : Form → Bool
obeyed Formats = false
obeyed (Asks a) = true
obeyed Reads = true
obeyed Cuts = true
obeyed Other = false

formatted-first : (formatted : Bool) (line : Line) → obeyed (form_of formatted line) ≡ true → formatted ≡ true
unfolding form_of
formatted-first true line h = refl
formatted-first false line h = case_on (has line "F" 3) (λ t. contradicts h (rw t)) (λ t. contradicts h (rw t))

pub asks-formatted : (formatted : Bool) (line : Line) (g : Form) (a : Ask) → g ≡ form_of formatted line → g ≡ Asks a → formatted ≡ true
asks-formatted formatted line g a e h = formatted-first formatted line (ap obeyed (sym e ∙ h))

pub cuts-formatted : (formatted : Bool) (line : Line) (g : Form) → g ≡ form_of formatted line → g ≡ Cuts → formatted ≡ true
cuts-formatted formatted line g e h = formatted-first formatted line (ap obeyed (sym e ∙ h))

-- g is the form that the code found
pub performs-by : (m : Machine) (img : List ℕ) (line : Line) (g f : Form) (counts img' counts' : List ℕ) (m' : Machine) → g ≡ form_of m.formatted line → g ≡ f
    → Performs (turn_by f m img line) (worn_by (pending_by f m img line) (by_write f) (stores_in (turn_by f m img line).output)) counts m' img' counts'
    → Performs (turn_of m img line) (line_wear m img line) counts m' img' counts'
unfolding turn_of line_wear
performs-by m img line g f counts img' counts' m' e h p =
    subst (λ (x : Form). Performs (turn_by x m img line) (worn_by (pending_by x m img line) (by_write x) (stores_in (turn_by x m img line).output)) counts m' img' counts')
    (sym h ∙ e) p
