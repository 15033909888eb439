-- Calls one after the other.
use Prim.Native.Nat.{ℕ, suc, ◌+◌, ◌-◌, ◌<◌, ◌≤◌}
use mathlib.Core.List.{List}
use mathlib.Core.Path.{◌≡◌, refl, sym, ap, ◌∙◌}
use native.Mathlib.Numerals.{add-one}
use native.Mathlib.Omega.{arith}
use lib.Dec.{eqb}
use lib.ListN.{length, take, drop, get_or, set, replicate, length-drop, length-replicate, drop_of_length-le}
use lib.Seq.{drop-cons, take-suc-set, take_all}
use borrow.Author.Tests.{eqb-true, eqb-false, eq-eqb, ne_eqb, le-ltb}
use Rattle.bounded.proofs.Tests.{case_on}
use Rattle.bounded.proofs.Rows.{row-none}
use Rattle.layout.specs.Layout.{image_length}
use Rattle.refinement.specs.Stores.{World}
use Rattle.refinement.specs.Outcome.{Outcome}
use Rattle.refinement.specs.Mount.{format_call}
use Rattle.fresh.specs.Fresh.{format_rows, format_row, format_bytes}
use Rattle.answers.specs.Answers.{Answer}
use Rattle.answers.specs.Answers.{answered_at}
use Rattle.state_words.specs.Decoded.{decoded}
use Rattle.call_mount.specs.Replacing.{replacing}
use Rattle.sequence_runs.specs.Runs.{small, fresh_world, Ran, start, ran, first_byte, played_of}
use Rattle.sequence_runs.specs.declared.turns.Made.{Made}
use Rattle.sequence_runs.specs.Turns.{world_in, begun, Turned}

-- i calls are made: the first i answers stand, and the calls left bring these words and this image to the end
abbrev pub Reached : ℕ → List ℕ → ℕ → List ℕ → ℕ → List ℕ → List ℕ → Ran → Type 0
Reached k numbers i answers needed words img end =
    ran k (drop i numbers) (record { answers = take i answers; needed = needed; world = world_in words img }) ≡ end

last-same : (i n : ℕ) → i < n → eqb (i + 1) n ≡ eqb (n - suc i) 0
last-same i n h =
    case_on (eqb (i + 1) n)
    (λ t. t ∙ sym (eq-eqb (n - suc i) 0 (omega (arith, eqb-true (i + 1) n t))))
    (λ t. t ∙ sym (ne_eqb (n - suc i) 0 (λ e. omega (arith, eqb-false (i + 1) n t))))

pub reached-more : (k : ℕ) (numbers : List ℕ) (i : ℕ) (answers : List ℕ) (needed : ℕ) (words img : List ℕ) (end : Ran) (t : Made) (words' img' : List ℕ)
    → i < length numbers → i < length answers → Turned (eqb (i + 1) (length numbers)) k (get_or numbers i 0) words img t words' img'
    → Reached k numbers i answers needed words img end → Reached k numbers (i + 1) (set answers i t.number) t.needed words' img' end
unfolding ran
reached-more k numbers i answers needed words img end t words' img' h h' turned e =
    let last : eqb (i + 1) (length numbers) ≡ eqb (length (drop (suc i) numbers)) 0 =
    last-same i (length numbers) h ∙ ap (λ (n : ℕ). eqb n 0) (sym (length-drop (suc i) numbers)) in
    let more = rw last at (turned.more (take i answers) needed) in
    rw (add-one, take-suc-set answers i t.number h')
    (ap (ran k (drop (suc i) numbers)) (sym more) ∙ (rw (drop-cons numbers i 0 h) at e))

pub reached-end : (k : ℕ) (numbers : List ℕ) (i : ℕ) (answers : List ℕ) (needed : ℕ) (words img : List ℕ) (end : Ran)
    → length numbers ≤ i → length answers ≡ length numbers → Reached k numbers i answers needed words img end
    → (needed ≡ end.needed) × ((img ≡ end.world.image) × (answers ≡ end.answers))
unfolding ran
reached-end k numbers i answers needed words img end h n e =
    let f = rw (drop_of_length-le numbers {i = i} h, take_all i answers (omega arith)) at e in
    (ap (λ (r : Ran). r.needed) f, (ap (λ (r : Ran). r.world.image) f, ap (λ (r : Ran). r.answers) f))

-- ---- on a fresh image

-- format takes n zeros where they are enough
taken : (n : ℕ) → image_length small ≤ n → format_row small (replicate n 0) ≡ 0
taken n h =
    let fits : image_length small ≤ length {A = ℕ} (replicate n 0) = rw length-replicate h in
    sym (row-none (format_rows small (length {A = ℕ} (replicate n 0))) (refl, (le-ltb (length {A = ℕ} (replicate n 0)) (image_length small) fits, tt)))

pub played : (k : ℕ) (numbers : List ℕ) (a : Answer) (words₀ words : List ℕ) (img₀ img₁ img₂ : List ℕ) (needed first second : ℕ) (answers : List ℕ)
    → img₀ ≡ replicate 8320 0 → answered_at a (decoded words) ≡ replacing (decoded words₀) (format_call small img₀) → img₁ ≡ format_bytes small img₀
    → (let r = ran k numbers (begun words img₁) in (needed ≡ r.needed) × ((img₂ ≡ r.world.image) × (answers ≡ r.answers)))
    → ((v : World) → v.image ≡ img₂ → first ≡ first_byte v 0) → ((v : World) → v.image ≡ img₂ → second ≡ first_byte v 1)
    → (record { needed = needed; first = first; second = second } ≡ played_of (ran k numbers start)) × (answers ≡ (ran k numbers start).answers)
unfolding fresh_world format_call
played k numbers a words₀ words img₀ img₁ img₂ needed first second answers zeros fresh bytes made one two =
    let state : decoded words ≡ (format_call small (replicate 8320 0)).state =
    ap (λ (o : Outcome). o.state) (rw zeros at fresh) ∙ rw (taken 8320 (omega arith)) in
    let e : begun words img₁ ≡ start = rw (state, bytes, zeros) in
    let r = ran k numbers start in
    let m = rw e at made in
    (rw (m.0, one r.world (sym m.1.0), two r.world (sym m.1.0)), m.1.1)
