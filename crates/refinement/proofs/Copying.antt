-- A wide commit past its first store: a mount counts its entries and shows their lines, which go over the committed copies one word after the other.
use Prim.Native.Nat.{ℕ, ◌+◌, ◌-◌, ◌*◌, ◌<◌, ◌≤◌}
use mathlib.Core.Bool.{true}
use mathlib.Core.List.{List}
use mathlib.Core.Logic.{◌⊎◌}
use mathlib.Core.Path.{◌≡◌, refl, sym, ap, ap₂, ◌∙◌}
use native.Mathlib.Nat.{le_antisymm}
use native.Mathlib.Omega.{arith}
use lib.Dec.{ltb}
use lib.ListN.{length, get_or}
use borrow.Author.Tests.{ltb-true, ltb-false, lt-ltb, le-ltb}
use Rattle.bounded.specs.Tab.{tab}
use Rattle.bounded.proofs.Tab.{tab-get_or}
use Rattle.bounded.proofs.Tests.{case_on}
use Rattle.layout.specs.declared.Sizes.{Sizes}
use Rattle.layout.specs.Layout.{line_word, entry_word}
use Rattle.words.specs.Words.{word}
use Rattle.image.specs.Lines.{line_bytes}
use Rattle.image.proofs.LineLaws.{length-line}
use Rattle.entries.specs.Entries.{key_of, key_page, key_line, keys_from, entry_of}
use Rattle.entries.proofs.EntryLaws.{entry-le, entry_found, page-of-key, line-of-key}
use Rattle.replay.specs.declared.Table.{Table}
use Rattle.replay.specs.Map.{page_frames}
use Rattle.state.specs.State.{State}
use Rattle.state.specs.declared.Op.TheVariants.{Copy}
use Rattle.state.specs.Held.{no_writer}
use Rattle.operations.specs.Operations.{needs}
use Rattle.validity.specs.Validity.{state_ok}
use Rattle.refinement.specs.Frames.{frame_of}
use Rattle.refinement.specs.Wide.{entry_bytes, shown_line}
use Rattle.refinement.specs.Reference.{Reference, none, idle, under, nothing, recall_line}
use Rattle.refinement.proofs.Invariant.{Durable}
use Rattle.refinement.proofs.Keeps.{durable-kept}
use Rattle.refinement.proofs.Copies.{committed-low, durable-fits}
use Rattle.refinement.proofs.Silent.{Unheld}

-- the reference machine with the pages that these lines hold
abbrev pub paged : (ℕ → ℕ → List ℕ) → Reference → Reference
paged lines b = record { pages = λ p l i. get_or (lines p l) i 0; writes = b.writes; work = b.work; wide = b.wide }

pub paged-line : (lines : ℕ → ℕ → List ℕ) (b : Reference) (p l : ℕ) → length (lines p l) ≡ 64 → lines p l ≡ recall_line (paged lines b) p l
paged-line lines b p l e = sym (tab-get_or (lines p l) 0) ∙ ap (λ (i : ℕ). tab i (λ j. get_or (lines p l) j 0)) e

-- the committed copy of line l of page p, and its word k
abbrev pub copy_of : State → List ℕ → ℕ → ℕ → List ℕ
copy_of st img p l = line_bytes img st.sizes (frame_of (page_frames (word img)) st.sizes st.table p l) l

abbrev pub copy_word : State → List ℕ → ℕ → ℕ → ℕ → ℕ
copy_word st img p l k = line_word st.sizes (frame_of (page_frames (word img)) st.sizes st.table p l) l + k

abbrev pub key_at : State → ℕ → ℕ
key_at st e = get_or st.wide.keys e 0

-- with the pages that the committed copies of an image hold
abbrev pub in_place : State → List ℕ → Reference → Reference
in_place st img b = paged (copy_of st img) b

pub record Copying (past : List ℕ) (st : State) (img : List ℕ) (b : Reference) : Type 0 where
  pub valid : state_ok st ≡ true
  pub op : st.pending.op ≡ Copy
  pub begun : 1 ≤ st.pending.made
  pub four : length st.writers.opened ≡ 4
  pub sixty-four : length st.writers.held ≡ 64
  pub unheld : Unheld st.sizes st.writers.held
  pub durable : Durable past st img (in_place st img b)
  pub keys : st.wide.keys ≡ keys_from (word img) st.sizes st.wide.count
  -- each entry's line is its page's; a line without an entry is in place
  pub entry : (e : ℕ) → e < st.wide.count → entry_bytes img st.sizes e ≡ recall_line b (key_page (key_at st e)) (key_line (key_at st e))
  pub other : (p l : ℕ) → p < st.sizes.pages → l < 64 → entry_of st.wide.keys st.wide.count (key_of p l) ≡ st.wide.count → copy_of st img p l ≡ recall_line b p l
  -- the words that are copied
  pub landed : (e k : ℕ) → e < st.wide.count → k < 8 → 1 + (8 * e + k) < st.pending.made
      → word img (copy_word st img (key_page (key_at st e)) (key_line (key_at st e)) k) ≡ word img (entry_word st.sizes e + 1 + k)
  -- no writer has unfinished writes; what is left under way does nothing
  pub no_writes : (w p l i : ℕ) → w < 4 → p < st.sizes.pages → l < 64 → i < 64 → b.writes w p l i ≡ none
  pub work : (b.work ≡ idle) ⊎ (b.work ≡ under nothing (needs st Copy - st.pending.made))
  pub book : b.wide ≡ no_writer

-- the committed copies of an image are those of `in_place`
pub is_in_place : {past : List ℕ} (st : State) (img : List ℕ) {c : Reference} (b : Reference) → state_ok st ≡ true → (D : Durable past st img c) → (p l : ℕ) → p < st.sizes.pages → l < 64
    → copy_of st img p l ≡ recall_line (in_place st img b) p l
is_in_place {past = past} st img {c = c} b ok D p l h k =
    paged-line (copy_of st img) b p l
    (length-line img st.sizes (frame_of (page_frames (word img)) st.sizes st.table p l) l (committed-low st img ok D p l h) k (durable-fits past st img c D))

pub placed : {past : List ℕ} (st : State) (img : List ℕ) (c b : Reference) → state_ok st ≡ true → Durable past st img c → Durable past st img (in_place st img b)
placed st img c b ok D = durable-kept st img c (in_place st img b) st.next st.writers st.pending (λ p l h k. sym (D.committed p l h k) ∙ is_in_place st img b ok D p l h k) D

-- a line is its entry's, else its committed copy
pub shown_by : {X : Type 0} (keys : List ℕ) (n p l : ℕ) → ((e : ℕ) → e < n → entry_of keys n (key_of p l) ≡ e → get_or keys e 0 ≡ key_of p l → X) → (entry_of keys n (key_of p l) ≡ n → X) → X
shown_by keys n p l f g =
    let e : ℕ = entry_of keys n (key_of p l) in
    case_on (ltb e n)
    (λ t. f e (ltb-true e n t) refl (entry_found keys n (key_of p l) (ltb-true e n t)))
    (λ t. g (le_antisymm (entry-le keys n (key_of p l)) (ltb-false e n t)))

pub shown_of : (img : List ℕ) (z : Sizes) (t : Table) (n : ℕ) (keys : List ℕ) (b : Reference)
    → ((e : ℕ) → e < n → entry_bytes img z e ≡ recall_line b (key_page (get_or keys e 0)) (key_line (get_or keys e 0))) → (p l : ℕ) → l < 64
    → (entry_of keys n (key_of p l) ≡ n → line_bytes img z (frame_of (page_frames (word img)) z t p l) l ≡ recall_line b p l) → shown_line img (page_frames (word img)) z t n keys p l ≡ recall_line b p l
shown_of img z t n keys b entry p l ll other =
    shown_by keys n p l
    (λ e m q k. rw (q, lt-ltb e n m) (entry e m ∙ ap₂ (recall_line b) (ap key_page k ∙ page-of-key p l ll) (ap key_line k ∙ line-of-key p l ll)))
    (λ q. rw (q, le-ltb n n (omega arith)) (other q))

-- the line shown is the page's
pub copying-shows : {past : List ℕ} (st : State) (img : List ℕ) (b : Reference) → Copying past st img b → (p l : ℕ) → p < st.sizes.pages → l < 64
    → shown_line img (page_frames (word img)) st.sizes st.table st.wide.count st.wide.keys p l ≡ recall_line b p l
copying-shows st img b C p l lp ll = shown_of img st.sizes st.table st.wide.count st.wide.keys b C.entry p l ll (C.other p l lp ll)
