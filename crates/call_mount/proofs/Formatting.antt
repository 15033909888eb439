-- A format that is asked for: what the words may be put to, what comes of it, and what of one that is run to its end.
use Prim.Native.Nat.{ℕ, ◌+◌, ◌<◌, ◌≤◌, min}
use mathlib.Core.Bool.{true, false, cond}
use mathlib.Core.List.{List}
use mathlib.Core.Path.{◌≡◌, refl, sym, ap, ◌∙◌, subst}
use native.Mathlib.Omega.{arith}
use lib.Dec.{eqb}
use lib.ListN.{length, replicate}
use Rattle.std.specs.Prelude.{Err}
use borrow.Author.Tests.{not-false, ltb-false, ne_eqb, eq-eqb, eqb-true}
use Rattle.bounded.proofs.Rows.{none-apply}
use Rattle.bounded.proofs.Tests.{row-yes, row-no}
use Rattle.layout.specs.declared.Sizes.{Sizes}
use Rattle.layout.specs.Layout.{Legal, sizes_ok, image_words, image_length}
use Rattle.layout.proofs.LayoutLaws.{legal}
use Rattle.bounded.specs.Tab.{tab}
use Rattle.fresh.specs.Fresh.{formatted, format_stores, format_rows, format_row, format_bytes, fresh_table}
use Rattle.fresh.proofs.FreshStores.{stores-all}
use Rattle.state.specs.State.{State}
use Rattle.state.specs.declared.Places.{Places}
use Rattle.state.specs.declared.Op.TheVariants.{Format}
use Rattle.operations.specs.Operations.{needs}
use Rattle.refinement.specs.Outcome.{Outcome}
use Rattle.refinement.specs.Calls.{asked, run_of, run_bytes}
use Rattle.refinement.specs.Stores.{left, state_after}
use Rattle.refinement.specs.Mount.{quiet_state, fresh_state, format_of, format_call}
use Rattle.refinement.proofs.CallMounted.{fresh-valid}
use Rattle.refinement.proofs.FormatAsked.{formatting, fresh-is, format-left, ran-image, ran-state}
use Rattle.rows.specs.declared.Refusal.{Refusal}
use Rattle.rows.specs.Numbers.{number}
use Rattle.rows.proofs.Numbers.{number-some}
use Rattle.answers.specs.Answers.{Answer}
use Rattle.state_words.specs.Decoded.{places_of}
use Rattle.op_stores.specs.declared.Until.{Until}
use Rattle.op_stores.specs.declared.Until.TheVariants.{End}
use Rattle.op_stores.specs.Asks.{Allowed}
use Rattle.op_stores.specs.Started.{Started, started_of, started_bytes}
use Rattle.op_stores.proofs.Starting.{started-refused}
use Rattle.call_mount.specs.Replacing.{replacing, FormatStarted}
use Rattle.call_mount.specs.Entries.{with_entries}
use Rattle.call_mount.proofs.MapFilled.{over_zeros}

module _ (z : Sizes) (img : List ℕ) where
  module _ (r : Refusal) (e : number r ≡ format_row z img) where
    pub format-refused : (st : State) (u : Until) → FormatStarted (Err r) st img z st img u
    unfolding format_of
    format-refused st u = started-refused st img u (format_rows z (length img)) r e _ _

    -- the bytes after it in one call
    pub refused-bytes : img ≡ format_bytes z img
    refused-bytes = row-no (eqb (format_row z img) 0) (formatted z img) img img (ne_eqb (format_row z img) 0 (λ q. number-some r (e ∙ q))) refl

  module _ (none : 0 ≡ format_row z img) where
    pub taken-bytes : formatted z img ≡ format_bytes z img
    taken-bytes = row-yes (eqb (format_row z img) 0) (formatted z img) img (eq-eqb (format_row z img) 0 (sym none))

    pub sizes-right : sizes_ok z ≡ true
    sizes-right = not-false (sizes_ok z) (none-apply (format_rows z (length img)) (omega arith) (sym none)).0

    pub long-enough : image_length z ≤ length img
    long-enough = ltb-false (length img) (image_length z) (none-apply (format_rows z (length img)) (omega arith) (sym none)).1.0

    -- the words put to the fresh state may have a format asked for on them
    -- the words put to the fresh state but for its map, then that
    pub fresh-filled : (s1 s2 : State) → s1 ≡ quiet_state z 0 0 (fresh_table z) (replicate 1024 0) → s2 ≡ with_entries s1 (tab z.pages (λ p. p)) z.pages → s2 ≡ fresh_state z
    fresh-filled s1 s2 q h =
        h ∙ ap (λ (u : State). with_entries u (tab z.pages (λ p. p)) z.pages) q ∙ ap (quiet_state z 0 0 (fresh_table z)) (over_zeros z.pages (λ p. p) (legal z sizes-right).pages-high)

    pub format-allowed : (st : State) → st ≡ fresh_state z → (at : Places) → at ≡ places_of st → Allowed z at st Format
    format-allowed st q at h =
        subst (λ (s : State). at ≡ places_of s → Allowed z at s Format) (sym q)
        (λ p.
        record {
          sizes = refl;
          places = p;
          ok = fresh-valid z sizes-right;
          idle = refl;
          busy = refl;
          rows = refl;
          fits = fresh-is z (legal z sizes-right);
        })
        h

    -- what comes of asking
    format-asks : (st : State) → replacing st (format_of z img) ≡ asked 0 (fresh_state z) Format (replicate 8 0)
    unfolding format_of needs
    format-asks st =
        let zero : format_row z img ≡ 0 = sym none in
        let some : eqb (image_words z + 1) 0 ≡ false = ne_eqb (image_words z + 1) 0 (λ q. omega (arith, q)) in
        rw (zero, some)

    pub format-started : (st put after : State) (bs : List ℕ) (a : Answer) (u : Until) → put ≡ fresh_state z → Started a after bs (asked 0 put Format (replicate 8 0)) img u
        → FormatStarted a after bs z st img u
    format-started st put after bs a u q h =
        subst (λ (o : Outcome). Started a after bs o img u) (sym (format-asks st)) (subst (λ (s : State). Started a after bs (asked 0 s Format (replicate 8 0)) img u) q h)

    -- ---- run to its end

    all-stores : min (left (formatting z)) (image_words z + 1) ≡ image_words z + 1
    all-stores = let n : left (formatting z) ≡ image_words z + 1 = format-left z (legal z sizes-right) in omega (arith, n)

    fresh-last : state_after (formatting z) (image_words z + 1) ≡ fresh_state z
    unfolding needs
    fresh-last = rw (eq-eqb (0 + (image_words z + 1)) (image_words z + 1) (omega arith))

    pub end-bytes : (st : State) → started_bytes (replacing st (format_of z img)) img End ≡ formatted z img
    unfolding format_of
    end-bytes st =
        let zero : format_row z img ≡ 0 = sym none in
        let some : eqb (image_words z + 1) 0 ≡ false = ne_eqb (image_words z + 1) 0 (λ q. omega (arith, q)) in
        rw (zero, some)
        (ran-image z sizes-right img long-enough (left (formatting z)) ∙ ap (λ (n : ℕ). format_stores z n img) all-stores ∙ stores-all z (legal z sizes-right) img long-enough)

    pub end-state : (st : State) → (started_of (replacing st (format_of z img)) img End).state ≡ fresh_state z
    unfolding format_of
    end-state st =
        let zero : format_row z img ≡ 0 = sym none in
        let some : eqb (image_words z + 1) 0 ≡ false = ne_eqb (image_words z + 1) 0 (λ q. omega (arith, q)) in
        rw (zero, some)
        (ran-state z sizes-right img long-enough (left (formatting z)) ∙ ap (state_after (formatting z)) all-stores ∙ fresh-last)
