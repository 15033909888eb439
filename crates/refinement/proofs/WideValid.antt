-- A wide write and a wide commit keep the state valid: one entry more, or the same again, is right; and no entry is.
use Prim.Native.Nat.{ℕ, ◌+◌, ◌<◌, ◌≤◌}
use mathlib.Core.Bool.{Bool, true, false, not, ◌&&◌, cond}
use mathlib.Core.List.{List}
use mathlib.Core.Path.{◌≡◌, refl, sym, ap, ◌∙◌, subst}
use native.Mathlib.Nat.{le_antisymm}
use native.Mathlib.Omega.{arith}
use lib.Dec.{ltb, leb}
use lib.ListN.{length, get_or, set}
use lib.Seq.{set-get_or}
use borrow.Author.Tests.{ltb-true, ltb-false, leb-false, lt-ltb}
use Rattle.bounded.specs.Rows.{refusal}
use Rattle.bounded.proofs.Tests.{case_on, contradicts}
use Rattle.layout.specs.declared.Sizes.{Sizes}
use Rattle.entries.specs.Entries.{no_keys, key_of, key_page, entry_of}
use Rattle.entries.proofs.EntryLaws.{Right, page-of-key, entry-le, entry_found, none_right, right-more}
use Rattle.replay.specs.Table.{slot_in}
use Rattle.state.specs.State.{State, Wide}
use Rattle.state.specs.declared.Op.TheVariants.{Log, Copy}
use Rattle.state.specs.Wide.{entry_for, has_entry, with_entry}
use Rattle.operations.specs.Operations.{op_rows}
use Rattle.operations.proofs.Taken.{LogTaken, log-taken, copy-taken}
use Rattle.validity.specs.Validity.{state_ok}
use Rattle.refinement.specs.Commit.{closed_writer}
use Rattle.refinement.specs.Stores.{completed}
use Rattle.refinement.proofs.StateValid.{valid, valid-ok}
use Rattle.refinement.proofs.Pending.{idle-ok}
use Rattle.refinement.proofs.Closed.{closed-fine}

-- the entry of a line used for it, again or for the first time
pub entry-right : (z : Sizes) (d : Wide) (p l : ℕ) → Right z d.keys d.count → z.entries ≤ length d.keys → p < z.pages → l < 64
    → not (has_entry d p l) && leb z.entries d.count ≡ false → Right z (with_entry d p l).keys (with_entry d p l).count
entry-right z d p l r long low line room =
    let n = d.count in
    let k = key_of p l in
    let e = entry_for d p l in
    case_on (has_entry d p l)
    (λ t.
    let m : e < n = ltb-true e n t in
    let same : set d.keys e k ≡ d.keys = ap (set d.keys e) (sym (entry_found d.keys n k m)) ∙ set-get_or d.keys e 0 in
    rw t (subst (λ (ks : List ℕ). Right z ks n) (sym same) r))
    (λ t.
    let m : e ≡ n = le_antisymm (entry-le d.keys n k) (ltb-false e n t) in
    let full : leb z.entries n ≡ false = rw t at room in
    rw t
    (subst (λ (i : ℕ). Right z (set d.keys i k) (n + 1)) (sym m)
    (right-more z d.keys n r (leb-false z.entries n full) long k (subst (λ (i : ℕ). i < z.pages) (sym (page-of-key p l line)) low) m)))

pub logged-valid : (st : State) (p l o n : ℕ) → state_ok st ≡ true → length st.wide.keys ≡ 64 → refusal (op_rows st (Log p l o n)) ≡ 0
    → state_ok (completed st (Log p l o n)) ≡ true
logged-valid st p l o n e keys r =
    let v = valid st e in
    let h : LogTaken st p l o n = log-taken st p l o n r in
    valid-ok (completed st (Log p l o n))
    (record {
      legal = v.legal;
      positions = v.positions;
      slots = v.slots;
      held = v.held;
      next_low = v.next_low;
      lasts = v.lasts;
      prepared = v.prepared;
      entries = entry-right st.sizes st.wide p l v.entries (omega (arith, keys, v.legal.entries-high)) h.args.page-low h.args.line_low h.room;
      wide = v.wide;
      pending = idle-ok (completed st (Log p l o n)) refl;
    })

-- a closed writer leaves the prepared one
copied-prepared : (st : State) → (completed st Copy).writers.prepared < 4 → st.writers.prepared < 4
unfolding closed_writer
copied-prepared st l = l

pub copied-valid : (st : State) → state_ok st ≡ true → refusal (op_rows st Copy) ≡ 0 → state_ok (completed st Copy) ≡ true
copied-valid st e r =
    let v = valid st e in
    valid-ok (completed st Copy)
    (record {
      legal = v.legal;
      positions = v.positions;
      slots = v.slots;
      held = closed-fine st.sizes v.legal st.writers st.wide.writer (slot_in st.table) v.held;
      next_low = v.next_low;
      lasts = v.lasts;
      prepared = λ l. contradicts (lt-ltb st.writers.prepared 4 (copied-prepared st l)) (copy-taken st r);
      entries = none_right st.sizes no_keys;
      wide = λ l. absurd (omega arith);
      pending = idle-ok (completed st Copy) refl;
    })
