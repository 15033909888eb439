-- A checkpoint asked for. With head equal to tail it needs no store: no slot has a live record, so nothing changes.
use Prim.Native.Nat.{ℕ, ◌<◌}
use mathlib.Core.List.{List}
use mathlib.Core.Logic.{inl, inr}
use mathlib.Core.Path.{◌≡◌, refl, sym, ap, ◌∙◌, subst}
use native.Mathlib.Omega.{arith}
use lib.Dec.{ltb, eqb}
use lib.ListN.{length, replicate}
use lib.Seq.{ext_get_or}
use borrow.Author.Tests.{eqb-true, eqb-false, ltb-true, ltb-false}
use Rattle.bounded.specs.Rows.{refusal}
use Rattle.bounded.specs.Tab.{filled}
use Rattle.bounded.proofs.Rows.{none-apply}
use Rattle.bounded.proofs.Tab.{length-filled, get_or-filled, get_or-filled-past}
use Rattle.bounded.proofs.Tests.{case_on}
use Rattle.journal.specs.Records.{live_count}
use Rattle.replay.specs.Table.{no_position, last_in}
use Rattle.journal.proofs.Ring.{live-none}
use Rattle.state.specs.State.{State}
use Rattle.state.specs.declared.Op.TheVariants.{Checkpoint}
use Rattle.operations.specs.Operations.{needs}
use Rattle.refinement.specs.Stores.{World, completed}
use Rattle.refinement.proofs.Appended.{last-at}
use Rattle.refinement.proofs.ValidLasts.{last_at}
use Rattle.refinement.proofs.StateValid.{valid}
use Rattle.refinement.specs.Calls.{checkpoint_call_rows, checkpoint_of}
use Rattle.refinement.specs.Run.{checkpoint, exec}
use Rattle.refinement.specs.Reference.{Reference, nothing}
use Rattle.refinement.proofs.Invariant.{Quiet, Related}
use Rattle.refinement.proofs.Asked.{all_left, asked-busy}
use Rattle.refinement.proofs.Sound.{Sound, is-quiet}
use Rattle.refinement.proofs.Next.{asked-next}

pub none_needed : (st : State) → needs st Checkpoint ≡ 0 → st.head ≡ st.tail
unfolding needs
none_needed st e = case_on (eqb st.head st.tail) (λ t. eqb-true st.head st.tail t) (λ t. absurd (omega (arith, rw t at e)))

module _ {past : List ℕ} (st : State) (img : List ℕ) (b : Reference) (q : Quiet past st img b) (empty : st.head ≡ st.tail) where
  no_last : (s : ℕ) → s < st.sizes.slots → last_in st.table s ≡ no_position
  no_last s l =
      let v = valid st q.valid in
      sym (last-at st.table s q.durable.behind.sixteen (omega (arith, v.legal.slots-high)))
      ∙ case_on (eqb (last_at st.table s) no_position)
      (λ t. eqb-true (last_at st.table s) no_position t)
      (λ t.
      let none : live_count st.sizes st.head st.tail ≡ 0 = ap (λ (x : ℕ). live_count st.sizes x st.tail) empty ∙ live-none st.sizes st.tail in
      absurd (omega (arith, none, v.lasts.live s l (eqb-false (last_at st.table s) no_position t))))

  pub same-lasts : filled st.sizes.slots (λ s. no_position) st.table.last ≡ st.table.last
  same-lasts =
      let last : List ℕ = st.table.last in
      let n : ℕ = st.sizes.slots in
      let long : length last ≡ 16 = q.durable.behind.sixteen.last in
      ext_get_or no_position (filled n (λ s. no_position) last) last (length-filled n (λ s. no_position) last)
      (λ s m.
      case_on (ltb s n)
      (λ t. get_or-filled n (λ s. no_position) last s no_position (ltb-true s n t) (omega (arith, long, (valid st q.valid).legal.slots-high)) ∙ sym (no_last s (ltb-true s n t)))
      (λ t. get_or-filled-past n (λ s. no_position) last s no_position (ltb-false s n t)))

  as_it_was : completed st Checkpoint ≡ st
  as_it_was =
      let e₁ = empty in
      let e₂ = same-lasts in
      let e₃ = q.pending in
      λ i. record {
        sizes = st.sizes;
        head = st.head;
        tail = e₁ i;
        next = st.next;
        table = record { page = st.table.page; original = st.table.original; spare = st.table.spare; bitmap = st.table.bitmap; last = e₂ i };
        map = st.map;
        writers = st.writers;
        wide = st.wide;
        pending = sym e₃ i;
      }

  empty-checkpoint : Quiet past (completed st Checkpoint) img b
  empty-checkpoint = subst (λ (s : State). Quiet past s img b) (sym as_it_was) q

pub checkpoint-sound : {past : List ℕ} (v : World) (b : Reference) → Related past v b → Sound past checkpoint v b
unfolding exec checkpoint_of
checkpoint-sound v b h =
    let st = v.st in
    let img = v.image in
    let rows = none-apply (checkpoint_call_rows st img) (omega arith) in
    let a =
    asked-next (Related _) checkpoint v b Checkpoint (replicate 8 0) nothing (refusal (checkpoint_call_rows st img)) (λ e k. refl) h
    (λ e z. record { sizes = refl; related = inl (empty-checkpoint st img b (is-quiet st img b h (rows e).1.1.0) (none_needed st z)) })
    (λ e z.
    let q = is-quiet st img b h (rows e).1.1.0 in
    record { sizes = refl; related = inr (asked-busy st img b Checkpoint (replicate 8 0) nothing q refl z refl (all_left st Checkpoint (replicate 8 0) nothing)) }) in
    record { right = tt; sizes = a.sizes; related = a.related }
