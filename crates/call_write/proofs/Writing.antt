-- A write on a state in words: what the code found is started as the definition says. a is where the write goes, found what the code found.
use Prim.Native.Nat.{ℕ, ◌<◌}
use mathlib.Core.Bool.{Bool, true, false, cond}
use mathlib.Core.List.{List}
use mathlib.Core.Path.{◌≡◌, refl, sym, ap, ◌∙◌}
use native.Mathlib.Omega.{arith}
use borrow.Author.Tests.{not-false}
use Rattle.bounded.proofs.Tests.{row_keeps}
use Rattle.layout.specs.declared.Sizes.{Sizes}
use Rattle.image.specs.Lines.{merged, line_words}
use Rattle.state.specs.State.{State}
use Rattle.state.specs.declared.Places.{Places}
use Rattle.state.specs.declared.Pending.{Pending}
use Rattle.state.specs.declared.Op.{Op}
use Rattle.state.specs.declared.Op.TheVariants.{Write, Log}
use Rattle.state.specs.Wide.{is_wide}
use Rattle.operations.specs.Operations.{is_idle, needs}
use Rattle.refinement.specs.Stores.{stores_made, state_after}
use Rattle.refinement.specs.Calls.{finished_line, write_call_rows, write_op, changes_nothing, write_of}
use Rattle.std.specs.Prelude.{Ok, Err}
use Rattle.rows.specs.declared.Refusal.{Refusal}
use Rattle.answers.specs.Answers.{Answer}
use Rattle.asked.proofs.Asked.{pending_from}
use Rattle.call_write.specs.declared.found.Found.{Found}
use Rattle.call_write.specs.Found.{WriteFound, found_line}
use Rattle.call_write.proofs.Asking.{write-none, pending-is, op-rows, op_does_fit, op-busy, op-needs}
use Rattle.state_words.specs.Decoded.{places_of}
use Rattle.state_pending.specs.Put.{with_pending as put}
use Rattle.op_stores.specs.declared.Until.{Until}
use Rattle.op_stores.specs.Asks.{Asks}
use Rattle.op_stores.specs.Started.{budget, Started}
use Rattle.op_stores.proofs.Starting.{started-pending, started-refused, started_none}

pub write-refused : (st : State) (img : List ℕ) (w p l o n : ℕ) (bytes : List ℕ) (r : Refusal) → WriteFound st img w p l o n bytes (Err r) → (u : Until)
    → Started (Err r) st img (write_of st img w p l o n bytes) img u
unfolding write_of
write-refused st img w p l o n bytes r e u = started-refused st img u (write_call_rows st img w p l o n bytes) r e _ _

module _ (st : State) (img : List ℕ) (w p l o n : ℕ) (bytes : List ℕ) (found : Found) (f : WriteFound st img w p l o n bytes (Ok found)) (u : Until) where
  abbrev idle : Bool
  idle = changes_nothing st img w p l o n bytes

  abbrev op : Op
  op = write_op st w p l o n

  -- no byte changes
  pub write-nothing : idle ≡ true → (a : Answer) → a ≡ Ok 0 → Started a st img (write_of st img w p l o n bytes) img u
  unfolding write_of
  write-nothing t a h = rw t (started_none st img u (write_call_rows st img w p l o n bytes) f.0 a st h)

  -- x is the operation, q what is then pending, with the words of the finished line
  module _ (words : List ℕ) (x : Op) (q : Pending) (m : words ≡ line_words (merged (found_line img st.sizes found l) o n bytes))
      (ex : x ≡ cond found.wide (Log p l o n) (Write w p l o n)) (eq : q ≡ pending_from x words) where
    finished : q ≡ pending_from op (finished_line st img w p l o n bytes)
    finished = pending-is st img w p l o n bytes found f words m x q ex eq

    pub write-asks : (y : Sizes) (at : Places) → y ≡ st.sizes → at ≡ places_of st → Asks y at st img q
    write-asks y at ey ea =
        let none = sym f.0 in
        let t = (write-none st img w p l o n bytes none).quiet in
        let some : 0 < cond (is_wide st.wide w) 9 8 = row_keeps (λ (k : ℕ). 0 < k) (is_wide st.wide w) 9 8 (omega arith) (omega arith) in
        rw finished
        (record {
          sizes = ey;
          places = ea;
          ok = t.ok;
          long = rw ey t.long;
          idle = not-false (is_idle st.pending.op) t.past.1.1.0;
          busy = op-busy st img w p l o n bytes;
          none_made = refl;
          rows = op-rows st img w p l o n bytes none;
          fits = op_does_fit st img w p l o n bytes;
          some = rw (op-needs st img w p l o n bytes) some;
        })

    pub write-started : idle ≡ false → (y : Sizes) (at : Places) → y ≡ st.sizes → at ≡ places_of st → (a : Answer) (bs : List ℕ) (after : State) → a ≡ Ok (needs st q.op)
        → bs ≡ stores_made (put st q) (budget u (put st q)) img → after ≡ state_after (put st q) (budget u (put st q)) → Started a after bs (write_of st img w p l o n bytes) img u
    unfolding write_of
    write-started t y at ey ea a bs after ha hb hs =
        rw t
        (started-pending y at st img q (write-asks y at ey ea) u a bs after ha hb hs (write_call_rows st img w p l o n bytes) f.0 _ _
        (sym (op-needs st img w p l o n bytes) ∙ ap (λ (k : Pending). needs st k.op) (sym finished)) (ap (put st) (sym finished)))
