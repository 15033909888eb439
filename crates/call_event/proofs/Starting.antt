-- An event on a state in words: what the code found is started as the definition says. found is what the code found.
use Prim.Native.Nat.{ℕ, ◌<◌, ◌≤◌}
use mathlib.Core.List.{List}
use mathlib.Core.Path.{◌≡◌, refl, sym, ap, ◌∙◌}
use native.Mathlib.Omega.{arith}
use lib.ListN.{length}
use borrow.Author.Tests.{not-false}
use Rattle.layout.specs.declared.Sizes.{Sizes}
use Rattle.layout.specs.Layout.{Legal, frames, image_length}
use Rattle.meters.specs.Meters.{first_meter, own_meter}
use Rattle.state.specs.State.{State}
use Rattle.state.specs.declared.Places.{Places}
use Rattle.state.specs.declared.Pending.{Pending}
use Rattle.state.specs.declared.Op.TheVariants.{Event}
use Rattle.operations.specs.Operations.{is_idle, needs}
use Rattle.refinement.specs.Stores.{stores_made, state_after}
use Rattle.refinement.specs.Calls.{event_line, event_second, event_call_rows, event_of}
use Rattle.refinement.proofs.EventRows.{event-some, event-needs, event-op-row}
use Rattle.refinement.proofs.Going.{ranges-of}
use Rattle.std.specs.Prelude.{Ok, Err}
use Rattle.rows.specs.declared.Refusal.{Refusal}
use Rattle.answers.specs.Answers.{Answer}
use Rattle.call_event.specs.declared.found.Found.{Found}
use Rattle.call_event.specs.Found.{EventFound}
use Rattle.call_event.proofs.Asked.{asked-facts, line_frame}
use Rattle.state_words.specs.Decoded.{places_of}
use Rattle.state_pending.specs.Put.{with_pending as put}
use Rattle.op_stores.specs.declared.Until.{Until}
use Rattle.op_stores.specs.Asks.{Asks}
use Rattle.op_stores.specs.Started.{budget, Started}
use Rattle.op_stores.proofs.Starting.{started-pending, started-refused}

pub event-refused : (st : State) (img ms : List ℕ) (k m a : ℕ) (r : Refusal) → EventFound st img ms k m a (Err r) → (u : Until) → Started (Err r) st img (event_of st img ms k m a) img u
unfolding event_of
event-refused st img ms k m a r e u = started-refused st img u (event_call_rows st img ms k m a) r e _ _

module _ (st : State) (img ms : List ℕ) (k m a : ℕ) (found : Found) (f : EventFound st img ms k m a (Ok found)) where
  -- each line is read from a frame
  pub event-lines : Legal st.sizes × (found.first < frames st.sizes) × (found.own < frames st.sizes) × (image_length st.sizes ≤ length img)
  event-lines =
      let q = asked-facts st img ms k m a (sym f.0) in
      ((ranges-of st q.0.ok).legal, rw f.1 (line_frame st (length img) (first_meter k m) q.0), rw f.2 (line_frame st (length img) (own_meter k m) q.0), q.0.long)

  -- q is the event pending, with its finished lines
  module _ (q : Pending) (e : q ≡ record { op = Event k m a; made = 0; line = event_line st img ms k m a; second = event_second st img ms k m a })
      (y : Sizes) (at : Places) (ey : y ≡ st.sizes) (ea : at ≡ places_of st) where
    pub event-asks : Asks y at st img q
    event-asks =
        let none = sym f.0 in
        let t = (asked-facts st img ms k m a none).0 in
        rw e
        (record {
          sizes = ey;
          places = ea;
          ok = t.ok;
          long = rw ey t.long;
          idle = not-false (is_idle st.pending.op) t.past.1.1.0;
          busy = refl;
          none_made = refl;
          rows = event-op-row st img ms k m a none;
          fits = refl;
          some = rw (event-needs st k m a) (event-some k);
        })

    pub event-started : (u : Until) (r : Answer) (bs : List ℕ) (after : State) → r ≡ Ok (needs st q.op) → bs ≡ stores_made (put st q) (budget u (put st q)) img
        → after ≡ state_after (put st q) (budget u (put st q)) → Started r after bs (event_of st img ms k m a) img u
    unfolding event_of
    event-started u r bs after hr hb hs =
        started-pending y at st img q event-asks u r bs after hr hb hs (event_call_rows st img ms k m a) f.0 _ _
        (sym (event-needs st k m a) ∙ ap (λ (x : Pending). needs st x.op) (sym e)) (ap (put st) (sym e))
