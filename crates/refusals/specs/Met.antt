-- What a refused call met (document 02, L1): what it was given and, for 14 and 18, the lowest writer in its way.
use Rattle.std.specs.Prelude.{ℕ, ◌<◌, min, Bool, true, false, not, cond, ◌&&◌, List, ◌≡◌, eqb, leb, ltb}
use Rattle.bounded.specs.Below.{first_below}
use Rattle.layout.specs.declared.Sizes.{Sizes}
use Rattle.layout.specs.Layout.{sizes_ok}
use Rattle.masks.specs.Lines.{in_mask}
use Rattle.state.specs.State.{State}
use Rattle.state.specs.Slots.{slot_of_page}
use Rattle.state.specs.Held.{held_at}
use Rattle.meters.specs.Meters.{first_meter, own_meter}
use Rattle.wording.specs.Calls.{takes_writer, takes_page, takes_line, event}
use Rattle.reasons.specs.declared.Reason.{Reason}

-- 14: whether writer v, other than w, holds line l of slot s; 18: whether v holds a line of slot s
abbrev pub holds_line : List ℕ → ℕ → ℕ → ℕ → ℕ → Bool
holds_line held w s l v = not (eqb v w) && in_mask (held_at held v s) l

abbrev pub holds_slot : List ℕ → ℕ → ℕ → Bool
holds_slot held s v = not (eqb (held_at held v s) 0)

-- the slot of page p; 16 where it has none, or the sizes are out of their ranges
unfoldable pub slot_met : Sizes → List ℕ → ℕ → ℕ
slot_met z page p = cond (sizes_ok z && ltb (slot_of_page z page p) z.slots) (slot_of_page z page p) 16

-- the lowest writer in the way, 4 where there is none
unfoldable pub line_holder : State → ℕ → ℕ → ℕ → ℕ
line_holder st w p l =
    let s = slot_met st.sizes st.table.page p in
    cond (ltb s 16 && leb l 63) (first_below 4 (holds_line st.writers.held w s l)) 4

unfoldable pub page_holder : State → ℕ → ℕ
page_holder st p =
    let s = slot_met st.sizes st.table.page p in
    cond (ltb s 16) (first_below 4 (holds_slot st.writers.held s)) 4

-- of an event, which writes one or two lines of page 0 as writer 1
unfoldable pub event_holder : State → ℕ → ℕ → ℕ
event_holder st k m = min (line_holder st 1 0 (first_meter k m)) (line_holder st 1 0 (own_meter k m))

-- of call c turned back with n, given writer w, page p and line l, or as an event kind k and meter m
unfoldable pub holder_met : State → ℕ → ℕ → ℕ → ℕ → ℕ → ℕ → ℕ → ℕ
holder_met st c n w p l k m =
    cond (eqb n 14) (cond (eqb c event) (event_holder st k m) (line_holder st w p l)) (cond (eqb n 18) (page_holder st p) 0)

-- its reason; a writer, page or line that it is not given is 0
unfoldable pub reason_met : State → ℕ → ℕ → ℕ → ℕ → ℕ → ℕ → ℕ → Reason
reason_met st c n w p l k m =
    record {
      call = c;
      number = n;
      writer = cond (takes_writer c) w 0;
      page = cond (takes_page c) p 0;
      line = cond (takes_line c) l 0;
      holder = holder_met st c n w p l k m;
    }

-- v is the lowest of the four writers that stand in the way
pub record Lowest (in_the_way : ℕ → Bool) (v : ℕ) : Type 0 where
  pub writer : v < 4
  pub stands : in_the_way v ≡ true
  pub lowest : (u : ℕ) → u < v → in_the_way u ≡ false
