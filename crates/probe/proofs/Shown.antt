-- Where the program stands after a line, and at a place of a piece.
use Rattle.std.proofs.Common.{◌≡◌, ℕ, ◌+◌, ◌-◌, ◌%◌, ◌^◌, ◌<◌, ◌≤◌, leb, List, [], ◌∷◌, ◌++◌, length, take, drop, sym, refl, ap, ◌∙◌, subst, arith, length-drop, drop_of_length-le, take_all, eq-eqb, ne_eqb}
use Rattle.bounded.proofs.Tests.{case_on}
use Rattle.words.specs.Words.{part, over}
use Rattle.cutting.specs.Pieces.{line_end, fitting}
use Rattle.cutting.specs.Buffers.{Ends}
use Rattle.cutting.specs.Feeding.{Fed, fed, fed_byte, ended}
use Rattle.cutting.proofs.Cutting.{end-le, end_ge}
use Rattle.cutting.proofs.Feeding.{fed-append, fed-line, fed-rest}
use Rattle.cutting.proofs.Buffers.{holds-none, holds-length, holds_more, ends-none, ends_more}
use Rattle.text.specs.Fields.{parsed}
use Rattle.text.proofs.LongLine.{cut_line}
use Rattle.number_text.specs.Text.{Put}
use Rattle.workbench.specs.declared.moduli.Moduli.{Moduli}
use Rattle.probe.specs.declared.Session.{Session}
use Rattle.probe.specs.Program.{Work, act, Stand, stand, bench_in, Shows, Takes, Reads, TakesSome, Closes, bench_after, bytes_after, line_text, roomed}

-- ---- a line that was kept, and its newline

abbrev kept_line : Stand → List ℕ
kept_line p = take p.session.kept p.line

-- what is kept is read as the whole line would be
kept-parsed : (p : Stand) (f : Fed Work) → Shows p f → 1450 < length p.line → parsed 20 (kept_line p) ≡ parsed 20 f.begun
kept-parsed p f h long = ap (parsed 20) h.begun.bytes ∙ cut_line 20 (length p.line) f.begun (omega arith)

-- what `line_reading::perform` does, and the session after it
pub record Performed (p q : Stand) : Type 0 where
  pub lines : q.session.lines ≡ (p.session.lines + 1) % 2 ^ 64
  pub kept : q.session.kept ≡ 0
  pub bench : bench_in q ≡ bench_after (bench_in p) p.buffer (kept_line p)
  pub buffer : q.buffer ≡ bytes_after (bench_in p) p.buffer (kept_line p)
  pub text : Put p.out (roomed p.session.at) (line_text (bench_in p) p.buffer (kept_line p) q.session.lines) q.out q.session.at
  pub same_size : length q.out ≡ length p.out

-- what waits, once there is room
ends-roomed : {out : List ℕ} {at : ℕ} {printed : List ℕ} → Ends out at printed → Ends out (roomed at) printed
ends-roomed {out} {at} {printed} h = case_on (leb at 36000) (λ t. rw t h) (λ t. rw t (ends-none out printed))

pub shows-performed : (p q : Stand) → 1450 < length p.line → roomed p.session.at ≤ length p.out → Performed p q
    → Takes p (10 ∷ []) q
unfolding fed fed_byte act
shows-performed p q long room d f h =
    let e = kept-parsed p f h long in
    let n = d.lines ∙ ap (λ (k : ℕ). (k + 1) % 2 ^ 64) h.lines in
    let text : List ℕ = line_text f.done.bench f.done.buffer f.begun ((f.done.lines + 1) % 2 ^ 64) in
    let t : Put p.out (roomed p.session.at) text q.out q.session.at = rw (← h.bench, ← h.buffer, ← e, ← n) d.text in
    record {
      bench = rw (← h.bench, ← h.buffer, ← e) d.bench;
      buffer = rw (← h.bench, ← h.buffer, ← e) d.buffer;
      lines = n;
      waiting = t.place ∙ ap (λ (k : ℕ). roomed k + length text) h.waiting;
      begun = rw d.kept (holds-none q.line);
      unwritten = rw (t.laid, t.place) (ends_more text (ends-roomed h.unwritten) room (ap length (sym t.laid) ∙ d.same_size));
    }

-- ---- a place of a piece

-- q stands where p comes to before the bytes `rest` of a piece
pub Before : Stand → List ℕ → Stand → List ℕ → Type 0
Before p piece q rest = (f : Fed Work) → Shows p f → (g : Fed Work) × Shows q g × (fed act g rest ≡ fed act f piece)

pub before-first : (p : Stand) (piece : List ℕ) → Before p piece p (drop 0 piece)
unfolding Before
before-first p piece f h = (f, h, refl)

pub before-end : (p q : Stand) (piece : List ℕ) (from : ℕ) → length piece ≤ from → Before p piece q (drop from piece) → Takes p piece q
unfolding Before fed
before-end p q piece from e b f h =
    let (g, k, t) = b f h in
    subst (Shows q) (rw (drop_of_length-le piece {i = from} e) at t) k

part-rest : (l : List ℕ) (a : ℕ) → part l a (length l - a) ≡ drop a l
unfolding part
part-rest l a = take_all (length l - a) (drop a l) (omega (arith, length-drop a l))

-- of a line that goes on at `from` and ends at `end`, as much as fits is put behind what is kept
pub record More (p : Stand) (piece : List ℕ) (s : Session) (buffer words : List ℕ) (table : Moduli) (line out : List ℕ) (from end : ℕ) (line' : List ℕ) (k : ℕ) : Type 0 where
  pub inside : from < length piece
  pub found : end ≡ line_end piece from
  pub laid : line' ≡ over line s.kept (fitting line s.kept piece from end)
  pub count : k ≡ s.kept + length (fitting line s.kept piece from end)
  pub before : Before p piece (stand s buffer words table line out) (drop from piece)

abbrev with_kept : Session → ℕ → Session
with_kept s k = record { lent = s.lent; lines = s.lines; kept = k; at = s.at; more = s.more }

module _
    {p : Stand}
    {piece : List ℕ}
    {s : Session}
    {buffer words : List ℕ}
    {table : Moduli}
    {line out : List ℕ}
    {from end : ℕ}
    {line' : List ℕ}
    {k : ℕ}
    (m : More p piece s buffer words table line out from end line' k) where
  shows_kept : (g : Fed Work) → Shows (stand s buffer words table line out) g
      → Shows (stand (with_kept s k) buffer words table line' out) (record { done = g.done; begun = g.begun ++ part piece from (end - from) })
  shows_kept g h =
      record {
        bench = h.bench;
        buffer = h.buffer;
        lines = h.lines;
        waiting = h.waiting;
        begun = rw (m.laid, m.count) (holds_more piece from end h.begun);
        unwritten = h.unwritten;
      }

  -- the line ends here and is performed
  pub before-line : {q : Stand} → end < length piece → Takes (stand (with_kept s k) buffer words table line' out) (10 ∷ []) q
      → Before p piece q (drop (end + 1) piece)
  unfolding Before fed fed_byte
  before-line {q} more t f h =
      let (g, d, e) = m.before f h in
      let l : line_end piece from < length piece = omega (arith, m.found) in
      (_, t _ (shows_kept g d), rw m.found (sym (fed-line act g piece from (omega (arith, m.inside)) l) ∙ e))

  pub less-left : end < length piece → length piece - (end + 1) < length piece - from
  less-left more = omega (arith, m.inside, m.found, end_ge piece from (omega (arith, m.inside)))

  -- it goes on past the piece
  pub before-rest : length piece ≤ end → Takes p piece (stand (with_kept s k) buffer words table line' out)
  unfolding Before
  before-rest none f h =
      let (g, d, e) = m.before f h in
      let whole : end ≡ length piece = omega (arith, m.found, end-le piece from) in
      let rest : part piece from (end - from) ≡ drop from piece = rw whole (part-rest piece from) in
      subst (Shows (stand (with_kept s k) buffer words table line' out))
      (ap (λ (l : List ℕ). record { done = g.done; begun = g.begun ++ l }) rest
      ∙ sym (fed-rest act g piece from (omega (arith, m.inside)) (sym m.found ∙ whole))
      ∙ e)
      (shows_kept g d)

-- ---- the input's end

module _ (p : Stand) (some : 0 < length p.line) where
  pub closes-none : p.session.kept ≡ 0 → Closes p p
  unfolding ended
  closes-none e f h =
      let n : length f.begun ≡ 0 = omega (arith, holds-length h.begun) in
      let none : f.begun ≡ [] = drop_of_length-le f.begun {i = 0} (omega arith) in
      rw (eq-eqb (length f.begun) 0 n)
      (subst (λ (l : List ℕ). Shows p (record { done = f.done; begun = l })) none h)

  pub closes-line : (q : Stand) → (p.session.kept ≡ 0 → ⊥) → Takes p (10 ∷ []) q → Closes p q
  unfolding ended fed fed_byte
  closes-line q e t f h =
      let n : length f.begun ≡ 0 → ⊥ = λ z. e (omega (arith, holds-length h.begun)) in
      rw (ne_eqb (length f.begun) 0 n) (t f h)

-- ---- piece after piece

pub takes_none : (p : Stand) → TakesSome p p
unfolding fed
takes_none p = ([], λ f h. h)

pub takes-more : (p q r : Stand) (input : List ℕ) → TakesSome p q → Reads q input r → TakesSome p r
takes-more p q r input (a, s) (n, t) = (a ++ take n input, λ f h. rw (fed-append act) (t (fed act f a) (s f h)))
