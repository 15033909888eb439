-- A session and its buffers, and where the bytes bring them.
use Rattle.std.proofs.Common.{◌≡◌, ℕ, ◌+◌, ◌-◌, ◌%◌, ◌^◌, ◌<◌, ◌≤◌, min, Bool, true, leb, List, [], ◌∷◌, ◌++◌, length, take, drop, set, sym, refl, ap, ◌∙◌, append-nil, add-one, arith, length-drop, length-set, drop_of_length-le, length-take, length-take-le, take_all, take-take, take-suc-set, take_at, drop_at, ne_eqb, le-leb, leb-false, leb-true}
use Rattle.bounded.proofs.Tests.{case_on}
use Rattle.words.specs.Words.{part, over}
use Rattle.cutting.specs.Pieces.{line_end, fitting}
use Rattle.cutting.specs.Buffers.{Holds, Ends}
use Rattle.cutting.specs.Feeding.{Fed, fed_byte, fed, ended}
use Rattle.cutting.proofs.Buffers.{holds-none, holds-length, holds_more, ends-none, ends_more}
use Rattle.cutting.proofs.Cutting.{end-here}
use Rattle.cutting.proofs.Feeding.{fed-append, fed-line, fed-to, fed-rest}
use Rattle.text.proofs.LongLine.{cut_line}
use Rattle.printing.specs.Output.{output_line}
use Rattle.executing.specs.Called.{Machine}
use Rattle.script.specs.Performed.{line_turn, Performance, performed}
use Rattle.powerhit.specs.declared.Session.{Session}
use Rattle.powerhit.specs.Program.{Work, roomed, act, first, Stands, Shows, Takes, Lines, Closes, TakesSome, Ran}

-- ---- a line more

-- a long line is performed by its start
act-cut : (w : Work) (n : ℕ) (line : List ℕ) → 691 < n → act w (take n line) ≡ act w line
unfolding act
act-cut w n line h = rw (cut_line 9 n line h)

roomed-low : (at : ℕ) → roomed at ≤ 65000
roomed-low at = case_on (leb at 65000) (λ t. rw t (leb-true at 65000 t)) (λ t. rw t (omega arith))

-- all that waits is written, or nothing
ends-room : {out : List ℕ} {at : ℕ} {printed : List ℕ} → Ends out at printed → Ends out (roomed at) printed
ends-room {out} {at} {printed} h = case_on (leb at 65000) (λ t. rw t h) (λ t. rw t (ends-none out printed))

-- with room for what it prints
act-stands : (w : Work) (line out : List ℕ) → Ends out (roomed w.waiting) w.printed → roomed w.waiting ≤ length out
    → (let t = line_turn w.machine w.image line in
    let n = (w.lines + 1) % 2 ^ 64 in
    let at = roomed w.waiting in
    let text = output_line n t.output in
    length (over out at text) ≡ length out → Stands t.machine n (at + length text) t.image (over out at text) (act w line))
unfolding act
act-stands w line out h r k = record { machine = refl; image = refl; lines = refl; waiting = refl; unwritten = ends_more _ h r k }

stands-line : {m : Machine} {n at : ℕ} {img out : List ℕ} {w : Work} → Stands m n at img out w
    → (line : List ℕ) (room k : ℕ) (p : Performance) → room ≡ roomed at → length out ≡ 65536 → length p.out ≡ 65536
    → k ≡ (n + 1) % 2 ^ 64 → p ≡ performed m img k line out room
    → Stands p.machine k p.end p.image p.out (act w line)
unfolding performed
stands-line {at = at} {out = out} {w = w} stands line room k p made size size' e h =
    let low : room ≤ 65000 = rw made (roomed-low at) in
    let t : leb (room + 67) (length out) ≡ true = le-leb (room + 67) (length out) (omega arith) in
    let a : room ≡ roomed w.waiting = made ∙ ap roomed stands.waiting in
    let q = rw (t, e, stands.machine, stands.image, stands.lines, a) at h in
    let s = rw q at size' in
    let u : Ends out (roomed at) w.printed = ends-room stands.unwritten in
    rw (q, e, stands.lines) (act-stands w line out (rw stands.waiting at u) (omega arith) (s ∙ sym size))

-- ---- the lines of a piece

-- how far the lines of a piece are: this work is done, and the line that begins at `start` has come up to `end`
pub record Reached (m : Machine) (n at : ℕ) (img out piece : List ℕ) (start end : ℕ) (bytes : Fed Work) : Type 0 where
  pub work : Work
  pub stands : Stands m n at img out work
  pub left : bytes ≡ fed act (record { done = work; begun = part piece start (end - start) }) (drop end piece)

-- past a newline, up to the end of the next line
fed-next : (f : Fed Work) (piece : List ℕ) (end : ℕ) → end ≡ line_end piece end → end < length piece
    → fed act f (drop end piece)
    ≡ fed act (record { done = act f.done f.begun; begun = part piece (end + 1) (line_end piece (end + 1) - (end + 1)) })
    (drop (line_end piece (end + 1)) piece)
unfolding part
fed-next f piece end e h =
    let z : end - end ≡ 0 = omega arith in
    fed-line act f piece end (omega arith) (rw (← e) h)
    ∙ rw (← e, z, append-nil) (fed-to act (record { done = act f.done f.begun; begun = [] }) piece (end + 1) (omega arith))

module _ {m : Machine} {n at : ℕ} {img out piece : List ℕ} {start end : ℕ} {bytes : Fed Work} (reached : Reached m n at img out piece start end bytes) where
  pub reached-line : (room k : ℕ) (p : Performance) (next : ℕ) → end ≡ line_end piece end → end < length piece
      → room ≡ roomed at → length out ≡ 65536 → length p.out ≡ 65536
      → k ≡ (n + 1) % 2 ^ 64
      → p ≡ performed m img k (part piece start (end - start)) out room
      → next ≡ line_end piece (end + 1)
      → Reached p.machine k p.end p.image p.out piece (end + 1) next bytes
  reached-line room k p next e some made size size' count h found =
      let line : List ℕ = part piece start (end - start) in
      record {
        work = act reached.work line;
        stands = stands-line reached.stands line room k p made size size' count h;
        left = reached.left ∙ fed-next (record { done = reached.work; begun = line }) piece end e some ∙ rw (← found);
      }

  -- no newline is left
  pub reached-end : start ≤ end → end ≡ length piece → Stands m n at img out bytes.done × (bytes.begun ≡ drop start piece)
  unfolding part fed
  reached-end h e =
      let all : take (end - start) (drop start piece) ≡ drop start piece = take_all (end - start) (drop start piece) (omega (arith, length-drop start piece)) in
      let none : drop end piece ≡ [] = drop_of_length-le piece {i = end} (omega arith) in
      let f : bytes ≡ record { done = reached.work; begun = drop start piece } = reached.left ∙ rw (all, none) in
      rw f (reached.stands, refl)

-- ---- the line that is kept

no-element : (l : List ℕ) → length l ≡ 0 → l ≡ []
no-element [] e = refl
no-element (x ∷ l) e = absurd (omega arith)

none-begun : {line : List ℕ} {kept : ℕ} {begun : List ℕ} → length line ≡ 2048 → Holds line kept begun → kept ≡ 0 → begun ≡ []
none-begun {begun = begun} n h e = no-element begun (omega (arith, holds-length h))

some-begun : {line : List ℕ} {kept : ℕ} {begun : List ℕ} → Holds line kept begun → (kept ≡ 0 → ⊥) → length begun ≡ 0 → ⊥
some-begun {begun = begun} h e n = e (omega (arith, holds-length h))

-- a line in its buffer, with a newline behind it
module _ (line : List ℕ) (end : ℕ) (inside : end < length line) where
  closed : take (end + 1) (set line end 10) ≡ take end line ++ (10 ∷ [])
  closed = rw add-one (take-suc-set line end 10 inside)

  short : length (take end line) ≡ end
  short = length-take-le end line (omega arith)

  closed-rest : drop end (take (end + 1) (set line end 10)) ≡ 10 ∷ []
  closed-rest = rw closed (drop_at (take end line) (10 ∷ []) end short)

  closed-line : part (take (end + 1) (set line end 10)) 0 (end - 0) ≡ take end line
  unfolding part
  closed-line =
      let z : end - 0 ≡ end = omega arith in
      rw (closed, z) (take_at (take end line) (10 ∷ []) end short)

  pub closed-end : end ≡ line_end (take (end + 1) (set line end 10)) end
  closed-end = end-here (take (end + 1) (set line end 10)) end [] (simp (length-take, length-set) (omega arith)) closed-rest

take-both : (a b : ℕ) (l : List ℕ) → take (min a b) l ≡ take b (take a l)
take-both a b l =
    case_on (leb a b)
    (λ t.
    let h : a ≤ b = leb-true a b t in
    let e : min a b ≡ a = omega arith in
    rw e (sym (take_all b (take a l) (omega (arith, length-take a l)))))
    (λ t.
    let h : b < a = leb-false a b t in
    let e : min a b ≡ b = omega arith in
    rw e (sym (take-take b a l (omega arith))))

-- a newline: its line is performed by what the buffer has of it
pub goes-newline : {s r : Session} {words img line out words' img' line' out' : List ℕ} (end : ℕ) → length line ≡ 2048 → end ≡ min s.kept 2047
    → Lines s words img out (take (end + 1) (set line end 10)) 0 end r words' img' out' → Takes s words img line out (10 ∷ []) r words' img' line' out'
unfolding fed fed_byte
goes-newline {s = s} {line = line} {line' = line'} end size e lines =
    record {
      shows = λ f shows.
          let i : end < length line = omega arith in
          let w = f.done in
          let t : act w (take end line) ≡ act w f.begun =
          ap (act w) (rw e (take-both s.kept 2047 line ∙ rw (shows.next.bytes, size) (take-take 2047 2048 f.begun (omega arith))))
          ∙ act-cut w 2047 f.begun (omega arith) in
          let d = (lines.stands w shows.lines).0 in
          record { lines = rw (← t) (rw (closed-line line end i, closed-rest line end i) at d); next = rw lines.kept (holds-none line') };
    }

-- ---- a last line

module _ {s : Session} {words img line out : List ℕ} where
  pub finishes-none : length line ≡ 2048 → s.kept ≡ 0 → Closes s words img line out s words img out
  unfolding ended
  finishes-none size e = record { stands = λ f shows. rw (none-begun size shows.next e) shows.lines }

  -- one that no newline ends is performed as if one did
  pub finishes-some : {r : Session} {words' img' line' out' : List ℕ} → (s.kept ≡ 0 → ⊥)
      → Takes s words img line out (10 ∷ []) r words' img' line' out' → Closes s words img line out r words' img' out'
  unfolding ended fed fed_byte
  finishes-some e g =
      record { stands = λ f shows. rw (ne_eqb (length f.begun) 0 (some-begun shows.next e)) (g.shows f shows).lines }

-- ---- pieces

module _ {s : Session} {words img line out : List ℕ} where
  pub goes_none : Takes s words img line out [] s words img line out
  unfolding fed
  goes_none = record { shows = λ f shows. shows }

  -- whether there is more to read is no part of it
  pub goes-more : {bytes : List ℕ} {r : Session} {words' img' line' out' : List ℕ} (more : Bool) → Takes s words img line out bytes r words' img' line' out'
      → Takes s words img line out bytes (record { mode = r.mode; lines = r.lines; start = r.start; kept = r.kept; at = r.at; more = more; ok = r.ok })
      words' img' line' out'
  goes-more more g =
      record {
        shows = λ f shows.
            let h = g.shows f shows in record { lines = h.lines; next = h.next };
      }

  pub goes_then : {a b : List ℕ} {q r : Session} {words' img' line' out' words'' img'' line'' out'' : List ℕ}
      → Takes s words img line out a q words' img' line' out' → Takes q words' img' line' out' b r words'' img'' line'' out''
      → Takes s words img line out (a ++ b) r words'' img'' line'' out''
  goes_then {a = a} g h = record { shows = λ f shows. rw fed-append (h.shows (fed act f a) (g.shows f shows)) }

-- a piece whose first line goes on to `end`: q is the session with what the line keeps of it
module _ {s : Session} {words img line out : List ℕ} (piece : List ℕ) (end : ℕ) (q : Session) (line' : List ℕ)
    (found : end ≡ line_end piece 0)
    (bytes : line' ≡ over line s.kept (fitting line s.kept piece 0 end))
    (kept : q.kept ≡ s.kept + length (fitting line s.kept piece 0 end))
    (mode : q.mode ≡ s.mode) (lines : q.lines ≡ s.lines) (at : q.at ≡ s.at) where
  shows-begun : (f : Fed Work) → Shows s words img line out f
      → Shows q words img line' out (record { done = f.done; begun = f.begun ++ part piece 0 (end - 0) })
  shows-begun f shows = record { lines = rw (mode, lines, at) shows.lines; next = rw (bytes, kept) (holds_more piece 0 end shows.next) }

  pub goes-rest : end ≡ length piece → Takes s words img line out piece q words img line' out
  unfolding part
  goes-rest e =
      let all : take (end - 0) piece ≡ piece = take_all (end - 0) piece (omega arith) in
      record { shows = λ f shows. rw (fed-rest act f piece 0 (omega arith) (sym found ∙ e), ← all) (shows-begun f shows) }

  -- then its newline, and the lines after it; what stands after the last newline is kept
  pub goes_lines : {n r t : Session} {words' img' line'' out' words'' img'' line''' out'' : List ℕ} (e : ℕ) → end < length piece
      → Takes q words img line' out (10 ∷ []) n words' img' line'' out'
      → e ≡ line_end piece (end + 1) → Lines n words' img' out' piece (end + 1) e r words'' img'' out''
      → line''' ≡ over line'' 0 (fitting line'' 0 piece r.start (length piece))
      → t.kept ≡ 0 + length (fitting line'' 0 piece r.start (length piece))
      → t.mode ≡ r.mode → t.lines ≡ r.lines → t.at ≡ r.at
      → Takes s words img line out piece t words'' img'' line''' out''
  unfolding fed fed_byte part
  goes_lines {r = r} {line'' = line''} e some g at-e h a b c d k =
      record {
        shows = λ f shows.
            let w = act f.done (f.begun ++ part piece 0 (end - 0)) in
            let n = g.shows _ (shows-begun f shows) in
            let p = h.stands w n.lines in
            let all : take (length piece - r.start) (drop r.start piece) ≡ drop r.start piece =
            take_all (length piece - r.start) (drop r.start piece) (omega (arith, length-drop r.start piece)) in
            let fit = fitting line'' 0 piece r.start (length piece) in
            let m : Holds (over line'' 0 fit) (0 + length fit) (take (length piece - r.start) (drop r.start piece)) =
            holds_more piece r.start (length piece) (holds-none line'') in
            let to = fed-to act (record { done = w; begun = [] }) piece (end + 1) (omega arith) in
            rw (fed-line act f piece 0 (omega arith) (rw found at some), ← found, to, ← at-e)
            (record { lines = rw (c, d, k) p.0; next = rw (a, b, p.1) (rw all at m) });
      }

-- ---- the whole input

pub performs-all : {s q r : Session} {words img line out words' img' line' out' words'' img'' out'' : List ℕ} → Shows s words img line out (first img)
    → TakesSome s words img line out q words' img' line' out' → Closes q words' img' line' out' r words'' img'' out'' → Ran img r words'' img'' out''
performs-all {img = img} shows reads ends =
    record {
      input = reads.bytes;
      stands = ends.stands (fed act (first img) reads.bytes) (reads.goes.shows (first img) shows);
    }
