-- A line's bytes in their buffer, and where the bytes bring the program.
use Prim.Native.Nat.{ℕ, ◌+◌, ◌%◌, ◌^◌, ◌<◌, ◌≤◌}
use mathlib.Core.Bool.{Bool, true, false}
use mathlib.Core.List.{List, [], ◌∷◌, ◌++◌}
use mathlib.Core.Path.{◌≡◌, refl, sym, ap, subst, ◌∙◌}
use native.Mathlib.Numerals.{add-one}
use native.Mathlib.Omega.{arith}
use lib.Dec.{leb}
use lib.ListN.{length, take, get_or, set, replicate, length-append, length-set, get_or-replicate}
use lib.Seq.{take_all, take-append-le, take-suc, take-suc-set, length-take-le}
use borrow.Author.Tests.{leb-true, leb-false, eq-eqb, ne_eqb}
use Rattle.bounded.proofs.Tests.{case_on, contradicts}
use Rattle.cutting.specs.Buffers.{Holds}
use Rattle.cutting.specs.Feeding.{Fed, fed_byte, fed, ended}
use Rattle.cutting.proofs.Buffers.{holds-length}
use Rattle.cutting.proofs.Feeding.{fed-append}
use Rattle.text.proofs.LongLine.{cut_line}
use Rattle.executing.specs.declared.Mode.{Mode}
use Rattle.executing.specs.Called.{Machine, machine_at}
use Rattle.script.specs.Performed.{started}
use Rattle.wear.specs.Performs.{NarrowMachine}
use Rattle.wear_lines.specs.Lines.{Work, opening, first, act}
use Rattle.wear_lines.specs.Stands.{Stands, Acts, PutResponse}
use Rattle.wear_by_frame.specs.declared.Reading.{Reading}
use Rattle.wear_by_frame.specs.Program.{nothing_read, Shows, Sound, Takes, TakesSome, Closes, Responds}

-- ---- the line buffer

module _ {line : List ℕ} {kept : ℕ} {begun : List ℕ} (b : ℕ) (h : Holds line kept begun) where
  holds-byte : kept < length line → Holds (set line kept b) (kept + 1) (begun ++ (b ∷ []))
  holds-byte some =
      let size = length-set line kept b in
      let n : kept ≡ length begun = omega (arith, holds-length h) in
      let e : take (kept + 1) (set line kept b) ≡ take kept line ++ (b ∷ []) = rw add-one (take-suc-set line kept b some) in
      record {
        within = omega (arith, size);
        bytes =
            e
            ∙ ap (λ (t : List ℕ). t ++ (b ∷ [])) (h.bytes ∙ take_all (length line) begun (omega arith))
            ∙ sym (take_all (length (set line kept b)) (begun ++ (b ∷ [])) (omega (arith, length-append begun (b ∷ []), size)));
      }

  holds-full : length line ≤ kept → Holds line kept (begun ++ (b ∷ []))
  holds-full full =
      record {
        within = h.within;
        bytes = h.bytes ∙ sym (take-append-le (length line) begun (b ∷ []) (omega (arith, holds-length h)));
      }

-- nothing has come of a line
holds-none : (line : List ℕ) → Holds line 0 []
holds-none line = record { within = omega arith; bytes = sym (take_all (length line) [] (omega arith)) }

-- a long line is taken by its start: it parts no inputs, and it is of no right form
cut-act : (w : Work) (line : List ℕ) → act w (take 1024 line) ≡ act w line
unfolding act
cut-act w line =
    case_on (leb (length line) 1024)
    (λ t. ap (act w) (take_all 1024 line (leb-true (length line) 1024 t)))
    (λ t.
    let l : 1024 < length line = leb-false (length line) 1024 t in
    let size : length (take 1024 line) ≡ 1024 = length-take-le 1024 line (omega arith) in
    rw (size, ne_eqb (length line) 1 (λ e. omega (arith, e, l)), cut_line 9 1024 line (omega arith)))

module _ {m : Machine} {img counts line : List ℕ} (size : length line ≡ 1024) where
  -- a line that ends is taken by what the buffer has of it
  acts : {m' : Machine} {img' counts' : List ℕ} (kept : ℕ) → Acts m img counts (take kept line) m' img' counts' → (f : Fed Work) → Stands m img counts f.done
      → Holds line kept f.begun → Stands m' img' counts' (act f.done f.begun)
  acts {m'} {img'} {counts'} kept a f s h =
      let e : act f.done (take kept line) ≡ act f.done f.begun =
      ap (act f.done) (h.bytes ∙ ap (λ (n : ℕ). take n f.begun) size) ∙ cut-act f.done f.begun in
      subst (Stands m' img' counts') e (a.stands f.done s)

-- ---- a byte

module _ {s : Reading} {ws img counts line : List ℕ} (size : length line ≡ 1024) (b : ℕ) where
  pub takes-newline : b ≡ 10 → (r : Mode) (ws' img' counts' : List ℕ)
      → Acts (machine_at s.mode ws) img counts (take s.kept line) (machine_at r ws') img' counts'
      → Takes s ws img counts line (b ∷ []) (record { mode = r; kept = 0; more = s.more }) ws' img' counts' line
  unfolding fed fed_byte
  takes-newline n r ws' img' counts' a =
      record {
        shows = λ f shows. rw n (record { done = acts size s.kept a f shows.done shows.next; next = holds-none line });
        sound = record { fits = omega arith; narrow = a.narrow };
      }

  pub takes-full : (b ≡ 10 → ⊥) → 1024 ≤ s.kept → Sound s ws → Takes s ws img counts line (b ∷ []) s ws img counts line
  unfolding fed fed_byte
  takes-full n full sound =
      record {
        shows = λ f shows. rw (ne_eqb b 10 n) (record { done = shows.done; next = holds-full b shows.next (omega arith) });
        sound = sound;
      }

  pub takes-byte : (b ≡ 10 → ⊥) → s.kept < 1024 → Sound s ws
      → Takes s ws img counts line (b ∷ []) (record { mode = s.mode; kept = s.kept + 1; more = s.more }) ws img counts (set line s.kept b)
  unfolding fed fed_byte
  takes-byte n some sound =
      record {
        shows = λ f shows. rw (ne_eqb b 10 n) (record { done = shows.done; next = holds-byte b shows.next (omega arith) });
        sound = record { fits = omega arith; narrow = sound.narrow };
      }

-- ---- more bytes

module _ {s : Reading} {ws img counts line : List ℕ} where
  pub takes_none : Sound s ws → Takes s ws img counts line [] s ws img counts line
  unfolding fed
  takes_none h = record { shows = λ f shows. shows; sound = h }

  -- whether there is more to read is no part of it
  pub takes-more : {bytes : List ℕ} {r : Reading} {ws' img' counts' line' : List ℕ} (more : Bool) → Takes s ws img counts line bytes r ws' img' counts' line'
      → Takes s ws img counts line bytes (record { mode = r.mode; kept = r.kept; more = more }) ws' img' counts' line'
  takes-more more g =
      record {
        shows = λ f shows.
            let h = g.shows f shows in record { done = h.done; next = h.next };
        sound = record { fits = g.sound.fits; narrow = g.sound.narrow };
      }

  pub takes-then : {a b : List ℕ} {q r : Reading} {ws' img' counts' line' ws'' img'' counts'' line'' : List ℕ} → Takes s ws img counts line a q ws' img' counts' line'
      → Takes q ws' img' counts' line' b r ws'' img'' counts'' line'' → Takes s ws img counts line (a ++ b) r ws'' img'' counts'' line''
  takes-then {a = a} g h = record { shows = λ f shows. rw fed-append (h.shows (fed act f a) (g.shows f shows)); sound = h.sound }

  module _ (piece : List ℕ) (i : ℕ) {q : Reading} {ws' img' counts' line' : List ℕ} (g : Takes s ws img counts line (take i piece) q ws' img' counts' line') where
    pub takes-next : i < length piece → {r : Reading} {ws'' img'' counts'' line'' : List ℕ}
        → Takes q ws' img' counts' line' (get_or piece i 0 ∷ []) r ws'' img'' counts'' line'' → Takes s ws img counts line (take (i + 1) piece) r ws'' img'' counts'' line''
    takes-next some h = rw (add-one, take-suc piece i 0 some) (takes-then g h)

    pub takes_all : length piece ≤ i → Takes s ws img counts line piece q ws' img' counts' line'
    takes_all end = rw (take_all i piece end) at g

-- ---- the input's end

module _ {s : Reading} {ws img counts line : List ℕ} (size : length line ≡ 1024) where
  pub closes-none : s.kept ≡ 0 → Closes s ws img counts line s.mode ws img counts
  unfolding ended
  closes-none h =
      record {
        done = λ f shows.
            let none : length f.begun ≡ 0 = omega (arith, holds-length shows.next) in
            rw (eq-eqb (length f.begun) 0 none) shows.done;
      }

  pub closes-some : (s.kept ≡ 0 → ⊥) → (r : Mode) (ws' img' counts' : List ℕ)
      → Acts (machine_at s.mode ws) img counts (take s.kept line) (machine_at r ws') img' counts' → Closes s ws img counts line r ws' img' counts'
  unfolding ended
  closes-some h r ws' img' counts' a =
      record {
        done = λ f shows.
            rw (ne_eqb (length f.begun) 0 (λ none. h (omega (arith, none, holds-length shows.next)))) (acts size s.kept a f shows.done shows.next);
      }

-- ---- before the first byte

module _ (m : Mode) (more : Bool) (ws img img' : List ℕ) (e : machine_at m ws ≡ started) (q : img' ≡ replicate (length img) 0) where
  abbrev begins : Reading
  begins = record { mode = m; kept = 0; more = more }

  pub sound-first : Sound begins ws
  sound-first = record { fits = omega arith; narrow = subst NarrowMachine (sym e) (λ f. contradicts f refl) }

  pub shows_first : (line : List ℕ) → Shows begins ws img' (replicate 22 0) line (nothing_read (length img))
  unfolding opening
  shows_first line =
      record {
        done = record { machine = e; image = q; sums = λ k l. get_or-replicate 22 k 0 0 l ∙ sym (ap (λ (x : ℕ). x % 2 ^ 64) (get_or-replicate 22 k 0 0 l)) };
        next = holds-none line;
      }

pub responds : {size : ℕ} {s q : Reading} {r : Mode} {ws₁ img₁ counts₁ line₁ ws₂ img₂ counts₂ line₂ ws₃ img₃ counts₃ out out' : List ℕ} {n : ℕ}
    → Shows s ws₁ img₁ counts₁ line₁ (nothing_read size) → TakesSome s ws₁ img₁ counts₁ line₁ q ws₂ img₂ counts₂ line₂
    → Closes q ws₂ img₂ counts₂ line₂ r ws₃ img₃ counts₃ → PutResponse counts₃ out out' n → Responds size out out' n
responds {size = size} {r = r} {ws₃ = ws₃} {img₃ = img₃} shows reads ends put =
    record {
      input = reads.bytes;
      text = put.text (machine_at r ws₃) img₃ (ended act (fed act (nothing_read size) reads.bytes))
          (ends.done (fed act (nothing_read size) reads.bytes) (reads.goes.shows (nothing_read size) shows));
    }
