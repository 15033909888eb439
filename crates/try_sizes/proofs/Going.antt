-- A line's bytes in their buffer, and where the bytes bring the program.
use Prim.Native.Nat.{ℕ, ◌+◌, ◌<◌, ◌≤◌}
use mathlib.Core.Bool.{Bool}
use mathlib.Core.List.{List, [], ◌∷◌, ◌++◌}
use mathlib.Core.Path.{◌≡◌, sym, ap, ◌∙◌}
use native.Mathlib.Numerals.{add-one}
use native.Mathlib.Omega.{arith}
use lib.ListN.{length, take, get_or, set, replicate, length-append, length-set}
use lib.Seq.{take_all, take-take, take-append-le, take-suc, take-suc-set}
use borrow.Author.Tests.{eq-eqb, ne_eqb}
use Rattle.cutting.specs.Buffers.{Holds}
use Rattle.cutting.specs.Feeding.{Fed, fed_byte, fed, ended}
use Rattle.cutting.proofs.Buffers.{holds-length}
use Rattle.cutting.proofs.Feeding.{fed-append}
use Rattle.text.specs.declared.Line.{Line}
use Rattle.text.specs.Fields.{parsed}
use Rattle.text.proofs.LongLine.{cut_line}
use Rattle.number_text.proofs.Puts.{put_as}
use Rattle.trial_lines.specs.declared.Session.{Session}
use Rattle.trial_lines.specs.Lines.{Work, work_of, first, prefixed, numbers_of, acted, act, response, PutResponse}
use Rattle.try_sizes.specs.declared.Reading.{Reading}
use Rattle.try_sizes.specs.Program.{nothing_read, Shows, Takes, TakesSome, Closes, Responds}

-- ---- the line buffer

module _ {line : List ℕ} {kept : ℕ} {begun : List ℕ} (b : ℕ) (h : Holds line kept begun) where
  holds-byte : kept < length line → Holds (set line kept b) (kept + 1) (begun ++ (b ∷ []))
  holds-byte some =
      let size = length-set line kept b in
      let n : kept ≡ length begun = omega (arith, holds-length h) in
      let e : take (kept + 1) (set line kept b) ≡ take kept line ++ (b ∷ []) = rw add-one (take-suc-set line kept b some) in
      record {
        within = omega (arith, size);
        bytes =
            e
            ∙ ap (λ (t : List ℕ). t ++ (b ∷ [])) (h.bytes ∙ take_all (length line) begun (omega arith))
            ∙ sym (take_all (length (set line kept b)) (begun ++ (b ∷ [])) (omega (arith, length-append begun (b ∷ []), size)));
      }

  holds-full : length line ≤ kept → Holds line kept (begun ++ (b ∷ []))
  holds-full full =
      record {
        within = h.within;
        bytes = h.bytes ∙ sym (take-append-le (length line) begun (b ∷ []) (omega (arith, holds-length h)));
      }

-- a letter and a comma stand before the line
pub holds-first : (line : List ℕ) → length line ≡ 1024 → Holds (set (set line 0 82) 1 44) 2 (prefixed [])
holds-first [] size = absurd (omega arith)
holds-first (x ∷ []) size = absurd (omega arith)
holds-first (x ∷ y ∷ l) size = record { within = omega arith; bytes = sym (take_all (length (x ∷ y ∷ l)) (prefixed []) (omega arith)) }

module _ {line : List ℕ} {kept : ℕ} {begun : List ℕ} (h : Holds line kept (prefixed begun)) (size : length line ≡ 1024) where
  -- and stay there
  holds-again : Holds line 2 (prefixed [])
  holds-again =
      record {
        within = omega arith;
        bytes =
            sym (take-take 2 kept line (omega (arith, holds-length h)))
            ∙ ap (take 2) h.bytes
            ∙ take-take 2 (length line) (prefixed begun) (omega arith)
            ∙ sym (take_all (length line) (prefixed []) (omega arith));
      }

  -- a long line is read by its start
  line-told : parsed 9 (take kept line) ≡ numbers_of begun
  line-told = ap (parsed 9) h.bytes ∙ rw size (cut_line 9 1024 (prefixed begun) (omega arith))

module _ {s : Reading} {ws img line : List ℕ} (size : length line ≡ 1024) where
  -- a line that ends is taken by what the buffer has of it
  acts : (r : Session) (ws' img' : List ℕ) → work_of r ws' img' ≡ acted (parsed 9 (take s.kept line)) (work_of s.session ws img)
      → (f : Fed Work) → Shows s ws img line f → work_of r ws' img' ≡ act f.done f.begun
  acts r ws' img' e f shows = e ∙ ap (λ (q : Line). acted q (work_of s.session ws img)) (line-told shows.next size) ∙ rw shows.done

-- ---- a byte

module _ {s : Reading} {ws img line : List ℕ} (size : length line ≡ 1024) (b : ℕ) where
  pub takes-newline : b ≡ 10 → (r : Session) (ws' img' : List ℕ) → work_of r ws' img' ≡ acted (parsed 9 (take s.kept line)) (work_of s.session ws img)
      → Takes s ws img line (b ∷ []) (record { session = r; kept = 2; more = s.more }) ws' img' line
  unfolding fed fed_byte
  takes-newline n r ws' img' e =
      record {
        shows = λ f shows. rw n (record { done = acts size r ws' img' e f shows; next = holds-again shows.next size });
        fits = omega arith;
      }

  pub takes-full : (b ≡ 10 → ⊥) → 1024 ≤ s.kept → s.kept ≤ 1024 → Takes s ws img line (b ∷ []) s ws img line
  unfolding fed fed_byte
  takes-full n full fits =
      record {
        shows = λ f shows. rw (ne_eqb b 10 n) (record { done = shows.done; next = holds-full b shows.next (omega arith) });
        fits = fits;
      }

  pub takes-byte : (b ≡ 10 → ⊥) → s.kept < 1024 → Takes s ws img line (b ∷ []) (record { session = s.session; kept = s.kept + 1; more = s.more }) ws img (set line s.kept b)
  unfolding fed fed_byte
  takes-byte n some =
      record {
        shows = λ f shows. rw (ne_eqb b 10 n) (record { done = shows.done; next = holds-byte b shows.next (omega arith) });
        fits = omega arith;
      }

-- ---- more bytes

module _ {s : Reading} {ws img line : List ℕ} where
  pub takes_none : s.kept ≤ 1024 → Takes s ws img line [] s ws img line
  unfolding fed
  takes_none h = record { shows = λ f shows. shows; fits = h }

  -- whether there is more to read is no part of it
  pub takes-more : {bytes : List ℕ} {r : Reading} {ws' img' line' : List ℕ} (more : Bool) → Takes s ws img line bytes r ws' img' line'
      → Takes s ws img line bytes (record { session = r.session; kept = r.kept; more = more }) ws' img' line'
  takes-more more g =
      record {
        shows = λ f shows.
            let h = g.shows f shows in record { done = h.done; next = h.next };
        fits = g.fits;
      }

  pub takes-then : {a b : List ℕ} {q r : Reading} {ws' img' line' ws'' img'' line'' : List ℕ}
      → Takes s ws img line a q ws' img' line' → Takes q ws' img' line' b r ws'' img'' line'' → Takes s ws img line (a ++ b) r ws'' img'' line''
  takes-then {a = a} g h = record { shows = λ f shows. rw fed-append (h.shows (fed act f a) (g.shows f shows)); fits = h.fits }

  module _ (piece : List ℕ) (i : ℕ) {q : Reading} {ws' img' line' : List ℕ} (g : Takes s ws img line (take i piece) q ws' img' line') where
    pub takes-next : i < length piece → {r : Reading} {ws'' img'' line'' : List ℕ} → Takes q ws' img' line' (get_or piece i 0 ∷ []) r ws'' img'' line''
        → Takes s ws img line (take (i + 1) piece) r ws'' img'' line''
    takes-next some h = rw (add-one, take-suc piece i 0 some) (takes-then g h)

    pub takes_all : length piece ≤ i → Takes s ws img line piece q ws' img' line'
    takes_all end = rw (take_all i piece end) at g

-- ---- the input's end

module _ {s : Reading} {ws img line : List ℕ} (size : length line ≡ 1024) where
  pub closes-none : s.kept ≤ 2 → Closes s ws img line s.session ws img
  unfolding ended
  closes-none h =
      record {
        done = λ f shows.
            let none : length f.begun ≡ 0 = omega (arith, holds-length shows.next) in
            rw (eq-eqb (length f.begun) 0 none) shows.done;
      }

  pub closes-some : 2 < s.kept → (r : Session) (ws' img' : List ℕ) → work_of r ws' img' ≡ acted (parsed 9 (take s.kept line)) (work_of s.session ws img)
      → Closes s ws img line r ws' img'
  unfolding ended
  closes-some h r ws' img' e =
      record {
        done = λ f shows.
            rw (ne_eqb (length f.begun) 0 (λ none. omega (arith, holds-length shows.next))) (acts size r ws' img' e f shows);
      }

pub shows_first : (s : Session) (img line : List ℕ) (more : Bool) → length line ≡ 1024 → work_of s (replicate 1280 0) img ≡ first img
    → Shows (record { session = s; kept = 2; more = more }) (replicate 1280 0) img (set (set line 0 82) 1 44) (nothing_read img)
shows_first s img line more size e = record { done = e; next = holds-first line size }

pub responds : {s q : Reading} {r : Session} {ws₁ img line₁ ws₂ img₂ line₂ ws₃ img₃ out out' : List ℕ} {n : ℕ} → Shows s ws₁ img line₁ (nothing_read img)
    → TakesSome s ws₁ img line₁ q ws₂ img₂ line₂ → Closes q ws₂ img₂ line₂ r ws₃ img₃ → PutResponse r out out' n → Responds img out out' n
responds {img = img} {ws₃ = ws₃} {img₃ = img₃} shows reads ends put =
    record {
      input = reads.bytes;
      text = put_as (ap response (ends.done (fed act (nothing_read img) reads.bytes) (reads.goes.shows (nothing_read img) shows))) (put.text ws₃ img₃);
    }
