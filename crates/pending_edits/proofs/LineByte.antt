-- A byte of a finished line: what its line's form tells, where it stands in the words, and the byte set in the eight bytes of its word.
use Prim.Native.Nat.{ℕ, ◌+◌, ◌-◌, ◌*◌, ◌/◌, ◌%◌, ◌<◌, ◌≤◌}
use mathlib.Core.Bool.{true, false, ◌&&◌}
use mathlib.Core.List.{[], ◌∷◌, List}
use mathlib.Core.Path.{◌≡◌, refl, sym, ap, ◌∙◌}
use lib.Dec.{ltb, leb, eqb}
use borrow.Author.Tests.{ltb-true, ltb-false, leb-true}
use native.Mathlib.Omega.{arith}
use lib.ListN.{length, get_or, set, length-set}
use Rattle.std.proofs.Common.{w64}
use Rattle.std.specs.Int.{from_le_bytes, to_le_bytes}
use Rattle.bounded.proofs.Tests.{case_on, contradicts, every_held}
use Rattle.words.specs.Words.{le_of, bytes_of}
use Rattle.words.proofs.Bytes.{length-bytes, from-eight, to-eight}
use Rattle.state.specs.declared.Op.TheVariants.{Idle, Write, Commit, Consolidate, Checkpoint, Event, Prepare, Confirm, Log, Copy, Format}
use Rattle.state.specs.declared.Op.{Op}
use Rattle.state.specs.declared.Pending.{Pending}
use Rattle.operations.specs.Operations.{is_idle}
use Rattle.state_words.specs.Decoded as words
use Rattle.state_words.specs.Decoded.{decoded}
use Rattle.state_words.proofs.DecodedLaws.{part_at, put-part}
use Rattle.state_pending.specs.Put.{with_pending}
use Rattle.text.specs.declared.Line.{Line}
use Rattle.workbench.specs.Turns.{arg}
use Rattle.workbench.specs.Finished.{finished_lines}
use Rattle.pending_edits.specs.Edits.{with_byte, pending_set}

abbrev with_lines : Pending → List ℕ → List ℕ → Pending
with_lines p line second = record { op = p.op; made = p.made; line = line; second = second }

-- what the form of a line of Q tells
pub finished-few : (op : Op) → finished_lines op ≤ 2
finished-few Idle = omega arith
finished-few (Write w p l o n) = omega arith
finished-few (Commit w) = omega arith
finished-few (Consolidate p) = omega arith
finished-few Checkpoint = omega arith
finished-few (Event k m a) = omega arith
finished-few (Prepare w) = omega arith
finished-few (Confirm w) = omega arith
finished-few (Log p l o n) = omega arith
finished-few Copy = omega arith
finished-few Format = omega arith

-- an operation that is none has no finished line
some-busy : (op : Op) → 0 < finished_lines op → is_idle op ≡ false
some-busy Idle h = absurd (omega (arith, h))
some-busy (Write w p l o n) h = refl
some-busy (Commit w) h = refl
some-busy (Consolidate p) h = refl
some-busy Checkpoint h = refl
some-busy (Event k m a) h = refl
some-busy (Prepare w) h = refl
some-busy (Confirm w) h = refl
some-busy (Log p l o n) h = refl
some-busy Copy h = refl
some-busy Format h = refl

pub line-byte-formed : (line : Line) (op : Op) → eqb line.count 2 && ltb (arg line 0) (64 * finished_lines op) && leb (arg line 1) 255 ≡ true
    → (arg line 0 < 128) × (arg line 1 ≤ 255) × (is_idle op ≡ false)
line-byte-formed line op e =
    let h = every_held (eqb line.count 2 ∷ ltb (arg line 0) (64 * finished_lines op) ∷ leb (arg line 1) 255 ∷ []) e in
    let l = ltb-true (arg line 0) (64 * finished_lines op) h.1.0 in
    (omega (arith, l, finished-few op), leb-true (arg line 1) 255 h.1.1.0, some-busy op (omega (arith, l)))

module _ (c : List ℕ) (w : is_idle (decoded c).pending.op ≡ false) where
  none-idle : eqb (get_or (words.part c 8) 0 0) 0 ≡ true → is_idle (decoded c).pending.op ≡ true
  unfolding decoded
  none-idle t = rw t refl

  some : eqb (get_or (words.part c 8) 0 0) 0 ≡ false
  some = case_on (eqb (get_or (words.part c 8) 0 0) 0) (λ t. contradicts (none-idle t) w) (λ f. f)

  -- word k of a finished line, read and put
  module _ (k : ℕ) (l : k < 8) where
    line_word_is : get_or c (24 + k) 0 ≡ get_or (decoded c).pending.line k 0
    unfolding decoded words.start words.size
    line_word_is = rw some (sym (part_at c 9 k l))

    second_word : get_or c (32 + k) 0 ≡ get_or (decoded c).pending.second k 0
    unfolding decoded words.start words.size
    second_word = rw some (sym (part_at c 10 k l))

    line-put : (v : ℕ) → decoded (set c (24 + k) v) ≡ with_pending (decoded c) (with_lines (decoded c).pending (set (decoded c).pending.line k v) (decoded c).pending.second)
    unfolding decoded words.start words.size
    line-put v = put-part c 9 k v (omega arith) l ∙ rw some

    second-put : (v : ℕ) → decoded (set c (32 + k) v) ≡ with_pending (decoded c) (with_lines (decoded c).pending (decoded c).pending.line (set (decoded c).pending.second k v))
    unfolding decoded words.start words.size
    second-put v = put-part c 10 k v (omega arith) l ∙ rw some

  -- byte i of both
  pub byte_put : (i v : ℕ) → i < 128 → decoded (set c (24 + i / 8) (with_byte (get_or c (24 + i / 8) 0) (i % 8) v)) ≡ with_pending (decoded c) (pending_set (decoded c).pending i v)
  byte_put i v h =
      case_on (ltb i 64)
      (λ t.
      let low : i / 8 < 8 = omega (arith, ltb-true i 64 t) in
      line-put (i / 8) low _ ∙ rw (t, line_word_is (i / 8) low))
      (λ f.
      let past : 64 ≤ i = ltb-false i 64 f in
      let low : (i - 64) / 8 < 8 = omega (arith, h) in
      let place : 24 + i / 8 ≡ 32 + (i - 64) / 8 = omega (arith, past) in
      let byte : i % 8 ≡ (i - 64) % 8 = omega (arith, past) in
      rw (place, byte) (second-put ((i - 64) / 8) low _ ∙ rw (f, second_word ((i - 64) / 8) low)))

-- a byte set in the bytes of a word, and the word that they make
pub line-byte : (b : List ℕ) (w j v : ℕ) → b ≡ to_le_bytes w64 w → from_le_bytes w64 (set b j v) ≡ le_of (set (bytes_of 8 w) j v)
line-byte b w j v e =
    let q : b ≡ bytes_of 8 w = e ∙ to-eight w in
    let long : length (set b j v) ≡ 8 = simp length-set (ap length q ∙ length-bytes 8 w) in
    from-eight (set b j v) long ∙ ap (λ (l : List ℕ). le_of (set l j v)) q
