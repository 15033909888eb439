-- How many numbers a pending operation has, and those of none.
use Prim.Native.Nat.{ℕ, ◌≤◌}
use mathlib.Core.Bool.{true}
use mathlib.Core.List.{List, [], ◌++◌}
use mathlib.Core.Path.{◌≡◌, refl}
use native.Mathlib.Omega.{arith}
use lib.Dec.{eqb}
use lib.ListN.{length, get_or, replicate, length-append}
use Rattle.bounded.proofs.Tests.{case_on, contradicts}
use Rattle.words.proofs.Bytes.{length-bytes}
use Rattle.state.specs.declared.Op.TheVariants.{Idle, Write, Commit, Consolidate, Checkpoint, Event, Prepare, Confirm, Log, Copy, Format}
use Rattle.state.specs.declared.Op.{Op}
use Rattle.state.specs.declared.Pending.{Pending}
use Rattle.operations.specs.Operations.{is_idle}
use Rattle.number_text.proofs.Puts.{length-each}
use Rattle.pending_text.specs.Numbers.{line_bytes, line_numbers, op_numbers, finished_numbers, pending_numbers}
use Rattle.workbench.specs.Finished.{finished_lines}

pub line-bytes : (words : List ℕ) (i : ℕ) → length (line_bytes words i) ≤ 8
line-bytes words i = omega (arith, length-bytes 8 (get_or words i 0))

pub length-op : (op : Op) (made : ℕ) → length (op_numbers op made) ≡ 7
length-op Idle made = refl
length-op (Write w p l o n) made = refl
length-op (Commit w) made = refl
length-op (Consolidate p) made = refl
length-op Checkpoint made = refl
length-op (Event k m a) made = refl
length-op (Prepare w) made = refl
length-op (Confirm w) made = refl
length-op (Log p l o n) made = refl
length-op Copy made = refl
length-op Format made = refl

pub line-long : (words : List ℕ) → length (line_numbers words) ≤ 64
line-long words = length-each 8 (line_bytes words) (line-bytes words) 8

finished-long : (n : ℕ) (line second : List ℕ) → length (finished_numbers n line second) ≤ 128
finished-long n line second =
    case_on (eqb n 0) (λ t. rw t (omega arith))
    (λ f. case_on (eqb n 1)
    (λ t. rw (f, t) (omega (arith, length-append (line_numbers line) [], line-long line)))
    (λ u. rw (f, u) (omega (arith, length-append (line_numbers line) (line_numbers second), line-long line, line-long second))))

pub pending-long : (p : Pending) → length (pending_numbers p) ≤ 135
pending-long p =
    let n = finished_lines p.op in
    omega (arith, length-append (op_numbers p.op p.made) (finished_numbers n p.line p.second), length-op p.op p.made, finished-long n p.line p.second)

-- where nothing is pending they are seven zeros
idle-op : (op : Op) (made : ℕ) (line second : List ℕ) → is_idle op ≡ true → op_numbers op made ++ finished_numbers (finished_lines op) line second ≡ replicate 7 0
idle-op Idle made line second e = refl
idle-op (Write w p l o n) made line second e = contradicts e refl
idle-op (Commit w) made line second e = contradicts e refl
idle-op (Consolidate p) made line second e = contradicts e refl
idle-op Checkpoint made line second e = contradicts e refl
idle-op (Event k m a) made line second e = contradicts e refl
idle-op (Prepare w) made line second e = contradicts e refl
idle-op (Confirm w) made line second e = contradicts e refl
idle-op (Log p l o n) made line second e = contradicts e refl
idle-op Copy made line second e = contradicts e refl
idle-op Format made line second e = contradicts e refl

pub idle-zeros : (p : Pending) → is_idle p.op ≡ true → pending_numbers p ≡ replicate 7 0
idle-zeros p e = idle-op p.op p.made p.line p.second e
