-- What row 8 and the rows of a pending wide write or commit tell, as the functions that make their stores require it.
use Prim.Native.Nat.{ℕ, ◌+◌, ◌*◌, ◌<◌, ◌≤◌}
use mathlib.Core.Bool.{false}
use mathlib.Core.Path.{◌≡◌}
use native.Mathlib.Omega.{arith}
use lib.Dec.{eqb, leb}
use borrow.Author.Tests.{ltb-true, leb-false}
use Rattle.bounded.specs.Rows.{refusal}
use Rattle.bounded.proofs.Tests.{case_on, row_keeps}
use Rattle.layout.specs.declared.Sizes.{Sizes}
use Rattle.entries.specs.Entries.{key_of}
use Rattle.entries.proofs.EntryLaws.{entry-le}
use Rattle.state.specs.State.{State, Wide}
use Rattle.state.specs.declared.Op.TheVariants.{Log, Copy}
use Rattle.state.specs.Wide.{entry_for, has_entry, no_entry_left}
use Rattle.operations.specs.Operations.{op_rows, needs, copy_needs}
use Rattle.operations.proofs.Taken.{LogTaken, log-taken}
use Rattle.refinement.specs.Stores.{left}
use Rattle.refinement.proofs.Going.{Going}

-- a line that has no entry has one left for it
pub entry-room : (z : Sizes) (d : Wide) (p l : ℕ) → d.count ≤ z.entries → no_entry_left z d p l ≡ false → entry_for d p l < z.entries
entry-room z d p l few room =
    case_on (has_entry d p l)
    (λ t. omega (arith, few, ltb-true (entry_for d p l) d.count t))
    (λ t.
    let full : leb z.entries d.count ≡ false = rw t at room in
    omega (arith, entry-le d.keys d.count (key_of p l), leb-false z.entries d.count full))

pub log-of : (st : State) → refusal (op_rows st st.pending.op) ≡ 0 → {p l o n : ℕ} → st.pending.op ≡ Log p l o n → LogTaken st p l o n
log-of st taken {p} {l} {o} {n} e = log-taken st p l o n (rw e at taken)

-- of n stores that are left, the last is the operation's at most
module _ (st : State) (g : Going st) (n : ℕ) (h : n ≤ left st) where
  pub log-left : {p l o k : ℕ} → st.pending.op ≡ Log p l o k → st.pending.made + n ≤ 9
  unfolding needs
  log-left e =
      let q : needs st st.pending.op ≡ 9 = rw e in
      omega (arith, g.made-low)

  pub copy-left : st.pending.op ≡ Copy → st.pending.made + n ≤ 8 * st.wide.count + 2
  unfolding needs
  copy-left e =
      let c : ℕ = st.wide.count in
      let q : needs st st.pending.op ≡ copy_needs c = rw e in
      let m : copy_needs c ≤ 8 * c + 2 = row_keeps (λ (x : ℕ). x ≤ 8 * c + 2) (eqb c 0) 0 (8 * c + 2) (omega arith) (omega arith) in
      omega (arith, g.made-low)
