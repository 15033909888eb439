use Prim.Native.Nat.{ℕ}
use mathlib.Core.List.{List}
use mathlib.Core.Path.{sym, ap, ◌∙◌}
use Rattle.state.specs.declared.Op.{Op}
use Rattle.pending_text.specs.Numbers.{op_numbers}
use Rattle.pending_text.proofs.op_numbers.Goals as goal

-- the numbers of the operation that was told
abbrev told : ℕ → Op → List ℕ
told made o = op_numbers o made

pub returns-in-Write : goal.returns-in-Write
returns-in-Write c = c.written.ensures ∙ sym (ap (told c.args.made) c.in-Write.is)

pub returns-in-Commit : goal.returns-in-Commit
returns-in-Commit c = sym (ap (told c.args.made) c.in-Commit.is)

pub returns-in-Consolidate : goal.returns-in-Consolidate
returns-in-Consolidate c = sym (ap (told c.args.made) c.in-Consolidate.is)

pub returns-in-Checkpoint : goal.returns-in-Checkpoint
returns-in-Checkpoint c = sym (ap (told c.args.made) c.in-Checkpoint.is)

pub returns-in-Event : goal.returns-in-Event
returns-in-Event c = sym (ap (told c.args.made) c.in-Event.is)

pub returns-in-Prepare : goal.returns-in-Prepare
returns-in-Prepare c = sym (ap (told c.args.made) c.in-Prepare.is)

pub returns-in-Confirm : goal.returns-in-Confirm
returns-in-Confirm c = sym (ap (told c.args.made) c.in-Confirm.is)

pub returns-in-Log : goal.returns-in-Log
returns-in-Log c = c.written-in-Log.ensures ∙ sym (ap (told c.args.made) c.in-Log.is)

pub returns-in-Copy : goal.returns-in-Copy
returns-in-Copy c = sym (ap (told c.args.made) c.in-Copy.is)

pub returns-in-Format : goal.returns-in-Format
returns-in-Format c = sym (ap (told c.args.made) c.in-Format.is)
