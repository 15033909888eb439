use Prim.Native.Nat.{ℕ}
use mathlib.Core.Bool.{Bool, cond}
use mathlib.Core.Path.{◌≡◌, ap, ◌∙◌}
use Rattle.reasons.specs.declared.Reason.{Reason}
use Rattle.wording.specs.Calls.{takes_writer, takes_page, takes_line}
use Rattle.refusals.specs.Met.{reason_met}
use Rattle.refusals.proofs.reason_met.Goals as goal

-- Field by field.
abbrev told : ℕ → ℕ → ℕ → ℕ → ℕ → ℕ → Reason
told c n w p l h = record { call = c; number = n; writer = w; page = p; line = l; holder = h }

same-reason : (c n : ℕ) {w w' p p' l l' h h' : ℕ} → w ≡ w' → p ≡ p' → l ≡ l' → h ≡ h' → told c n w p l h ≡ told c n w' p' l' h'
same-reason c n e f g h = λ i. told c n (e i) (f i) (g i) (h i)

taken : (v : ℕ) (r : ℕ) (has b : Bool) → r ≡ cond has v 0 → has ≡ b → r ≡ cond b v 0
taken v r has b e h = e ∙ ap (λ (x : Bool). cond x v 0) h

pub returns : goal.returns
unfolding reason_met
returns c =
    let x = c.args in
    same-reason x.call x.number
    (taken x.writer c.where_taken.result _ (takes_writer x.call) c.where_taken.ensures c.takes_writer.ensures)
    (taken x.page c.where_taken-2.result _ (takes_page x.call) c.where_taken-2.ensures c.takes_page.ensures)
    (taken x.line c.where_taken-3.result _ (takes_line x.call) c.where_taken-3.ensures c.takes_line.ensures)
    c.holder_met.ensures
