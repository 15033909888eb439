-- Reasons in words (document 02, L1): the sentence of a refusal, and what composing one does.
use Rattle.std.specs.Prelude.{ℕ, Bool, true, false, not, cond, List, [], ◌∷◌, ◌++◌, ltb, eqb, length, Result, Ok, Err}
use Rattle.bounded.specs.Rows.{refusal}
use Rattle.words.specs.Words.{over}
use Rattle.decimals.specs.Decimal.{decimal_of}
use Rattle.wording.specs.Calls.{can_return, takes_writer, takes_page, takes_line, meets_writer}
use Rattle.wording.specs.Words.{codes, name_of, text_of}
use Rattle.reasons.specs.declared.Reason.{Reason}
use Rattle.rows.specs.declared.Refusal.{Refusal}
use Rattle.rows.specs.declared.Refusal.TheVariants.{BadArgument}

-- the call, the number and the number's text
unfoldable pub opening : ℕ → ℕ → List ℕ
opening c n = name_of c ++ (codes " refused (" ++ (decimal_of n ++ (codes "): " ++ text_of n)))

-- a number after its label, where the sentence has it
unfoldable pub field : Bool → List ℕ → ℕ → List ℕ
field true label v = label ++ decimal_of v
field false label v = []

-- a page comes after a writer, and a writer in the way after a page, or it is the first field
abbrev pub page_label : Bool → List ℕ
page_label later = cond later (codes ", page ") (codes ". Page ")

abbrev pub holder_label : Bool → List ℕ
holder_label later = cond later (codes ", held by writer ") (codes ". Held by writer ")

-- what the call was given, and the writer in its way
unfoldable pub closing : Reason → List ℕ
closing r =
    field (takes_writer r.call) (codes ". Writer ") r.writer
    ++ (field (takes_page r.call) (page_label (takes_writer r.call)) r.page
    ++ (field (takes_line r.call) (codes ", line ") r.line
    ++ (field (meets_writer r.number) (holder_label (takes_page r.call)) r.holder
    ++ codes ".")))

unfoldable pub sentence : Reason → List ℕ
sentence r = opening r.call r.number ++ closing r

-- ---- composing: the number, the length or the refusal, and the target of n bytes after it

unfoldable pub compose_row : Reason → ℕ → ℕ
compose_row r n = refusal ((ltb n 200, 11) ∷ (not (can_return r.call r.number), 11) ∷ [])

unfoldable pub composed : Reason → ℕ → Result ℕ Refusal
composed r n = cond (eqb (compose_row r n) 0) (Ok (length (sentence r))) (Err BadArgument)

unfoldable pub composed_in : Reason → List ℕ → List ℕ
composed_in r target = cond (eqb (compose_row r (length target)) 0) (over target 0 (sentence r)) target
