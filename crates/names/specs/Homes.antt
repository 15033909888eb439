-- The homes of pages as the code puts them: the page-table words, then the originals over them.
use Rattle.std.specs.Prelude.{ℕ, cond, List, ltb, get_or, set}
use Rattle.bounded.specs.Below.{up_to}
use Rattle.layout.specs.declared.Sizes.{Sizes}

-- the original of slot s at its page, where that is a page
abbrev pub original_put : Sizes → List ℕ → List ℕ → ℕ → List ℕ → List ℕ
original_put z page original s homes = cond (ltb (get_or page s 0) z.pages) (set homes (get_or page s 0) (get_or original s 0)) homes

-- those of the first n slots
abbrev pub originals_put : Sizes → List ℕ → List ℕ → ℕ → List ℕ → List ℕ
originals_put z page original n homes = up_to n (original_put z page original) homes
