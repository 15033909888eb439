-- Reading the slots of a state: the slot of a page and the first free one. Each takes the arrays that it reads.
use Rattle.std.specs.Prelude.{ℕ, ◌+◌, ◌%◌, Bool, List, eqb, get_or}
use Rattle.bounded.specs.Below.{first_below}
use Rattle.layout.specs.declared.Sizes.{Sizes}
use Rattle.journal.specs.Slots.{no_page}

-- whether slot s is free
abbrev pub free_at : List ℕ → ℕ → Bool
free_at page s = eqb (get_or page s 0) no_page

-- the slot of page p, S where it has none
abbrev pub slot_of_page : Sizes → List ℕ → ℕ → ℕ
slot_of_page z page p = first_below z.slots (λ s. eqb (get_or page s 0) p)

-- going round from the next slot to try: the slot k places on, and at which k the first free one lies (S: none)
abbrev pub round_slot : Sizes → ℕ → ℕ → ℕ
round_slot z next k = (next + k) % z.slots

unfoldable pub free_after : Sizes → List ℕ → ℕ → ℕ
free_after z page next = first_below z.slots (λ k. free_at page (round_slot z next k))
