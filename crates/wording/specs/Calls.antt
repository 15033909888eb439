-- The calls, numbered, and the numbers that each can return: document 01's table "Turned back, by place", and document 02's numbers.
use Rattle.std.specs.Prelude.{ℕ, Bool, false, ◌&&◌, ◌||◌, List, [], ◌∷◌, eqb}

abbrev pub format : ℕ
format = 0

abbrev pub mount : ℕ
mount = 1

abbrev pub recall : ℕ
recall = 2

abbrev pub begin : ℕ
begin = 3

abbrev pub abort : ℕ
abort = 4

abbrev pub write : ℕ
write = 5

abbrev pub commit : ℕ
commit = 6

abbrev pub consolidate : ℕ
consolidate = 7

abbrev pub checkpoint : ℕ
checkpoint = 8

abbrev pub read : ℕ
read = 9

abbrev pub step : ℕ
step = 10

abbrev pub run : ℕ
run = 11

abbrev pub free_slot : ℕ
free_slot = 12

abbrev pub event : ℕ
event = 13

abbrev pub prepare : ℕ
prepare = 14

abbrev pub confirm : ℕ
confirm = 15

abbrev pub withdraw : ℕ
withdraw = 16

abbrev pub load : ℕ
load = 17

abbrev pub begin_wide : ℕ
begin_wide = 18

-- how many calls and numbers the tables have; a request that adds one raises these, and CALLS and NUMBERS in the code
abbrev pub call_count : ℕ
call_count = 19

abbrev pub number_count : ℕ
number_count = 31

-- ---- the places of the table

abbrev pub readers : List ℕ
readers = mount ∷ recall ∷ []

-- the calls that take a state and the image, but step and run
abbrev pub askers : List ℕ
askers = write ∷ commit ∷ consolidate ∷ checkpoint ∷ read ∷ free_slot ∷ event ∷ prepare ∷ confirm ∷ withdraw ∷ load ∷ []

-- the table, row by row: the number and the calls of its place; then the rows of document 02. No row has 16 (document 02, L5)
unfoldable pub places : List (ℕ × List ℕ)
places =
    (1, readers)
    ∷ (2, readers)
    ∷ (3, format ∷ readers)
    ∷ (4, format ∷ readers)
    ∷ (5, readers)
    ∷ (6, readers)
    ∷ (7, readers)
    ∷ (8, begin ∷ begin_wide ∷ abort ∷ step ∷ run ∷ askers)
    ∷ (4, step ∷ run ∷ askers)
    ∷ (9, begin ∷ begin_wide ∷ abort ∷ askers)
    ∷ (10, step ∷ run ∷ [])
    ∷ (11, recall ∷ begin ∷ begin_wide ∷ abort ∷ write ∷ commit ∷ consolidate ∷ read ∷ prepare ∷ confirm ∷ withdraw ∷ [])
    ∷ (12, begin ∷ event ∷ [])
    ∷ (13, write ∷ commit ∷ abort ∷ prepare ∷ [])
    ∷ (14, write ∷ event ∷ [])
    ∷ (15, write ∷ event ∷ [])
    ∷ (17, consolidate ∷ [])
    ∷ (18, consolidate ∷ [])
    ∷ (19, commit ∷ consolidate ∷ free_slot ∷ event ∷ prepare ∷ [])
    ∷ (20, event ∷ [])
    ∷ (21, event ∷ [])
    ∷ (22, free_slot ∷ [])
    ∷ (23, abort ∷ write ∷ commit ∷ consolidate ∷ free_slot ∷ event ∷ prepare ∷ [])
    ∷ (24, confirm ∷ withdraw ∷ [])
    ∷ (25, load ∷ [])
    ∷ (26, event ∷ load ∷ [])
    ∷ (27, load ∷ [])
    ∷ (28, begin_wide ∷ [])
    ∷ (29, begin ∷ begin_wide ∷ event ∷ prepare ∷ [])
    ∷ (30, write ∷ [])
    ∷ []

-- whether x is one of a list, which computes to `x == y | x == z | ..`
unfoldable pub one_more : Bool → List ℕ → ℕ → Bool
one_more b [] x = b
one_more b (y ∷ ys) x = one_more (b || eqb x y) ys x

unfoldable pub one_of : List ℕ → ℕ → Bool
one_of [] x = false
one_of (y ∷ ys) x = one_more (eqb x y) ys x

-- whether call c stands in a row with number n
unfoldable pub stands_in : List (ℕ × List ℕ) → ℕ → ℕ → Bool
stands_in [] c n = false
stands_in (row ∷ rows) c n = (eqb n row.0 && one_of row.1 c) || stands_in rows c n

-- whether call c can return the number n; 0, taken, turns nothing back
unfoldable pub can_return : ℕ → ℕ → Bool
can_return c n = stands_in places c n

-- ---- what a call is given

unfoldable pub takes_writer : ℕ → Bool
takes_writer c = one_of (begin ∷ begin_wide ∷ abort ∷ write ∷ commit ∷ read ∷ prepare ∷ confirm ∷ withdraw ∷ []) c

unfoldable pub takes_page : ℕ → Bool
takes_page c = one_of (recall ∷ write ∷ consolidate ∷ read ∷ []) c

unfoldable pub takes_line : ℕ → Bool
takes_line c = one_of (recall ∷ write ∷ read ∷ []) c

-- whether a writer stands in the way of what a number turns back
unfoldable pub meets_writer : ℕ → Bool
meets_writer n = one_of (14 ∷ 18 ∷ []) n
