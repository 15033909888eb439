-- T1 to T12 of document 01, on the image P = 2, S = 1, J = 2, as one theorem over a list of cases. Each case is computed from the
-- definitions that the calls' contracts cite.
use Rattle.std.specs.Prelude.{ℕ, zero, suc, ◌+◌, ◌-◌, ◌^◌, List, [], ◌∷◌, ◌++◌, ◌≡◌, refl, replicate, take}
use Rattle.bounded.specs.Tab.{tab}
use Rattle.layout.specs.declared.Sizes.{Sizes}
use Rattle.words.specs.Words.{word, store}
use Rattle.journal.specs.Records.{live_count}
use Rattle.replay.specs.Table.{empty_table, with_slot}
use Rattle.replay.specs.Map.{map_from}
use Rattle.state.specs.State.{State}
use Rattle.refinement.specs.Stores.{World, store_at}
use Rattle.refinement.specs.Mount.{quiet_state, format_call, mount_call}
use Rattle.refinement.specs.Run.{Call, Result, mount, begin, write, commit, consolidate, checkpoint, run, exec, formatted_world, after}

abbrev pub small : Sizes
small = record { pages = 2; slots = 1; places = 2; entries = 0 }

-- byte 165 by writer w to page p, line 0
abbrev pub put165 : ℕ → ℕ → Call
put165 w p = write w p 0 0 1 (165 ∷ [])

-- the calls that lead to each case: a write, its commit, a consolidation, a write that waits for room, a checkpoint, two commits
abbrev pub to_write : List Call
to_write = begin 0 ∷ []

abbrev pub to_commit : List Call
to_commit = to_write ++ (put165 0 0 ∷ run 8 ∷ [])

abbrev pub to_consolidate : List Call
to_consolidate = to_commit ++ (commit 0 ∷ run 5 ∷ [])

abbrev pub to_full : List Call
to_full = to_consolidate ++ (consolidate 0 ∷ run 14 ∷ begin 0 ∷ put165 0 0 ∷ run 8 ∷ [])

abbrev pub to_checkpoint : List Call
to_checkpoint = to_full ++ (commit 0 ∷ [])

abbrev pub to_next : List Call
to_next = to_checkpoint ++ (checkpoint ∷ run 4 ∷ [])

abbrev pub to_last : List Call
to_last = to_next ++ (commit 0 ∷ run 5 ∷ begin 0 ∷ put165 0 0 ∷ run 8 ∷ [])

-- format's number, of sizes and n zero bytes
unfoldable pub formats : Sizes → ℕ → ℕ
formats z n = (format_call z (replicate n 0)).number

-- the fresh image, and mount's number of bytes
unfoldable pub fresh : World
fresh = formatted_world small (replicate 12480 0)

unfoldable pub mounts : List ℕ → ℕ
mounts img = (mount_call img).number

-- what a call gives after others on a fresh image: its number, its stores, the words that they go to, and then, once they are
-- made, some words of the image
unfoldable pub words : List ℕ → List ℕ → List ℕ
words img [] = []
words img (a ∷ l) = word img a ∷ words img l

unfoldable pub seen : Result → List ℕ → List ℕ
seen d l =
    let st = d.world.st in
    d.number ∷ d.stores ∷ (tab d.stores (store_at st st.pending.op) ++ words (exec (run d.stores) d.world).world.image l)

unfoldable pub gives : List Call → Call → List ℕ → List ℕ
gives before c l = seen (exec c (after before fresh)) l

-- head, tail and the live records that a mount finds after some calls, and its number
unfoldable pub finds : List Call → List ℕ
finds before =
    let d = exec mount (after before fresh) in
    let st = d.world.st in
    d.number ∷ st.head ∷ st.tail ∷ live_count small st.head st.tail ∷ []

-- the stores that a consolidation of page 0 with a bitmap is answered with
unfoldable pub copies : ℕ → ℕ
copies bits =
    let st = quiet_state small 0 0 (with_slot empty_table 0 (record { page = 0; original = 0; spare = 2; bitmap = bits })) (map_from 2 (λ p. p)) in
    (exec (consolidate 0) (record { st = st; image = replicate 12480 0 })).stores

-- what each case gives, and what document 01 says
pub record Case : Type 0 where
  pub computed : List ℕ
  pub stated : List ℕ

unfoldable pub case : List ℕ → List ℕ → Case
case a b = record { computed = a; stated = b }

unfoldable pub cases : List Case
cases =
    -- T1 length 12,479: 4
    case (formats small 12479 ∷ mounts (take 12479 fresh.image) ∷ formats small 12480 ∷ mounts fresh.image ∷ []) (4 ∷ 4 ∷ 0 ∷ 0 ∷ [])
    -- T2 J = 0: 3
    ∷ case (formats (record { pages = 2; slots = 1; places = 0; entries = 0 }) 12480 ∷ mounts (store fresh.image 2 0) ∷ []) (3 ∷ 3 ∷ [])
    -- T3 8 stores at bytes 8,384 to 8,447: words 1,048 to 1,055
    ∷ case (gives to_write (put165 0 0) (1048 ∷ 1049 ∷ [])) (0 ∷ 8 ∷ 1048 ∷ 1049 ∷ 1050 ∷ 1051 ∷ 1052 ∷ 1053 ∷ 1054 ∷ 1055 ∷ 165 ∷ 0 ∷ [])
    -- T4 5 stores; record 0, 0, 8589934592, 1; head 1
    ∷ case (gives to_commit (commit 0) (13 ∷ 14 ∷ 15 ∷ 16 ∷ 4 ∷ [])) (0 ∷ 5 ∷ 13 ∷ 14 ∷ 15 ∷ 16 ∷ 4 ∷ 0 ∷ 0 ∷ 8589934592 ∷ 1 ∷ 1 ∷ [])
    -- T5 14 stores; record 1, 2 ^ 64 − 1, 12884901887, 0; head 2
    ∷ case (gives to_consolidate (consolidate 0) (17 ∷ 18 ∷ 19 ∷ 20 ∷ 4 ∷ []))
    (0 ∷ 14 ∷ 24 ∷ 25 ∷ 26 ∷ 27 ∷ 28 ∷ 29 ∷ 30 ∷ 31 ∷ 8 ∷ 17 ∷ 18 ∷ 19 ∷ 20 ∷ 4 ∷ 1 ∷ (2 ^ 64 - 1) ∷ 12884901887 ∷ 0 ∷ 2 ∷ [])
    -- T6 then a commit with one page: 19
    ∷ case (gives to_full (commit 0) []) (19 ∷ 0 ∷ [])
    -- T7 checkpoint: 4 stores, tail 2
    ∷ case (gives to_checkpoint checkpoint (5 ∷ [])) (0 ∷ 4 ∷ 10 ∷ 11 ∷ 12 ∷ 5 ∷ 2 ∷ [])
    -- T8 the next two records make head 3, then 0
    ∷ case (gives to_next (commit 0) (4 ∷ [])) (0 ∷ 5 ∷ 13 ∷ 14 ∷ 15 ∷ 16 ∷ 4 ∷ 3 ∷ [])
    ∷ case (gives to_last (commit 0) (4 ∷ [])) (0 ∷ 5 ∷ 17 ∷ 18 ∷ 19 ∷ 20 ∷ 4 ∷ 0 ∷ [])
    -- T9 tail 2 and head 0: two live
    ∷ case (finds (to_last ++ (commit 0 ∷ run 5 ∷ []))) (0 ∷ 0 ∷ 2 ∷ 2 ∷ [])
    -- T10 bitmaps with 0, 32, 33, 64 ones: 6, 262, 254, 6 stores
    ∷ case (copies 0 ∷ copies (2 ^ 32 - 1) ∷ copies (2 ^ 33 - 1) ∷ copies (2 ^ 64 - 1) ∷ []) (6 ∷ 262 ∷ 254 ∷ 6 ∷ [])
    -- T11 with page 0 slotted, a write to page 1: 15
    ∷ case (gives to_commit (put165 0 1) []) (15 ∷ 0 ∷ [])
    -- T12 same line, other writer: 14
    ∷ case (gives (to_commit ++ (begin 1 ∷ [])) (put165 1 0) []) (14 ∷ 0 ∷ [])
    ∷ []

unfoldable pub computed_all : List Case → List (List ℕ)
computed_all [] = []
computed_all (c ∷ cs) = c.computed ∷ computed_all cs

unfoldable pub stated_all : List Case → List (List ℕ)
stated_all [] = []
stated_all (c ∷ cs) = c.stated ∷ stated_all cs
