-- Mount's rows: the number of the first that applies with nothing found, or what is found.
use mathlib.Core.Path.{◌≡◌, refl, sym, ap, ap₂, ◌∙◌}
use mathlib.Core.Bool.{true, false}
use mathlib.Core.List.{List, [], ◌∷◌}
use Prim.Native.Nat.{ℕ, zero, suc, ◌<◌}
use native.Mathlib.Nat.{not-suc-le-zero, le_of_suc-le-suc}
use native.Mathlib.Omega.{arith}
use lib.Dec.{eqb}
use lib.ListN.{length, get_or}
use borrow.Author.Tests.{eq-eqb, ne_eqb}
use Rattle.bounded.specs.Rows.{Row, refusal, Past, Numbered}
use Rattle.bounded.proofs.Rows.{row_at, row-none}
use Rattle.bounded.proofs.Tests.{row-yes, row-no}
use Rattle.layout.specs.declared.Sizes.{Sizes}
use Rattle.layout.specs.Layout.{head_word, tail_word}
use Rattle.words.specs.Words.{word}
use Rattle.replay.specs.declared.Table.{Table}
use Rattle.mount.specs.declared.Judged.{Judged}
use Rattle.journal.specs.Records.{live_count, positions_ok, live_record, records_ok}
use Rattle.replay.specs.Table.{table_from, replay}
use Rattle.entries.specs.Entries.{keys_from, entries_ok}
use Rattle.mount.specs.Mount.{sizes_from, live_from, table_after, count_from, keys_after, mount_rows, turned_back, found, mount_read, mount_of, Mounted, judged}

-- ---- any table of refusals

pub past_more : (rs : List Row) (k : ℕ) → Past rs k → (get_or rs k (true, 0)).0 ≡ false → Past rs (suc k)
past_more [] k p e = tt
past_more (r ∷ []) zero p e = (e, tt)
past_more (r ∷ s ∷ rs) zero p e = (e, tt)
past_more (r ∷ rs) (suc k) p e = (p.0, past_more rs k p.1 e)

pub numbered-at : (rs : List Row) (k : ℕ) → k < length rs → Numbered rs → 0 < (get_or rs k (true, 0)).1
numbered-at [] k l n = absurd (not-suc-le-zero l)
numbered-at (r ∷ rs) zero l n = n.0
numbered-at (r ∷ rs) (suc k) l n = numbered-at rs k (le_of_suc-le-suc l) n.1

-- what is found
abbrev taken : Sizes → ℕ → ℕ → Table → ℕ → List ℕ → Judged
taken z head tail t count keys = record { sizes = z; head = head; tail = tail; table = t; count = count; keys = keys }

-- ---- the header as it was read, and what is worked out from it

pub record Header (r : ℕ → ℕ) (z : Sizes) (head tail : ℕ) : Type 0 where
  pub sizes-is : z ≡ sizes_from r
  pub head-is : head ≡ r head_word
  pub tail-is : tail ≡ r tail_word

module _ {r : ℕ → ℕ} {z : Sizes} {head tail : ℕ} (h : Header r z head tail) where
  read : {X : Type 0} (f : Sizes → ℕ → ℕ → X) → f z head tail ≡ f (sizes_from r) (r head_word) (r tail_word)
  read f = ap (λ (y : Sizes). f y head tail) h.sizes-is ∙ ap₂ (f (sizes_from r)) h.head-is h.tail-is

  pub positions-read : positions_ok z head tail ≡ positions_ok (sizes_from r) (r head_word) (r tail_word)
  positions-read = read positions_ok

  pub records-read : (n : ℕ) → n ≡ live_count z head tail
      → records_ok z tail n (live_record r z tail) ≡ records_ok (sizes_from r) (r tail_word) (live_from r) (live_record r (sizes_from r) (r tail_word))
  records-read n e =
      ap (λ (k : ℕ). records_ok z tail k (live_record r z tail)) e ∙ read (λ y a b. records_ok y b (live_count y a b) (live_record r y b))

  pub table-read : (n : ℕ) → n ≡ live_count z head tail → replay z tail n (live_record r z tail) (table_from r z) ≡ table_after r
  table-read n e =
      ap (λ (k : ℕ). replay z tail k (live_record r z tail) (table_from r z)) e
      ∙ read (λ y a b. replay y b (live_count y a b) (live_record r y b) (table_from r y))

  -- the keys of the entries that are counted
  pub keys-read : (n : ℕ) → n ≡ count_from r → keys_from r z n ≡ keys_after r
  keys-read n e = ap₂ (keys_from r) h.sizes-is e

  pub entries-read : (n : ℕ) (keys : List ℕ) → n ≡ count_from r → keys ≡ keys_from r z n → entries_ok z keys n ≡ entries_ok (sizes_from r) (keys_after r) (count_from r)
  entries-read n keys e k =
      ap (λ (y : Sizes). entries_ok y keys n) h.sizes-is ∙ ap₂ (entries_ok (sizes_from r)) (k ∙ keys-read n e) e

  pub found-read : (t : Table) (n : ℕ) (keys : List ℕ) → t ≡ table_after r → n ≡ count_from r → keys ≡ keys_from r z n → taken z head tail t n keys ≡ judged (found r)
  found-read t n keys e m k =
      ap (λ (u : Table). taken z head tail u n keys) e
      ∙ ap₂ (taken z head tail (table_after r)) m (k ∙ keys-read n m)
      ∙ read (λ y a b. taken y a b (table_after r) (count_from r) (keys_after r))

-- ---- mount

pub mount-past : (img : List ℕ) (k : ℕ) → Past (mount_rows (length img) (word img)) k → (get_or (mount_rows (length img) (word img)) k (true, 0)).0 ≡ false
    → Past (mount_rows (length img) (word img)) (suc k)
mount-past img = past_more (mount_rows (length img) (word img))

pub mount-refused : (img : List ℕ) (k : ℕ) → k < 7 → Past (mount_rows (length img) (word img)) k → (get_or (mount_rows (length img) (word img)) k (true, 0)).0 ≡ true
    → (get_or (mount_rows (length img) (word img)) k (true, 0)).1 ≡ (mount_of img).row
unfolding mount_of mount_read
mount-refused img k l p t =
    let rs = mount_rows (length img) (word img) in
    let e : (get_or rs k (true, 0)).1 ≡ refusal rs = row_at rs k l p t in
    let n : 0 < (get_or rs k (true, 0)).1 = numbered-at rs k l (omega arith, (omega arith, (omega arith, (omega arith, (omega arith, (omega arith, (omega arith, tt))))))) in
    e ∙ ap (λ (m : Mounted). m.row) (row-no (eqb (refusal rs) 0) (found (word img)) (turned_back (refusal rs)) (turned_back (refusal rs)) (ne_eqb (refusal rs) 0 (λ q. omega arith)) refl)

pub mount-taken : (img : List ℕ) → Past (mount_rows (length img) (word img)) 7 → found (word img) ≡ mount_of img
unfolding mount_of mount_read
mount-taken img p =
    let rs = mount_rows (length img) (word img) in
    row-yes (eqb (refusal rs) 0) (found (word img)) (turned_back (refusal rs)) (eq-eqb (refusal rs) 0 (sym (row-none rs p)))
