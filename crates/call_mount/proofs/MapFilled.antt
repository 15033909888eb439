-- The map after a mount or a format: entries over zeros.
use Prim.Native.Nat.{ℕ, zero, suc, ◌+◌, ◌-◌, ◌≤◌, ◌<◌}
use mathlib.Core.List.{List, [], ◌∷◌, ◌++◌}
use mathlib.Core.Path.{◌≡◌, refl, sym, ap, ◌∙◌}
use native.Mathlib.Omega.{arith}
use lib.ListN.{length, take, drop, replicate, length-replicate, replicate-append-replicate}
use lib.Seq.{drop_at}
use Rattle.bounded.specs.Tab.{tab}
use Rattle.bounded.proofs.Tab.{length-tab}
use Rattle.replay.specs.Map.{map_from}
use Rattle.state.specs.State.{State}
use Rattle.state_words.specs.Decoded.{decoded}
use Rattle.state_words.proofs.Lent.{map_is_back}
use Rattle.call_mount.specs.Entries.{map_back, with_entries}

-- what a part from word 256 on comes back as; e is its end
pub part-back : (c : List ℕ) (xs hs : List ℕ) (n e : ℕ) → e ≡ 256 + n → xs ≡ hs → take 256 c ++ (xs ++ drop (e - 256) (drop 256 c)) ≡ map_back c hs n
part-back c xs hs n e h q =
    let k : e - 256 ≡ n = omega arith in
    rw (k, q)

-- the state of such words; d are the words after it
pub entries-back : (c d : List ℕ) → length c ≡ 1280 → (n : ℕ) (f : ℕ → ℕ) → n ≤ 1024 → d ≡ map_back c (tab n f) n → decoded d ≡ with_entries (decoded c) (tab n f) n
entries-back c d long n f h q = ap decoded q ∙ map_is_back c long (tab n f) n (length-tab n f) h

-- n entries over 1,024 zeros
pub over_zeros : (n : ℕ) (f : ℕ → ℕ) → n ≤ 1024 → tab n f ++ drop n (replicate 1024 0) ≡ map_from n f
unfolding map_from
over_zeros n f h =
    let k : n + (1024 - n) ≡ 1024 = omega arith in
    let z : replicate {A = ℕ} 1024 0 ≡ replicate n 0 ++ replicate (1024 - n) 0 = sym (replicate-append-replicate {A = ℕ} n (1024 - n) 0 ∙ ap (λ (m : ℕ). replicate {A = ℕ} m 0) k) in
    ap (λ (l : List ℕ). tab n f ++ drop n l) z
    ∙ ap (λ (l : List ℕ). tab n f ++ l) (drop_at (replicate {A = ℕ} n 0) (replicate (1024 - n) 0) n (length-replicate {A = ℕ} n 0))
