-- The keys of the entries that are used, as they stand in the image.
use Prim.Native.Nat.{ℕ, ◌<◌, min}
use mathlib.Core.List.{List}
use mathlib.Core.Path.{◌≡◌, ap, ◌∙◌}
use native.Mathlib.Omega.{arith}
use Rattle.bounded.proofs.Tab.{filled-ext}
use Rattle.layout.specs.declared.Sizes.{Sizes}
use Rattle.layout.specs.Layout.{entry_word}
use Rattle.words.specs.Words.{word}
use Rattle.entries.specs.Entries.{no_keys, keys_from}
use Rattle.mount.proofs.View.{View, Shows, shown}

-- words that agree on them
pub keys-ext : (r r' : ℕ → ℕ) (z : Sizes) (n : ℕ) → ((e : ℕ) → e < n → e < z.entries → r (entry_word z e) ≡ r' (entry_word z e)) → keys_from r z n ≡ keys_from r' z n
unfolding keys_from
keys-ext r r' z n h =
    filled-ext (min n z.entries) (λ e. r (entry_word z e)) (λ e. r' (entry_word z e)) no_keys (λ e l. h e (omega arith) (omega arith))

-- those that a mount finds
pub view-keys : (img : List ℕ) (v : View) → Shows img v → (z : Sizes) (n : ℕ) → v.sizes ≡ z → v.count ≡ n → v.keys ≡ keys_from (word img) z n
view-keys img v shows z n e f = ap (λ (u : View). u.keys) (shown img v shows) ∙ ap (λ (y : Sizes). keys_from (word img) y v.count) e ∙ ap (keys_from (word img) z) f
