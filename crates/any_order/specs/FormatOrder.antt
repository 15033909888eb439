-- A format whose stores may reach the memory in any order (document 02, L6). Its first store and its last, both of the layout word, decide: each lands whole
-- and has a fence right before and a fence right after it. Of all others nothing is asked: any mix of them, down to single bytes, is no image before the last
-- store and the fresh image after it.
use Rattle.std.specs.Prelude.{ℕ, ◌+◌, ◌<◌, ◌≤◌, true, List, ◌≡◌, length, drop}
use Rattle.layout.specs.declared.Sizes.{Sizes}
use Rattle.layout.specs.Layout.{sizes_ok, image_words, image_length}
use Rattle.words.specs.Words.{Bytes}
use Rattle.fresh.specs.Fresh.{formatted}
use Rattle.refinement.specs.Reference.{blank}
use Rattle.refinement.specs.CutFormat.{asked_format, format_cut, Half, Fresh}
use Rattle.any_order.specs.AnyOrder.{Machine, formatted_machine, since_stores, Torn}

-- a format of sizes z with k stores made, on bytes of which these images have stood since the last fence
abbrev pub format_machine : Sizes → List ℕ → List (List ℕ) → ℕ → Machine
format_machine z buffer since k =
    record { world = format_cut z buffer k; since = since_stores k (asked_format z buffer) since; reference = blank }

pub record TornAt (z : Sizes) (buffer : List ℕ) (since : List (List ℕ)) (k : ℕ) : Type 0 where
  -- before the first store a cut leaves what it could leave before the format was asked for
  pub old : k ≡ 0 → (format_machine z buffer since k).since ≡ since
  -- from the first store to the last but one mount and every recall are 2, whatever a cut leaves
  pub half : 0 < k → k ≤ image_words z → (image : List ℕ) → Torn (format_machine z buffer since k) image → Half image
  -- with the last one all of them are in the memory: it is the machine that lists of calls start from, and what a cut leaves is the fresh image
  pub whole : k ≡ image_words z + 1 → format_machine z buffer since k ≡ formatted_machine z buffer
  pub fresh : k ≡ image_words z + 1 → (image : List ℕ) → Torn (format_machine z buffer since k) image → image ≡ formatted z buffer
  -- the bytes past the image are the old ones, all of them are bytes, and there are as many: so a format may be asked for on what a cut left
  pub past : 0 < k → (image : List ℕ) → Torn (format_machine z buffer since k) image → drop (image_length z) image ≡ drop (image_length z) buffer
  pub bytes : 0 < k → (image : List ℕ) → Torn (format_machine z buffer since k) image → Bytes image
  pub as_long : (image : List ℕ) → Torn (format_machine z buffer since k) image → length image ≡ length buffer

-- for all sizes, any bytes and whatever stood there before, and every k
abbrev pub FormatAnyOrder : Type 0
FormatAnyOrder =
    (z : Sizes) → sizes_ok z ≡ true → (buffer : List ℕ) → Bytes buffer → image_length z ≤ length buffer
    → (since : List (List ℕ)) (k : ℕ) → k ≤ image_words z + 1 → TornAt z buffer since k
