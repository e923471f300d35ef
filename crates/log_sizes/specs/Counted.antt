-- What is counted of the bytes of anchors.
use Rattle.std.specs.Prelude.{ℕ, ◌≡◌, ◌<◌, ◌≤◌, ◌^◌, List, Option}
use Rattle.history.specs.declared.key.Key.{Key}
use Rattle.law_image.specs.Values.{Value}
use Rattle.law_image.specs.Reading.{Member, OldRecord}
use Rattle.law_image.specs.Facts.{latest, old_writes}
use Rattle.chains.specs.KeyWrites.{KeyWrites, writes_of}
use Rattle.law_log_sizes.specs.Sizes.{anchors_len, greatest, len_from, lens_behind}
use Rattle.log_sizes.specs.declared.anchor_sizes.AnchorSizes.{AnchorSizes}

-- the value that each key has after all of its writes
abbrev pub values_in : List KeyWrites → Key → Option Value
values_in versions key = latest (writes_of versions key)

-- These sizes are of a state whose anchors take `len` bytes, where `most` is the greatest number up to it. Of a number that is not counted they say
-- that it is none.
pub record AreSizes (len most : ℕ) (sizes : AnchorSizes) : Type 0 where
  pub exact : most ≤ 2 ^ 62 → (sizes.len ≡ len) × (sizes.most ≡ most)
  pub above : 2 ^ 62 < most → 2 ^ 62 < sizes.most

-- they are of the state behind these members, over these anchors
abbrev pub AreSizesBehind : List OldRecord → List Member → AnchorSizes → Type 0
AreSizesBehind olds members sizes =
    AreSizes (len_from (anchors_len olds) (λ key. latest (old_writes olds key)) members)
    (greatest (anchors_len olds) (lens_behind (anchors_len olds) (λ key. latest (old_writes olds key)) members)) sizes
