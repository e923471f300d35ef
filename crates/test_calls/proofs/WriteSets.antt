-- Short write sets in the order of their keys.
use Rattle.std.proofs.Common.{◌≡◌, [], ◌∷◌}
use Rattle.std.specs.List.Sorted.{IsStrictlySortedBy}
use Rattle.std.specs.declared.cmp.Ordering.TheVariants.{Less}
use Rattle.history.specs.declared.key.Key.{Key}
use Rattle.history.specs.Key.{key_cmp}

pub sorted_one : (a : Key) → IsStrictlySortedBy key_cmp (a ∷ [])
unfolding IsStrictlySortedBy
sorted_one a = (tt, tt)

pub sorted_two : (a b : Key) → key_cmp a b ≡ Less → IsStrictlySortedBy key_cmp (a ∷ b ∷ [])
unfolding IsStrictlySortedBy
sorted_two a b e = ((e, tt), (tt, tt))
