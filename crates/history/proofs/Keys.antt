-- The order of keys.
use Rattle.std.proofs.Common.{◌≡◌, true, arith}
use Rattle.std.specs.declared.cmp.Ordering.TheVariants.{Less}
use Rattle.std.proofs.lemmas.Bool.Decides.{nat_tests}
use Rattle.history.specs.declared.key.Key.{Key}
use Rattle.history.specs.Key.{key_cmp, key_lt}

pub key_lt-from_less : (a b : Key) → key_cmp a b ≡ Less → key_lt a b ≡ true
key_lt-from_less a b h = grind (arith, nat_tests)

pub key_cmp-from_lt : (a b : Key) → key_lt a b ≡ true → key_cmp a b ≡ Less
key_cmp-from_lt a b h = grind (arith, nat_tests)
