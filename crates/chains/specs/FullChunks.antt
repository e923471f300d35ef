-- The times of a full chunk, which stand before its writes.
use Rattle.std.specs.Prelude.{ℕ, ◌≡◌, List, length, map}
use Rattle.chains.specs.Writes.{Write}

-- these are the times of as many writes as a chunk has at most
pub record HasTimes (times : List ℕ) (writes : List Write) : Type 0 where
  pub are : times ≡ map (λ (w : Write). w.time) writes
  pub full : length writes ≡ 32
