-- What a ticket says: which store gave it out, and the time of its commit.
use Rattle.std.specs.Prelude.{ℕ}

-- a ticket: the mark of its store, and the time of its commit
pub record TicketValue : Type 0 where
  pub mark : ℕ
  pub time : ℕ
