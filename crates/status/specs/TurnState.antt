-- What a slot in the writing, and the log's own count, are seen as.
use Rattle.std.specs.Prelude.{ℕ, List, Bool}
use Rattle.status.specs.SlotCalls.{SlotStage}

-- a slot in the writing: its number, its bytes, and how far it is
pub record TurnState : Type 0 where
  pub number : ℕ
  -- the bytes behind the gate
  pub body : List ℕ
  pub stage : SlotStage

-- what is known of the log: its slots, how many are used, and whether one is in the writing
pub record LogState : Type 0 where
  pub profile : ℕ
  pub slots : ℕ
  -- the pieces of 256 slots that are open, whose slots are among these
  pub pieces : ℕ
  pub used : ℕ
  pub writing : Bool
