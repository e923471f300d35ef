-- What a piece in the making is seen as.
use Rattle.std.specs.Prelude.{ℕ}
use Rattle.status.specs.declared.growth.GrowthStage.{GrowthStage}

-- a piece in the making: where it stands, and what is done of it
pub record GrowthState : Type 0 where
  -- the slots before it, and its number
  pub slots : ℕ
  pub piece : ℕ
  pub stage : GrowthStage
