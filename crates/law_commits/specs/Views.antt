-- What a view reads of memory.
use Rattle.std.specs.Prelude.{◌≡◌}
use Rattle.history.specs.Machine.{Machine, IsMachine}
use Rattle.law_image.specs.Values.{Value, IsValue}
use Rattle.timequery.specs.View.{ViewValue}
use Rattle.commits.specs.Values.{CommitsValue, last}
use Rattle.law_refinement.specs.Homes.{ViewStands}
use Rattle.law_commits.specs.Standing.{StandsInMemory}

-- a view has what memory has of this moment, with the runs of the store
pub record IsViewOf (v : CommitsValue) (view : ViewValue) : Type 0 where
  pub last : view.last ≡ last v
  pub floors : view.floors ≡ v.floors
  pub reclaimed : view.reclaimed ≡ v.reclaimed
  pub state : view.state ≡ v.versions

-- such a view stands for the published history, so that from the reclaim mark on it is answered by that
abbrev pub ViewIsOfHistory : Type 0
ViewIsOfHistory = (v : CommitsValue) (m : Machine Value) (view : ViewValue) → StandsInMemory v m → IsMachine IsValue m → IsViewOf v view
    → ViewStands view m.published m.floors
