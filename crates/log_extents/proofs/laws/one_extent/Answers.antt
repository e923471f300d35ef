use Rattle.log_extents.proofs.Bytes.{one_extent, extent_length}
use Rattle.log_extents.proofs.laws.one_extent.Goals as goal

pub returns-clause-one : goal.returns-clause-one
returns-clause-one c = one_extent

pub returns-clause-len : goal.returns-clause-len
returns-clause-len c = extent_length
