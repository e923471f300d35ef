use Rattle.wire.proofs.ValuesRead.{one_value}
use Rattle.wire.proofs.value.one_value.Goals as goal

pub returns : goal.returns
returns c = one_value
