use Rattle.std.proofs.Common.{◌∙◌}
use Rattle.script.proofs.InstantLemmas.{instant_read}
use Rattle.script.proofs.times.instant.Goals as goal

pub returns : goal.returns
returns c = c.ok.ensures.value ∙ instant_read c.args.word.now c.read_instant_bytes.result c.read_instant_bytes.ensures.ok c.read_instant_bytes.ensures.only
