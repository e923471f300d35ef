use Rattle.std.proofs.Common.{refl}
use Rattle.log_extents.specs.Extents.{extent_of}
use Rattle.log_extents.proofs.Following.{is_bad, takes}
use Rattle.log_extents.proofs.chain_reader.ChainReader.take.Goals as goal

pub returns-in_default-clause-taken : goal.returns-in_default-clause-taken
returns-in_default-clause-taken c = (refl, is_bad c.args.self.now c.args.image.now c.fitting.ensures.taking c.in_default.ensures.none)

pub returns-clause-taken : goal.returns-clause-taken
returns-clause-taken c =
    rw c.taken_of.ensures
    (takes c.args.self.now c.fitting.ensures.taking (extent_of c.in-Some.extent) c.in-Some.ensures.found.0 c.args.image.now c.in-Some.ensures.found.1
    c.push.new.self c.in_ok-push.ensures.ok)
