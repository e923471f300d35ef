use Rattle.run.proofs.Linking.{first-is}
use Rattle.run.proofs.Survival.{moment-leaves, kept-as}
use Rattle.run.proofs.laws.stops_survive.Goals as goal

pub returns-clause-first : goal.returns-clause-first
returns-clause-first c = first-is

pub returns-clause-survives : goal.returns-clause-survives
returns-clause-survives c = moment-leaves

pub returns-clause-kept : goal.returns-clause-kept
returns-clause-kept c = kept-as
