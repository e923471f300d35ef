use Rattle.law_live_ranges.proofs.Publishing.{group_named, run_named, anchors_named, floor_names_no_more, growth_names_piece}
use Rattle.law_live_ranges.proofs.slots_name.Goals as goal

pub returns-clause-group : goal.returns-clause-group
returns-clause-group c = group_named

pub returns-clause-job : goal.returns-clause-job
returns-clause-job c = run_named

pub returns-clause-anchors : goal.returns-clause-anchors
returns-clause-anchors c = anchors_named

pub returns-clause-floor : goal.returns-clause-floor
returns-clause-floor c = floor_names_no_more

pub returns-clause-growth : goal.returns-clause-growth
returns-clause-growth c = growth_names_piece
