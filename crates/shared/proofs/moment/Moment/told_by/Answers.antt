use Rattle.std.proofs.Common.{rules, ◌∙◌, sym}
use Rattle.shared.proofs.Passes.{forks}
use Rattle.shared.proofs.moment.Moment.told_by.Goals as goal

pub split_pass-pass-requires : goal.split_pass-pass-requires
split_pass-pass-requires g c = (search rules, (search rules, (c.requires.1 ∙ sym c.requires.0, forks _ _)))
