use Rattle.log_space.proofs.Uses.{used_are_counted, is_one_more}
use Rattle.log_space.proofs.laws.used_are_counted.Goals as goal

pub returns-clause-all : goal.returns-clause-all
returns-clause-all c = used_are_counted

pub returns-clause-one : goal.returns-clause-one
returns-clause-one c = is_one_more
