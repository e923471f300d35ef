use Rattle.law_log_sizes.proofs.Moved.{member-moved}
use Rattle.law_log_sizes.proofs.Next.{comes-next}
use Rattle.law_log_sizes.proofs.laws.member_is_moved.Goals as goal

pub returns-clause-moved : goal.returns-clause-moved
returns-clause-moved c = λ len before m rising. member-moved len before m rising

pub returns-clause-next : goal.returns-clause-next
returns-clause-next c = λ mark olds front m ordered. comes-next mark olds front m ordered
