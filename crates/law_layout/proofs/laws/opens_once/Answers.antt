use Rattle.std.proofs.Common.{length}
use Rattle.status.specs.Rules.{runs_of}
use Rattle.law_layout.proofs.OpensAsOne.{opens_once, opens_no_fault, one_heap_fault, one_run_fault, held_no_fault}
use Rattle.law_layout.proofs.laws.opens_once.Goals as goal

pub returns-clause-one : goal.returns-clause-one
returns-clause-one c =
    λ header header' image layout layout' reading reading' opens opens'. opens_once header header' image layout layout' reading reading' opens opens'

pub returns-clause-or_fails : goal.returns-clause-or_fails
returns-clause-or_fails c = λ header image layout reading place opens. opens_no_fault header image layout reading place opens

pub returns-clause-fails : goal.returns-clause-fails
returns-clause-fails c = λ image slots p q. (
  λ a b. one_heap_fault image.heap slots p q a b,
  λ a b. one_run_fault (length image.archive) (runs_of slots) p q a b,
  λ holds. held_no_fault image.heap slots p holds,
)
