use Rattle.std.proofs.Common.{◌≡◌, ℕ, Some, Ok, subst, sym}
use Rattle.history.specs.declared.key.Key.{Key}
use Rattle.any_store.specs.Queries as queries
use Rattle.any_store.specs.Values.{StoreValue}
use Rattle.law_any_store.specs.Standing.{Stands}
use Rattle.law_any_store.proofs.Views.{at-stands}
use Rattle.workload.specs.Reading.{value_of}
use Rattle.workload.proofs.Rounds.{has-last_round}
use Rattle.workload.proofs.in_memory.holds_last_round.Goals as goal

pub returns-clause-stands : goal.returns-clause-stands
returns-clause-stands g c = λ m stands.
    subst (λ (x : StoreValue). Stands g.D.Disk.tells x m) (sym c.end.ensures) (at-stands _ _ _ _ _ _ _ _ stands c.at-answer.ensures).stands

pub returns-clause-holds : goal.returns-clause-holds
returns-clause-holds g c = λ yes told m stands.
    let says = subst (λ (k : Key). queries.AnswersAtView g.D.Disk.tells c.args.store.now c.in-Ok.view k c.last-last.result c.at-answer.result
    c.at-answer.new.self) c.key_of.ensures c.at-answer.ensures in
    let is = subst (λ (n : ℕ). c.at-answer.result ≡ Ok (Some (value_of n))) c.from.ensures (c.is_of_round.ensures yes) in
    has-last_round _ _ _ _ _ _ _ _ _ told stands c.in-Ok.ensures c.last-last.ensures says is
