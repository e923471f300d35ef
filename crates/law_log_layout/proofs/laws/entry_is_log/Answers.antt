use Rattle.law_log_layout.proofs.EntryJoins.{floor-is_log, run-is_log}
use Rattle.law_log_layout.proofs.laws.entry_is_log.Goals as goal

pub returns-clause-floor : goal.returns-clause-floor
returns-clause-floor c = λ most root l reading h floors numbers link f is stands joins above le shares.
    floor-is_log most root l reading h floors is stands numbers link f joins above le shares

pub returns-clause-run : goal.returns-clause-run
returns-clause-run c = λ most root l reading h floors numbers link a s is stands joins few entry_is each apart row plan later le shares.
    run-is_log most root l reading h floors is stands numbers link a s joins few entry_is each apart row plan later le shares
