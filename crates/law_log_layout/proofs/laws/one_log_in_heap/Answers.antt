use Rattle.law_log_layout.proofs.OneLog.{one-log}
use Rattle.law_log_layout.proofs.OneReading.{one-reading}
use Rattle.law_log_layout.proofs.laws.one_log_in_heap.Goals as goal

pub returns-clause-heap : goal.returns-clause-heap
returns-clause-heap c = λ most root l m r s heap archive other few is_l is_m holds_l holds_m.
    one-log most root l m r s heap archive other few is_l is_m holds_l holds_m

pub returns-clause-reading : goal.returns-clause-reading
returns-clause-reading c = λ most root l m r s heap archive few is_l is_m holds_l holds_m.
    one-reading most root l m r s heap archive few is_l is_m holds_l holds_m
