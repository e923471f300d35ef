use Rattle.history.specs.Histories.{last}
use Rattle.history.proofs.ViewScans.{kept-time, time-kept, kept-interval, interval-kept}
use Rattle.history.proofs.laws.kept_is_answered.Goals as goal

pub returns-clause-time : goal.returns-clause-time
returns-clause-time g c = λ h floor time. (
  λ none. let kept = kept-time (last h) floor time none in record { from_floor = kept.0; upto_last = kept.1 },
  λ kept. time-kept (last h) floor time kept.from_floor kept.upto_last,
)

pub returns-clause-interval : goal.returns-clause-interval
returns-clause-interval g c = λ h floor a b. (
  λ none. let kept = kept-interval (last h) floor a b none in record { from_floor = kept.0; not_empty = kept.1; upto_last = kept.2 },
  λ kept. interval-kept (last h) floor a b kept.from_floor kept.not_empty kept.upto_last,
)
