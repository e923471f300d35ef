use Rattle.law_layout.specs.Opening.{unread, unread_layout}
use Rattle.recovery.proofs.OneAnswer.{opening_only}
use Rattle.recovery.proofs.HistoryRead.{stands_opening, history_read}
use Rattle.recovery.proofs.laws.stands_opens.Goals as goal

pub returns : goal.returns
returns c = λ header image layout reading h floors laid held stands built all_built. (
  history_read header image layout reading h floors laid held stands built all_built,
  λ fault fails. opening_only header image (unread_layout layout) (unread reading) fault
      (stands_opening header image layout reading h floors laid held stands built all_built) fails,
)
