use Rattle.std.proofs.Common.{◌≡◌, vec_len}
use Rattle.std.specs.Prelude.{vec_capacity}
use Rattle.session.specs.Session as told
use Rattle.session.proofs.session.abort_all.Given as goal

-- what aborts the rest has aborted all
abbrev pub invariant-loop-opened : goal.invariant-loop-opened
invariant-loop-opened g l = record {
  capacity : vec_capacity l.opened ≡ vec_capacity l.initial.opened;
  aborts : (end : told.Stored) → told.AbortsAll l.store l.opened.items end → told.AbortsAll l.initial.store l.initial.opened.items end;
}

abbrev pub decreases-loop-opened : goal.decreases-loop-opened
decreases-loop-opened g l = vec_len l.opened
