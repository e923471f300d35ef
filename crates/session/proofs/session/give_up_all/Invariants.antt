use Rattle.std.proofs.Common.{◌≡◌, vec_len}
use Rattle.std.specs.Prelude.{vec_capacity}
use Rattle.session.proofs.session.give_up_all.Given as goal

abbrev pub invariant-loop-ticket : goal.invariant-loop-ticket
invariant-loop-ticket l = vec_capacity l.tickets ≡ vec_capacity l.initial.tickets

abbrev pub decreases-loop-ticket : goal.decreases-loop-ticket
decreases-loop-ticket l = vec_len l.tickets
