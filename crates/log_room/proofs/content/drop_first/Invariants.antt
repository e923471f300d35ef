use Rattle.std.proofs.Common.{◌≡◌, drop}
use Rattle.log_room.proofs.content.drop_first.Given as goal

abbrev pub invariant-loop : goal.invariant-loop
invariant-loop l = l.contents.items ≡ drop l.counter l.fn.contents.items
