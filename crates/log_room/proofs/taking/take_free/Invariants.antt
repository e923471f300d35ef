use Rattle.std.proofs.Common.{◌≡◌, ◌+◌, ℕ, List, length, vec_capacity}
use Rattle.log_space.specs.Uses.{all_used, used_count}
use Rattle.log_room.specs.Rooms.{AreLeastFree}
use Rattle.log_room.proofs.taking.take_free.Given as goal

abbrev pub invariant-loop : goal.invariant-loop
invariant-loop l = record {
  taken : List ℕ;
  items : l.numbers.items ≡ taken;
  many : length taken ≡ l.counter;
  room : vec_capacity l.numbers ≡ l.count;
  least : AreLeastFree l.fn.space taken;
  new_is : l.space ≡ all_used l.fn.space taken;
  used : used_count l.space ≡ used_count l.fn.space + l.counter;
  len : length l.space ≡ length l.fn.space;
}
