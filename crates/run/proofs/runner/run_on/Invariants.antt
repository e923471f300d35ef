use Rattle.std.proofs.Common.{◌≡◌, ◌≤◌, ◌+◌, length, take, vec_len}
use Rattle.std.specs.Vec.{vec_capacity}
use Rattle.any_store.specs.Values.{disk_of}
use Rattle.run.specs.Moments.{Moment, IsAtMoment}
use Rattle.run.specs.Promise.{Chain}
use Rattle.run.proofs.runner.run_on.Given as goal

abbrev pub invariant-loop-call : goal.invariant-loop-call
invariant-loop-call g l = record {
  answers_room : length l.calls ≤ vec_capacity l.answers;
  answers_made : vec_len l.answers ≡ l.call-index;
  places_room : vec_len l.initial.places + length l.calls ≤ vec_capacity l.places;
  places_made : vec_len l.places ≡ vec_len l.initial.places + l.call-index;
  few : (disk_of l.store).made ≤ (disk_of l.initial.store).made + l.call-index;
  so_far : (start : Moment) → IsAtMoment g.D.Disk.tells l.initial.store l.initial.places.items start
      → (w : Moment) × Chain g.D.Disk.tells (take l.call-index l.calls) l.answers.items start w × IsAtMoment g.D.Disk.tells l.store l.places.items w;
}
