-- What has changed before the first write or sync of a disk is counted: nothing.
use Rattle.std.proofs.Common.{Result, ◌∙◌, arith}
use Rattle.disk.specs.Calls.{DiskState, Counts}
use Rattle.recovery.specs.Format.{CountsFirst}

pub first_call : {T E : Type 0} (result : Result T E) (old new : DiskState) → Counts result old new → CountsFirst old new
first_call result old new counts = record {
  high = λ few. omega (arith, counts.made);
  no_fewer = λ few. omega (arith, counts.made);
  same = λ few e. (counts.full (omega (arith, counts.made, few, e))).1;
}

pub first_twice : (old middle new : DiskState) → CountsFirst old middle → CountsFirst middle new → CountsFirst old new
first_twice old middle new one next = record {
  high = λ few. next.high (one.high few);
  no_fewer = λ few. omega (arith, one.no_fewer few, next.no_fewer (one.high few));
  same = λ few e.
      let more = one.no_fewer few in
      let rest = next.no_fewer (one.high few) in
      next.same (one.high few) (omega arith) ∙ one.same few (omega arith);
}
