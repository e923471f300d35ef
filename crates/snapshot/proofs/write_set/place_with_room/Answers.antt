use Rattle.std.proofs.Common.{arith}
use Rattle.snapshot.proofs.WriteSetLemmas.{found-is_not-none, write_in-for}
use Rattle.snapshot.proofs.write_set.place_with_room.Goals as goal

pub returns-in-Ok-clause-full : goal.returns-in-Ok-clause-full
returns-in-Ok-clause-full g c none = absurd (found-is_not-none c.args.key c.args.writes.now c.in-Ok.place c.requires.rising c.in-Ok.ensures none)

pub returns-in-Err-2-clause-full : goal.returns-in-Err-2-clause-full
returns-in-Err-2-clause-full g c =
    (write_in-for c.args.key c.args.writes.now c.in-Err.place c.in-Err.ensures, omega (arith, c.requires.few, c.if-writes-lt-MOST_KEYS.false))
