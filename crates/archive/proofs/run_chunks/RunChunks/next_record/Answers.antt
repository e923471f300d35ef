use Rattle.archive.specs.Answers.{record_of}
use Rattle.archive.proofs.Lefts.{none_left, one_record, records_behind}
use Rattle.archive.proofs.run_chunks.RunChunks.next_record.Goals as goal

pub returns-then-len-room-clause-some : goal.returns-then-len-room-clause-some
returns-then-len-room-clause-some g c =
    one_record (record_of c.in-Some.head c.in-Some.value.now) (g.W.RecordWalk.left c.args.self.now.walk) _ c.in-Some.ensures c.encode_record-len.ensures.bytes

pub returns-else-len-room-clause-some : goal.returns-else-len-room-clause-some
returns-else-len-room-clause-some g c =
    one_record (record_of c.in-Some.head c.in-Some.value.now) (g.W.RecordWalk.left c.args.self.now.walk) _ c.in-Some.ensures c.encode_record-len.ensures.bytes

pub returns-then-len-room-clause-passed : goal.returns-then-len-room-clause-passed
returns-then-len-room-clause-passed g c = λ fits.
    records_behind (record_of c.in-Some.head c.in-Some.value.now) (g.W.RecordWalk.left c.args.self.now.walk) _ c.in-Some.ensures c.advance.ensures.left

pub returns-in_default-clause-none : goal.returns-in_default-clause-none
returns-in_default-clause-none g c = none_left _ c.in_default.ensures
