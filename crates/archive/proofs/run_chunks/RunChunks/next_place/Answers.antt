use Rattle.archive.specs.Answers.{record_of}
use Rattle.archive.proofs.Lefts.{none_left, one_entry, entries_behind}
use Rattle.archive.proofs.run_chunks.RunChunks.next_place.Goals as goal

pub returns-then-len-room-clause-some : goal.returns-then-len-room-clause-some
returns-then-len-room-clause-some g c =
    one_entry c.args.at (record_of c.in-Some.head c.in-Some.value.now) (g.W.RecordWalk.left c.args.self.now.walk) _ c.in-Some.ensures
    c.encode_place-len.ensures.bytes

pub returns-else-len-room-clause-some : goal.returns-else-len-room-clause-some
returns-else-len-room-clause-some g c =
    one_entry c.args.at (record_of c.in-Some.head c.in-Some.value.now) (g.W.RecordWalk.left c.args.self.now.walk) _ c.in-Some.ensures
    c.encode_place-len.ensures.bytes

pub returns-then-len-room-clause-passed : goal.returns-then-len-room-clause-passed
returns-then-len-room-clause-passed g c = λ fits.
    entries_behind c.args.at c.record_len.result (record_of c.in-Some.head c.in-Some.value.now) (g.W.RecordWalk.left c.args.self.now.walk) _ c.in-Some.ensures
    c.advance.ensures.left (c.record_len.ensures.is c.in-Some.head)

pub returns-in_default-clause-none : goal.returns-in_default-clause-none
returns-in_default-clause-none g c = none_left _ c.in_default.ensures
