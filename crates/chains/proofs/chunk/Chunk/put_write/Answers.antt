use Rattle.std.proofs.Common.{◌≡◌, ◌<◌, List, sym, subst}
use Rattle.chains.specs.Writes.{Write, last_time}
use Rattle.chains.specs.Stamps.{write_of_loan}
use Rattle.chains.proofs.Puts.{IsChunk, pushed}
use Rattle.chains.proofs.chunk.Chunk.put_write.Goals as goal

pub invariant_of-self : goal.invariant_of-self
invariant_of-self c =
    let own = c.in-Some.own.now in
    let same = c.in-Some.ensures.value in
    let is : IsChunk c.in-Many.first own.items = rw same (rw c.in-Many.is at c.self.invariant) in
    let view : c.in-Many.shared.value.items ≡ c.args.self.now = rw c.in-Many.is at c.self.view_is in
    let later : last_time own.items < c.args.write.time = rw same (subst (λ (ws : List Write). last_time ws < c.args.write.time) (sym view) c.requires.later) in
    pushed c.put_last.result c.in-Many.first own.items c.put_last.new.writes.items (write_of_loan c.args.write) c.put_last.ensures.ok c.put_last.ensures.err is
    later c.requires.in_range
