use Rattle.std.proofs.Common.{inl, inr}
use Rattle.shell.proofs.showing.dump_of_heap.Goals as goal

pub returns-in-Ok : goal.returns-in-Ok
returns-in-Ok g c =
    inl (record {
      dump = c.in-Ok.dump;
      is = c.in-Ok.ensures.dump;
      said = c.tell_dump.ensures;
      same = c.in-Ok.ensures.reads;
    })

pub returns-in-Err : goal.returns-in-Err
returns-in-Err g c =
    inr (record {
      why = c.in-Err.fault;
      fault = c.in-Err.ensures.fault;
      left = c.in-Err.ensures.reads;
      said = c.refuse.ensures;
    })
