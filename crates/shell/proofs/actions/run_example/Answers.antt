use Rattle.std.proofs.Common.{inl, inr}
use Rattle.shell.proofs.actions.run_example.Goals as goal

pub returns-in-Ok : goal.returns-in-Ok
returns-in-Ok g c =
    inr (record {
      made = g.D.Disk.state c.format.new.disk;
      formatted = c.in-Ok.ensures.formatted;
      sound = λ tells. g.met.D.Disk.sound c.format.new.disk tells;
      runs = c.run_script.ensures;
    })

pub returns-in-Err : goal.returns-in-Err
returns-in-Err g c = inl (c.in-Err.fault, c.in-Err.ensures.refuses, c.refuse.ensures)
