use Rattle.disk.specs.Calls.{top}
use Rattle.any_store.specs.Values.{disk_of}
use Rattle.session.specs.Session as told
use Rattle.session.specs.declared.reply.Reply.{Reply}
use Rattle.session.proofs.JobLemmas.{left_of}
use Rattle.session.proofs.stepping.take_steps.Given as goal

-- what takes the rest has taken all
abbrev pub invariant-loop-work : goal.invariant-loop-work
invariant-loop-work g l =
    (r : Reply) (end : told.Stored) → told.EndsWork g.D.Disk.tells l.work l.store r end → told.EndsWork g.D.Disk.tells l.initial.work l.initial.store r end

-- each step makes a device call, and there are not so many
abbrev pub decreases-loop-work : goal.decreases-loop-work
decreases-loop-work g l = left_of top (disk_of l.store).made
