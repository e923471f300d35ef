use Rattle.shared.proofs.locked.Locked.job_step.Given as goal

abbrev pub ghost-note_job : goal.ghost-note_job
ghost-note_job g a = g.raising
