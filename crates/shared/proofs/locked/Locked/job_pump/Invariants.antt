use Rattle.shared.specs.Shared.{raising_in}
use Rattle.shared.proofs.locked.Locked.job_pump.Given as goal

abbrev pub ghost-job_step : goal.ghost-job_step
ghost-job_step g a = raising_in a.self.now
