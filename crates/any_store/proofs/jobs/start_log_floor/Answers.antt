use Rattle.any_store.proofs.jobs.start_log_floor.Goals as goal

pub returns : goal.returns
returns g c = (c.start_floor.result, c.start_floor.ensures, c.told_start.ensures)
