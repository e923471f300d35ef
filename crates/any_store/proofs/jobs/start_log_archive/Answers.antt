use Rattle.any_store.proofs.jobs.start_log_archive.Goals as goal

pub returns : goal.returns
returns g c = (c.archive_start.result, c.archive_start.ensures, c.told_start.ensures)
