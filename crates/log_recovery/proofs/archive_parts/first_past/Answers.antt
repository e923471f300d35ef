use Rattle.std.proofs.Common.{◌≡◌, map}
use Rattle.law_log_layout.specs.HeapLog.{run_span}
use Rattle.log_recovery.specs.Rules.{roll_part}
use Rattle.log_recovery.proofs.Past.{fails_front, match_joined}
use Rattle.log_recovery.proofs.archive_parts.first_past.Goals as goal

pub returns-in-Some : goal.returns-in-Some
returns-in-Some c =
    fails_front c.args.archive_len (map run_span c.args.runs.now) (map roll_part c.args.rolls.now) c.in-Some.start c.in-Some.ensures

pub returns-in-None : goal.returns-in-None
returns-in-None c =
    match_joined c.args.archive_len (map run_span c.args.runs.now) (map roll_part c.args.rolls.now) c.first_roll_past.result c.in-None.ensures
    c.first_roll_past.ensures
