use Rattle.std.proofs.Common.{◌≡◌, None}
use Rattle.std.specs.Prelude.{find}
use Rattle.history.specs.Versions.{versions, ends_after}
use Rattle.chains.specs.Found.{IsPartFrom}
use Rattle.archive.specs.Answers.{record_of}
use Rattle.vacuum.specs.Ahead.{first_record}
use Rattle.vacuum.proofs.Firsts.{records-none}
use Rattle.vacuum.proofs.Nexts.{none-ahead, shows-none}
use Rattle.vacuum.proofs.ahead.ahead_in.Goals as goal

pub returns-in_default : goal.returns-in_default
returns-in_default c =
    let none : find (ends_after c.args.passed) (versions c.args.chain.now.writes) ≡ None = rw c.in_default.is at c.in_ok-part.ensures.is in
    records-none c.args.passed c.args.upto c.args.chain.now c.in_ok-part.ensures.rising none

pub returns-then-is_none : goal.returns-then-is_none
returns-then-is_none c =
    let part : IsPartFrom c.args.passed (versions c.args.chain.now.writes) c.in-Some.part = rw c.in-Some.is at c.in_ok-part.ensures.is in
    none-ahead c.args.passed c.args.upto c.args.chain.now c.in_ok-part.ensures.rising c.key-key.result c.in-Some.part part
    (shows-none (λ p. record_of p.0 p.1.now) c.record.result (first_record c.key-key.result c.args.upto c.in-Some.part) c.if-is_none.ensures c.record.ensures)
