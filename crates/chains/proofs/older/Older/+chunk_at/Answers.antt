use Rattle.std.proofs.Common.{◌≤◌, rules, arith}
use Rattle.chains.specs.Rows.{versions_upto}
use Rattle.chains.specs.Writes.{last_time}
use Rattle.chains.proofs.Branches.{lower, fork_front, fork_last, fork_later, fork_upto}
use Rattle.chains.proofs.RowWalks.{front-whole}
use Rattle.chains.proofs.older.Older.+chunk_at.Goals as goal

pub returns-in-Writes-clause-is : goal.returns-in-Writes-clause-is
returns-in-Writes-clause-is t c =
    let ended : last_time c.in-Writes.writes.now ≤ c.args.end = rw c.in-Writes.ensures.0 at c.requires.ended in
    rw c.in-Writes.ensures.0 (front-whole c.args.time c.args.end c.in-Writes.writes.now c.in-Writes.ensures.1 ended c.requires.later)

pub chunk_at-requires : goal.chunk_at-requires
chunk_at-requires t c =
    let some = c.in-len1-up.len_at_least in
    let low = lower c.in-Branches.ensures c.from_begun.ensures some c.branch-item.is c.writes.ensures.lower in
    let ended = fork_last c.in-Branches.ensures c.from_begun.ensures some c.branch-item.is c.args.end c.requires.ended in
    let later = fork_later c.in-Branches.ensures c.from_begun.ensures some c.branch-item.is c.args.end c.requires.later in
    search rules

pub returns-in-len1-up-clause-is : goal.returns-in-len1-up-clause-is
returns-in-len1-up-clause-is t c =
    let some = c.in-len1-up.len_at_least in
    fork_front c.in-Branches.ensures c.from_begun.ensures some c.branch-item.is c.args.end c.chunk_at.result.1
    (versions_upto c.chunk_at.result.1 c.chunk_at.result.0.now)
    (rw c.first_time_or.ensures at c.chunk_at.ensures.upto) (rw (c.writes.ensures.is, c.first_time_or.ensures) at c.chunk_at.ensures.is)

pub returns-in-len1-up-clause-upto : goal.returns-in-len1-up-clause-upto
returns-in-len1-up-clause-upto t c =
    let some = c.in-len1-up.len_at_least in
    omega (
      arith,
      c.chunk_at.ensures.upto,
      c.first_time_or.ensures,
      fork_upto c.in-Branches.ensures c.from_begun.ensures some c.branch-item.is c.args.end c.requires.ended,
    )
