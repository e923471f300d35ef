use Rattle.std.proofs.Common.{◌≡◌, ◌∙◌, Some, None, sym, arith}
use Rattle.std.specs.Prelude.{find}
use Rattle.history.specs.Versions.{ends_after}
use Rattle.chains.specs.Shapes.{all_of}
use Rattle.chains.specs.Rows.{first_time_or, versions_upto, version_of_loan}
use Rattle.chains.proofs.Branches.{ending_first, ending_behind, rest_low, rest_ending}
use Rattle.chains.proofs.Shapes.{behind, behind_low}
use Rattle.chains.proofs.older.Older.+ending_after.Goals as goal

pub loop-rest-init : goal.loop-rest-init
loop-rest-init t c =
    record { low = rest_low c.in-Branches.ensures c.from_begun-rest.ensures; found = rest_ending c.in-Branches.ensures c.from_begun-rest.ensures c.args.end }

pub returns-in-Some : goal.returns-in-Some
returns-in-Some t c =
    let some = c.in-len1-up.len_at_least in
    let v = version_of_loan c.in-Some.version in
    let here : find (ends_after c.args.time)
    (versions_upto (first_time_or c.args.end (all_of (behind c.loop-rest.rest.now))) c.branch-item.result.chunks) ≡ Some v =
    rw (c.writes.ensures.is, c.first_time_or-next.ensures) at (sym c.in-Some.ensures) in
    sym (ending_first c.loop-rest.rest.now some c.branch-item.is c.args.time c.args.end v here) ∙ c.loop-rest.invariant.found

pub loop-rest-preserved : goal.loop-rest-preserved
loop-rest-preserved t c =
    let some = c.in-len1-up.len_at_least in
    let none : find (ends_after c.args.time)
    (versions_upto (first_time_or c.args.end (all_of (behind c.loop-rest.rest.now))) c.branch-item.result.chunks) ≡ None =
    rw (c.writes.ensures.is, c.first_time_or-next.ensures) at (sym c.in_default-ending_after.ensures) in
    record {
      low = omega (arith, behind_low c.loop-rest.rest.now some c.branch-item.is, c.loop-rest.invariant.low);
      found = ending_behind c.loop-rest.rest.now some c.branch-item.is c.args.time c.args.end none ∙ c.loop-rest.invariant.found;
    }
