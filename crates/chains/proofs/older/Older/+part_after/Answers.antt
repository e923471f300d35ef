use Rattle.std.proofs.Common.{◌≡◌, Some, None, arith}
use Rattle.std.specs.Prelude.{find}
use Rattle.history.specs.Versions.{ends_after}
use Rattle.chains.specs.Shapes.{all_of}
use Rattle.chains.specs.Found.{IsPartFrom}
use Rattle.chains.specs.Rows.{first_time_or, versions_upto}
use Rattle.chains.proofs.Branches.{found_first, found_later, none_left, rest_low, rest_found}
use Rattle.chains.proofs.Shapes.{behind, behind_low}
use Rattle.chains.proofs.older.Older.+part_after.Goals as goal

pub loop-rest-init : goal.loop-rest-init
loop-rest-init t c =
    record {
      low = rest_low c.in-Branches.ensures c.from_begun-rest.ensures;
      found = λ o found. rest_found c.in-Branches.ensures c.from_begun-rest.ensures c.args.end o found;
    }

pub returns-in-Some-2 : goal.returns-in-Some-2
returns-in-Some-2 t c =
    let rest = c.loop-rest.rest.now in
    let here : IsPartFrom c.args.time (versions_upto (first_time_or c.args.end (all_of (behind rest))) c.branch-item.result.chunks) c.in-Some-2.part =
    rw (c.in-Some-2.is, c.writes.ensures.is, c.first_time_or-next.ensures) at c.in_ok-part.ensures in
    c.loop-rest.invariant.found (Some c.in-Some-2.part)
    (found_first rest c.in-len1-up.len_at_least c.branch-item.is c.args.time c.args.end c.in-Some-2.part here)

pub loop-rest-preserved : goal.loop-rest-preserved
loop-rest-preserved t c =
    let rest = c.loop-rest.rest.now in
    let none : find (ends_after c.args.time) (versions_upto (first_time_or c.args.end (all_of (behind rest))) c.branch-item.result.chunks) ≡ None =
    rw (c.in_default-2.is, c.writes.ensures.is, c.first_time_or-next.ensures) at c.in_ok-part.ensures in
    record {
      low = omega (arith, behind_low rest c.in-len1-up.len_at_least c.branch-item.is, c.loop-rest.invariant.low);
      found = λ o found. c.loop-rest.invariant.found o (found_later rest c.in-len1-up.len_at_least c.branch-item.is c.args.time c.args.end o none found);
    }

pub returns : goal.returns
returns t c = c.loop-rest.invariant.found None (none_left c.args.time c.args.end c.loop-rest.rest.now c.in_default.len_below)
