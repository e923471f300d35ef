use Rattle.std.proofs.Common.{rules, ◌≡◌, ◌<◌, ◌++◌, length}
use Rattle.deltas.proofs.RecordsRead.{behind_short}
use Rattle.deltas.proofs.Left.{left_more, left_none, left_end}
use Rattle.deltas.proofs.unpacking.read_body.Goals as goal

pub returns-in_default : goal.returns-in_default
returns-in_default c = λ records are is. absurd (
    let some : 0 < length c.loop-rest.rest.now = search rules in
    let none = rw c.in_default.is at c.in_ok-record.ensures in
    let left = c.loop-rest.invariant records are is in
    left_none c.loop-rest.found.items c.loop-rest.rest.now (c.args.found.now.items ++ records) left.0 some none left.1)

pub loop-rest-smaller : goal.loop-rest-smaller
loop-rest-smaller c =
    let found = rw c.in-Some.is at c.in_ok-record.ensures in
    rw found.2 (behind_short c.loop-rest.rest.now found.0)

pub loop-rest-preserved : goal.loop-rest-preserved
loop-rest-preserved c = λ records are is.
    let some : 0 < length c.loop-rest.rest.now = search rules in
    let found = rw c.in-Some.is at c.in_ok-record.ensures in
    let left = c.loop-rest.invariant records are is in
    rw c.in_ok-push.ensures.items (left_more c.loop-rest.found.items c.loop-rest.rest.now c.in-Some.after.now c.in-Some.record
    (c.args.found.now.items ++ records) left.0 some found.1 found.2 left.1)

pub returns : goal.returns
returns c = λ records are is.
    let end : length c.loop-rest.rest.now ≡ 0 = search rules in
    let left = c.loop-rest.invariant records are is in
    (search rules, left_end c.loop-rest.found.items c.loop-rest.rest.now (c.args.found.now.items ++ records) left.0 end left.1)
