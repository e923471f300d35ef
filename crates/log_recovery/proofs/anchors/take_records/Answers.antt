use Rattle.std.proofs.Common.{◌<◌, [], ◌∷◌, length, sym, ◌∙◌, ap, arith, length-append}
use Rattle.deltas.specs.Records.{spelling}
use Rattle.log_entries.proofs.Lists.{none_so_far, one_so_far, longer_list}
use Rattle.log_recovery.specs.Anchored.{IsAnchorRecord}
use Rattle.log_recovery.proofs.AnchorBytes.{anchor_code}
use Rattle.log_recovery.proofs.anchors.take_records.Goals as goal

pub loop-init : goal.loop-init
loop-init c = (none_so_far spelling (IsAnchorRecord c.args.mark) c.args.bytes.now _ c.new-found.ensures.items, ap length c.new-found.ensures.items)

pub loop-preserved : goal.loop-preserved
loop-preserved c =
    let so_far = c.loop.invariant in
    let read = rw c.in-Some.is at c.in_ok-record.ensures in
    let items = c.in_ok-push.ensures.items in
    let len = ap length items in
    let count = so_far.1 in (
      one_so_far spelling (IsAnchorRecord c.args.mark) c.args.bytes.now _ _ c.loop.found.items _ c.in-Some.record items (read.0, read.1) read.2 so_far.0,
      omega (arith, len, count, length-append c.loop.found.items (c.in-Some.record ∷ [])),
    )

pub returns-in_default : goal.returns-in_default
returns-in_default c = λ records rest is len same.
    let so_far = c.loop.invariant in
    let none = rw c.in_default.is at c.in_ok-record.ensures in
    let count = so_far.1 in
    let fewer : length c.loop.found.items < length records = omega (arith, count, len, c.loop-test.true) in
    longer_list spelling (IsAnchorRecord c.args.mark) (anchor_code c.args.mark) c.loop.found.items records _ rest so_far.0.each is fewer
    (λ r after is_r. none r after is_r.0 is_r.1) (sym so_far.0.bytes_are ∙ same)

pub returns : goal.returns
returns c =
    let so_far = c.loop.invariant in
    let count = so_far.1 in
    (so_far.0.each, omega (arith, count, c.loop-test.false), so_far.0.bytes_are)
