use Rattle.log_entries.proofs.Lists.{none_so_far, one_so_far, shorter}
use Rattle.log_entries.proofs.item.take_list.Goals as goal

pub loop-found-init : goal.loop-found-init
loop-found-init g c = none_so_far _ _ c.args.bytes.now _ c.new-found.ensures.items

pub loop-found-preserved : goal.loop-found-preserved
loop-found-preserved g c =
    let read = rw c.in-Some.is at c.in_ok-item.ensures in
    one_so_far _ _ c.args.bytes.now c.loop-found.rest.now c.in-Some.after.now c.loop-found.found.items _ c.in-Some.item c.in_ok-push.ensures.items read.0
    read.1 c.loop-found.invariant

pub loop-found-smaller : goal.loop-found-smaller
loop-found-smaller g c =
    let read = rw c.in-Some.is at c.in_ok-item.ensures in
    shorter _ _ _ (g.met.T.Item.some c.in-Some.item) read.1
