use Rattle.std.proofs.Common.{refl}
use Rattle.recovery.proofs.RunEntries.{mark_stays, run_read, floor_read}
use Rattle.recovery.proofs.runs.read_runs.Goals as goal

pub loop-rest-preserved-in-Commit : goal.loop-rest-preserved-in-Commit
loop-rest-preserved-in-Commit c =
    mark_stays c.args.slots.now c.loop-rest.rest.now _ c.slot-item.result c.loop-rest.runs.items c.loop-rest.archived c.loop-rest.floors _ tt
    c.in-len1-up.len_at_least c.slot-item.is c.in-Commit.is c.loop-rest.invariant

pub loop-rest-preserved-in_ok-floors-in-Floor : goal.loop-rest-preserved-in_ok-floors-in-Floor
loop-rest-preserved-in_ok-floors-in-Floor c =
    floor_read c.args.slots.now c.loop-rest.rest.now _ c.slot-item.result c.loop-rest.runs.items c.loop-rest.archived c.loop-rest.floors _ _ _
    c.in-len1-up.len_at_least c.slot-item.is c.in-Floor.is c.in_ok-floors-in-Floor.ensures.is c.loop-rest.invariant

pub loop-rest-preserved : goal.loop-rest-preserved
loop-rest-preserved c =
    mark_stays c.args.slots.now c.loop-rest.rest.now _ c.slot-item.result c.loop-rest.runs.items c.loop-rest.archived c.loop-rest.floors _ tt
    c.in-len1-up.len_at_least c.slot-item.is c.in-Reclaimed.is c.loop-rest.invariant

pub loop-rest-preserved-in_ok-push-in-Archived : goal.loop-rest-preserved-in_ok-push-in-Archived
loop-rest-preserved-in_ok-push-in-Archived c =
    run_read c.args.slots.now c.loop-rest.rest.now _ c.slot-item.result c.loop-rest.runs.items c.loop-rest.archived c.loop-rest.floors c.in-Archived.run' _ _
    c.in-len1-up.len_at_least c.slot-item.is c.in-Archived.is refl refl c.in_ok-share-in-Archived.ensures
    c.in_ok-push-in-Archived.ensures.items c.loop-rest.invariant
