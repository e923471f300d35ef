use Rattle.std.proofs.Common.{◌∙◌, sym, arith}
use Rattle.chains.specs.Writes.{is_after}
use Rattle.chains.proofs.Branches.{rest_low, rest_next}
use Rattle.chains.proofs.Shapes.{behind_low, find_first, find_behind}
use Rattle.chains.proofs.older.Older.+next_after.Goals as goal

pub loop-rest-init : goal.loop-rest-init
loop-rest-init t c =
    record { low = rest_low c.in-Branches.ensures c.from_begun-rest.ensures; found = rest_next c.in-Branches.ensures c.from_begun-rest.ensures }

pub returns-in-Some : goal.returns-in-Some
returns-in-Some t c =
    sym (find_first c.loop-rest.rest.now c.in-len1-up.len_at_least c.branch-item.is (is_after c.args.time) c.in-Some.write.now
    (rw c.writes.ensures.is at (sym c.in-Some.ensures))) ∙ c.loop-rest.invariant.found

pub loop-rest-preserved : goal.loop-rest-preserved
loop-rest-preserved t c = record {
  low = omega (arith, behind_low c.loop-rest.rest.now c.in-len1-up.len_at_least c.branch-item.is, c.loop-rest.invariant.low);
  found = find_behind c.loop-rest.rest.now c.in-len1-up.len_at_least c.branch-item.is (is_after c.args.time)
      (rw c.writes.ensures.is at (sym c.in_default-next_after.ensures)) ∙ c.loop-rest.invariant.found;
}
