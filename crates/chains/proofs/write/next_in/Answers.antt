use Rattle.std.proofs.Common.{◌∙◌, Some, ap, sym, arith}
use Rattle.chains.specs.Writes.{Write}
use Rattle.chains.proofs.Nexts.{none-begun, find-begun}
use Rattle.chains.proofs.write.next_in.Goals as goal

pub returns-then-begun-writes : goal.returns-then-begun-writes
returns-then-begun-writes c = sym (none-begun c.args.time c.args.writes.now c.begun_by-begun.result c.begun_by-begun.ensures (omega arith))

pub returns : goal.returns
returns c =
    ap (λ (w : Write). Some w) c.index-writes-begun.is
    ∙ sym (find-begun c.args.time c.args.writes.now c.begun_by-begun.result c.index-writes-begun.result c.begun_by-begun.ensures
    (let within = c.begun_by-begun.ensures.within in omega arith))
