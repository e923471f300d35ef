use Rattle.std.proofs.Common.{◌≡◌, ◌∙◌, sym}
use Rattle.std.proofs.lemmas.List.{take_rest}
use Rattle.chains.specs.Writes.{kept_after}
use Rattle.chains.proofs.Kept.{rising-drop}
use Rattle.chains.proofs.chunk.Chunk.kept.Goals as goal

pub returns-then-ended-eq0-clause-is : goal.returns-then-ended-eq0-clause-is
returns-then-ended-eq0-clause-is c =
    let kept : kept_after c.args.mark c.args.self.now ≡ c.args.self.now =
    rw (c.if-ended-eq0.true, c.as_slice-writes.ensures.is) at c.ended_by-ended.ensures.kept in
    c.in_ok-share.ensures ∙ sym kept

pub returns-then-ended-eq0-clause-some : goal.returns-then-ended-eq0-clause-some
returns-then-ended-eq0-clause-some c = rw c.in_ok-share.ensures c.as_slice-writes.ensures.some

pub of_shared-requires : goal.of_shared-requires
of_shared-requires c =
    rw (
      c.as_slice-writes.ensures.is,
      take_rest c.args.self.now c.ended_by-ended.result,
    ) (rising-drop c.ended_by-ended.result 0 c.args.self.now c.as_slice-writes.ensures.rising)
