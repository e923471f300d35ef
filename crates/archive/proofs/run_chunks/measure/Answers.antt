use Rattle.std.proofs.Common.{◌∙◌, refl, ap, length, arith}
use Rattle.archive.specs.Answers.{record_of}
use Rattle.archive.specs.Pieces.{size_of}
use Rattle.archive.proofs.Lefts.{none_left, one_less}
use Rattle.archive.proofs.run_chunks.measure.Goals as goal

pub loop-head-preserved : goal.loop-head-preserved
loop-head-preserved g c =
    let r = record_of c.in-Some.head c.in-Some.value.now in
    let less = one_less r (g.W.RecordWalk.left c.loop-head.walk) (g.W.RecordWalk.left c.advance.new.self) c.in-Some.ensures c.advance.ensures.left in
    record {
      all = c.advance.ensures.all ∙ c.loop-head.invariant.all;
      records = omega (arith, less.0, c.loop-head.invariant.records);
      len = omega (arith, less.1, c.loop-head.invariant.len, c.record_len.ensures.is c.in-Some.head);
      few = omega (arith, c.loop-head.invariant.few);
      least = omega (arith, c.loop-head.invariant.least, c.record_len.ensures.least);
      most = omega (arith, c.loop-head.invariant.most, c.record_len.ensures.most);
      short = omega arith;
    }

pub loop-head-smaller : goal.loop-head-smaller
loop-head-smaller g c =
    let r = record_of c.in-Some.head c.in-Some.value.now in
    let less = one_less r (g.W.RecordWalk.left c.loop-head.walk) (g.W.RecordWalk.left c.advance.new.self) c.in-Some.ensures c.advance.ensures.left in
    omega (arith, less.0)

pub returns-then-len-gt-LAST_PLACE-clause-none : goal.returns-then-len-gt-LAST_PLACE-clause-none
returns-then-len-gt-LAST_PLACE-clause-none g c =
    let r = record_of c.in-Some.head c.in-Some.value.now in
    let less = one_less r (g.W.RecordWalk.left c.loop-head.walk) _ c.in-Some.ensures refl in
    omega (arith, less.1, c.loop-head.invariant.len, c.record_len.ensures.is c.in-Some.head)

pub returns-clause-records : goal.returns-clause-records
returns-clause-records g c = omega (arith, c.loop-head.invariant.records, ap length (none_left _ c.in_default.ensures))

pub returns-clause-len : goal.returns-clause-len
returns-clause-len g c = omega (arith, c.loop-head.invariant.len, ap size_of (none_left _ c.in_default.ensures))
