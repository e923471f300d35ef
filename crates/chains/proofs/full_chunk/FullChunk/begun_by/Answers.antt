use Rattle.std.proofs.Common.{◌<◌, ◌-◌, length, arith}
use Rattle.chains.proofs.Begun.{rising-order}
use Rattle.chains.proofs.full_chunk.FullChunk.begun_by.Goals as goal

pub loop-begun-init : goal.loop-begun-init
loop-begun-init c =
    let ws = c.args.self.now in
    let n = c.later_from-begun.result in
    record {
      within = c.later_from-begun.ensures.within;
      after = λ k d l h.
          let inside : k < length ws = omega (arith, c.later_from-begun.ensures.full) in
          omega (arith, c.later_from-begun.ensures.later d (omega arith), rising-order 0 ws c.requires.rising n k d (omega arith) inside);
    }

pub returns-else-time : goal.returns-else-time
returns-else-time c =
    let ws = c.args.self.now in
    let n = c.loop-begun.begun in
    let inside : n - 1 < length ws = omega (arith, c.loop-begun.invariant.within, c.time.ensures.full) in
    record {
      is = record {
        within = omega (arith, c.loop-begun.invariant.within, c.time.ensures.full);
        before = λ k d l. omega (arith, c.time.ensures.is d, c.if-time.false, rising-order 0 ws c.requires.rising k (n - 1) d (omega arith) inside);
        after = λ k d l h. c.loop-begun.invariant.after k d l (omega (arith, c.time.ensures.full));
      };
      within = c.loop-begun.invariant.within;
    }

pub returns-after-loop-begun : goal.returns-after-loop-begun
returns-after-loop-begun c = record {
  is = record {
    within = omega (arith, c.loop-begun.invariant.within, c.later_from-begun.ensures.full);
    before = λ k d l. absurd (omega (arith, c.loop-begun-test.false));
    after = λ k d l h. c.loop-begun.invariant.after k d l (omega (arith, c.later_from-begun.ensures.full));
  };
  within = c.loop-begun.invariant.within;
}
