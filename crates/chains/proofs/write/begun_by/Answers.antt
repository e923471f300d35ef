use Rattle.std.proofs.lemmas.Grind.{common_steps}
use Rattle.std.proofs.Common.{◌≡◌, ◌∙◌, ◌<◌, ◌≤◌, ◌-◌, length, get_or, sym, subst, arith}
use Rattle.std.proofs.lemmas.List.{get_or_default}
use Rattle.chains.specs.Writes.{Write}
use Rattle.chains.proofs.Begun.{rising-order}
use Rattle.chains.proofs.write.begun_by.Goals as goal

pub returns-else-time : goal.returns-else-time
returns-else-time c =
    let ws = c.args.writes.now in
    let n = c.loop-begun.begun in
    let w = c.index-writes-begun.result in
    let inside : n - 1 < length ws = omega (arith, c.loop-begun.invariant.within) in
    record {
      within = c.loop-begun.invariant.within;
      before = λ k d l.
          let here : get_or ws (n - 1) d ≡ w = get_or_default ws (n - 1) d w inside ∙ sym c.index-writes-begun.is in
          let early : (get_or ws (n - 1) d).time ≤ c.args.time =
          subst (λ (v : Write). v.time ≤ c.args.time) (sym here) (rw c.time.ensures at c.if-time.false) in
          omega (arith, early, rising-order 0 ws c.requires k (n - 1) d (omega arith) inside);
      after = c.loop-begun.invariant.after;
    }

pub loop-begun-preserved : goal.loop-begun-preserved
loop-begun-preserved c = grind (arith, common_steps)
