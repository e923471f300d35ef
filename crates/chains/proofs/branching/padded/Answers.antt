use Rattle.std.proofs.Common.{◌≡◌, ◌-◌, ◌≤◌, List, length, ap, sym, subst, arith, rules}
use Rattle.std.proofs.lemmas.Grind.{common_steps}
use Rattle.chains.specs.Shapes.{Shape, highest}
use Rattle.chains.specs.Writes.{Write}
use Rattle.chains.proofs.Growth.{push-low}
use Rattle.chains.proofs.Shapes.{at_low}
use Rattle.chains.proofs.branching.padded.Goals as goal

pub loop-all-preserved : goal.loop-all-preserved
loop-all-preserved c =
    let all = c.loop-all.all.items in
    let count : c.len-in-loop-all.result ≡ length all = omega (arith, c.len-in-loop-all.ensures, c.loop-all.all.ok.0) in
    let here = at_low all (c.len-in-loop-all.result - 1) c.index.result.now (omega (arith, count, c.loop-all.invariant.some)) c.index.ensures in
    let same = ap (λ (t : Shape Write). t.height) c.in_ok-last.ensures in
    record {
      some = search rules;
      within = search rules;
      front = grind (arith, common_steps);
      low =
          subst (λ (l : List (Shape Write)). highest l ≤ highest c.args.branches.items) (sym c.in_ok-push.ensures.items)
          (push-low all c.in_ok-last.last (highest c.args.branches.items) c.loop-all.invariant.low
          (omega (arith, here, same, c.loop-all.invariant.low)));
    }
