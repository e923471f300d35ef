use Rattle.std.proofs.Common.{◌≡◌, ◌<◌, ◌∙◌, ◌++◌, [], List, length, ap, sym, subst, arith, append-nil, append_assoc, rules}
use Rattle.std.proofs.lemmas.Bool.Decides.{nat_tests}
use Rattle.chains.specs.Committing.{ArePartedAt}
use Rattle.chains.specs.KeyWrites.{KeyWrites, IsOrdered, latest, with_commit}
use Rattle.chains.specs.Shapes.{Shape, all_of}
use Rattle.chains.proofs.CommitParts.{commit-nothing, commit-two, two-rising, latest-parts, ordered-with_commit}
use Rattle.chains.proofs.KeyNodes.{behind_ordered}
use Rattle.chains.proofs.Shapes.{behind, behind_low, first_low, none-left, chunks_are, popped}
use Rattle.chains.proofs.key_node.KeyNode.+add_written.Goals as goal

pub returns-then-is_empty : goal.returns-then-is_empty
returns-then-is_empty t c =
    let found = all_of c.args.found.now.items in
    let none : length c.args.writes.now ≡ 0 = grind (arith, nat_tests) in
    popped _ _ c.in_ok-push.ensures.items ∙ ap (λ (n : Shape KeyWrites). found ++ n.chunks) c.in_ok-share.ensures
    ∙ ap (λ (m : List KeyWrites). found ++ m) (sym (commit-nothing c.args.self.now.chunks c.args.time c.args.writes.now none))

pub add_leaves-requires : goal.add_leaves-requires
add_leaves-requires t c =
    rw (
      c.in_ok-add_with_writes-in-Chains.ensures,
      c.in_ok-all-in-Chains.ensures.items,
    ) (ordered-with_commit c.in-Chains.chains.now c.args.time c.args.writes.now c.in-Chains.ensures.1)

pub add_written-requires : goal.add_written-requires
add_written-requires t c =
    let rest = c.loop-rest.rest.now in
    let some = c.in-len1-up.len_at_least in
    let low : c.node-item.result.height < c.args.self.now.height = omega (arith, first_low rest some c.node-item.is, c.loop-rest.invariant.low) in
    let later =
    (latest-parts c.node-item.result.chunks (all_of (behind rest)) c.args.time
    (subst (λ (m : List KeyWrites). latest m < c.args.time) (chunks_are rest some c.node-item.is) c.loop-rest.invariant.earlier)).0 in
    let rising =
    (two-rising (all_of (behind rest)) c.loop-rest.left.now c.before_first.result.0.now c.before_first.result.1.now c.before_first.ensures
    c.loop-rest.invariant.rising).0 in
    search rules

pub loop-rest-preserved : goal.loop-rest-preserved
loop-rest-preserved t c =
    let rest = c.loop-rest.rest.now in
    let some = c.in-len1-up.len_at_least in
    let whole = chunks_are rest some c.node-item.is in
    let parted = c.before_first.ensures in
    let all = all_of c.loop-rest.all.items in
    let later = with_commit (all_of (behind rest)) c.args.time c.before_first.result.1.now in
    let two =
    commit-two c.node-item.result.chunks (all_of (behind rest)) c.args.time c.loop-rest.left.now c.before_first.result.0.now c.before_first.result.1.now
    parted (subst IsOrdered whole c.loop-rest.invariant.ordered) in
    record {
      low = omega (arith, behind_low rest some c.node-item.is, c.loop-rest.invariant.low);
      ordered = behind_ordered rest some c.node-item.is c.loop-rest.invariant.ordered;
      earlier =
          (latest-parts c.node-item.result.chunks (all_of (behind rest)) c.args.time
          (subst (λ (m : List KeyWrites). latest m < c.args.time) whole c.loop-rest.invariant.earlier)).1;
      rising = (two-rising (all_of (behind rest)) c.loop-rest.left.now c.before_first.result.0.now c.before_first.result.1.now parted
          c.loop-rest.invariant.rising).1;
      none = λ below. (subst (λ (m : List KeyWrites). ArePartedAt m c.loop-rest.left.now c.before_first.result.0.now c.before_first.result.1.now)
          (none-left (behind rest) below) parted).1;
      put =
          ap (λ (l : List KeyWrites). l ++ later) c.in_ok-add_written.ensures
          ∙ append_assoc all (with_commit c.node-item.result.chunks c.args.time c.before_first.result.0.now) later
          ∙ ap (λ (l : List KeyWrites). all ++ l) (sym (ap (λ (m : List KeyWrites). with_commit m c.args.time c.loop-rest.left.now) whole ∙ two))
          ∙ c.loop-rest.invariant.put;
    }

pub add_forks-requires : goal.add_forks-requires
add_forks-requires t c =
    let all = all_of c.loop-rest.all.items in
    let none : all_of c.loop-rest.rest.now ≡ [] = none-left c.loop-rest.rest.now c.in_default.len_below in
    let left = c.loop-rest.invariant.none c.in_default.len_below in
    let is : all ≡ with_commit c.args.self.now.chunks c.args.time c.args.writes.now =
    sym (append-nil all) ∙ (λ i. all ++ with_commit (sym none i) c.args.time (sym left i)) ∙ c.loop-rest.invariant.put in
    rw is (ordered-with_commit c.args.self.now.chunks c.args.time c.args.writes.now (subst IsOrdered c.in-Nodes.ensures.chains c.in-Nodes.ensures.ordered))
