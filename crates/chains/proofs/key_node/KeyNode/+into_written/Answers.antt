use Rattle.std.proofs.Common.{◌≡◌, ◌<◌, ◌≤◌, ◌∙◌, ◌∷◌, ◌++◌, [], List, length, ap, sym, subst, arith, append-nil, append_assoc, rules}
use Rattle.std.specs.Prelude.{option_to_list}
use Rattle.std.proofs.lemmas.Bool.Decides.{nat_tests}
use Rattle.chains.specs.KeyNodes.{IsKeyFork}
use Rattle.chains.specs.KeyWrites.{KeyWrites, IsOrdered, latest, with_commit}
use Rattle.chains.specs.Shapes.{Shape, all_of, highest, leaf}
use Rattle.chains.proofs.CommitParts.{commit-nothing, commit-two, latest-parts, ordered-with_commit, parted-first}
use Rattle.chains.proofs.Order.{ordered-back}
use Rattle.chains.proofs.Shapes.{all_of-append, highest-append, nothing, popped}
use Rattle.chains.proofs.key_node.KeyNode.+into_written.Goals as goal
use Rattle.chains.proofs.key_node.KeyNode.+into_written.Goals.{
  in-Some-last+in_ok-into_written,
  in_default,
  in-Some-last-2+in_ok-into_written-2,
  in_default-last,
}

pub returns-then-is_empty : goal.returns-then-is_empty
returns-then-is_empty t c =
    let found = all_of c.args.found.now.items in
    let none : length c.args.writes.now ≡ 0 = grind (arith, nat_tests) in
    popped _ _ c.in_ok-push.ensures.items ∙ ap (λ (m : List KeyWrites). found ++ m) (sym (commit-nothing c.args.self.chunks c.args.time c.args.writes.now none))

pub add_leaves-requires : goal.add_leaves-requires
add_leaves-requires t c =
    let own : (c.args.self ≡ leaf c.in-Ok-Chains.chains.items) × IsOrdered c.in-Ok-Chains.chains.items =
    rw c.in-Ok-Chains.field-0-is at c.in-Ok-Chains.ensures in
    rw c.in_ok-all-in-Ok-Chains.ensures (ordered-with_commit c.in-Ok-Chains.chains.items c.args.time c.args.writes.now own.1)

pub into_written-requires : goal.into_written-requires
into_written-requires t c =
    let before = c.in-Some-last.before in
    let node = c.in-Some.node in
    let rest = c.next.new.self.rest.items in
    let all : highest (before ∷ node ∷ rest) < c.args.self.height = rw (c.in-Some-last.is, c.in-Some.ensures.steps.0) at c.loop-node.invariant.low in
    let low : before.height < c.args.self.height = omega (arith, all) in
    let earlier : latest (before.chunks ++ all_of (node ∷ rest)) < c.args.time =
    rw (c.in-Some-last.is, c.in-Some.ensures.steps.0) at c.loop-node.invariant.earlier in
    let later = (latest-parts before.chunks (all_of (node ∷ rest)) c.args.time earlier).0 in
    let rising = c.parted.ensures.rising_before in
    search rules

pub loop-node-preserved : goal.loop-node-preserved
loop-node-preserved t c =
    let opt = option_to_list c.loop-node.last in
    let node = c.in-Some.node in
    let rest = c.next.new.self.rest.items in
    let first = c.in-Some.ensures.steps.0 in
    let whole : all_of (opt ++ c.loop-node.node-iterator.rest.items) ≡ all_of opt ++ all_of (node ∷ rest) =
    all_of-append opt c.loop-node.node-iterator.rest.items ∙ ap (λ (l : List (Shape KeyWrites)). all_of opt ++ all_of l) first in
    let high : highest (node ∷ rest) ≤ highest (opt ++ c.loop-node.node-iterator.rest.items) =
    subst (λ (l : List (Shape KeyWrites)). highest (node ∷ rest) ≤ highest (opt ++ l)) (sym first) (highest-append opt (node ∷ rest)) in
    record {
      low = omega (arith, high, c.loop-node.invariant.low);
      ordered = ordered-back (all_of opt) (all_of (node ∷ rest)) (subst IsOrdered whole c.loop-node.invariant.ordered);
      earlier =
          (latest-parts (all_of opt) (all_of (node
          ∷ rest)) c.args.time (subst (λ (m : List KeyWrites). latest m < c.args.time) whole c.loop-node.invariant.earlier)).1;
      rising = elim c.match-last.branch [
        | in-Some-last+in_ok-into_written w ↦ rw w.left-is w.parted.ensures.rising_rest
        | in_default w ↦ rw w.left-is c.loop-node.invariant.rising
      ];
      none = λ below. absurd (omega (arith, below));
      put = elim c.match-last.branch [
        | in-Some-last+in_ok-into_written w ↦
            let before = w.in-Some-last.before in
            let later = with_commit (all_of (node ∷ rest)) c.args.time w.parted.result.1.now in
            let ordered : IsOrdered (before.chunks ++ all_of (node ∷ rest)) = rw (w.in-Some-last.is, first) at c.loop-node.invariant.ordered in
            let two = commit-two before.chunks (all_of (node ∷ rest)) c.args.time c.loop-node.left.now w.parted.result.0.now w.parted.result.1.now
            (parted-first node.chunks (all_of rest) w.first_key.result c.loop-node.left.now w.parted.result.0.now w.parted.result.1.now w.first_key.ensures
            w.parted.ensures) ordered in
            let so_far : all_of c.loop-node.all.items ++ with_commit (before.chunks ++ all_of (node ∷ rest)) c.args.time c.loop-node.left.now
            ≡ with_commit c.args.self.chunks c.args.time c.args.writes.now =
            rw (w.in-Some-last.is, first) at c.loop-node.invariant.put in
            rw (w.left-is, w.all-is)
            (ap (λ (l : List KeyWrites). l ++ later) w.in_ok-into_written.ensures
            ∙ append_assoc (all_of c.loop-node.all.items) (with_commit before.chunks c.args.time w.parted.result.0.now) later
            ∙ ap (λ (l : List KeyWrites). all_of c.loop-node.all.items ++ l) (sym two)
            ∙ so_far)
        | in_default w ↦ rw (w.left-is, w.all-is) (rw (w.in_default.is, first) at c.loop-node.invariant.put)
      ];
    }

pub add_forks-requires : goal.add_forks-requires
add_forks-requires t c =
    let fork : IsKeyFork c.args.self c.in-Ok-Nodes.nodes.items = rw c.in-Ok-Nodes.field-0-is at c.in-Ok-Nodes.ensures in
    let ordered = ordered-with_commit c.args.self.chunks c.args.time c.args.writes.now (subst IsOrdered fork.chains fork.ordered) in
    let empty : c.loop-node.node-iterator.rest.items ≡ [] =
    nothing c.loop-node.node-iterator.rest.items (sym c.loop-node.node-iterator.rest.ok.0 ∙ c.in-None.ensures.steps.0) in
    elim c.match-last-2.branch [
      | in-Some-last-2+in_ok-into_written-2 w ↦
          let node = w.in-Some-last-2.node in
          let so_far : all_of c.loop-node.all.items ++ with_commit (node.chunks ++ []) c.args.time c.loop-node.left.now
          ≡ with_commit c.args.self.chunks c.args.time c.args.writes.now =
          rw (w.in-Some-last-2.is, empty) at c.loop-node.invariant.put in
          let is = w.in_ok-into_written-2.ensures
          ∙ ap (λ (m : List KeyWrites). all_of c.loop-node.all.items ++ with_commit m c.args.time c.loop-node.left.now) (sym (append-nil node.chunks))
          ∙ so_far in
          rw (w.all-is, is) ordered
      | in_default-last w ↦
          let all = all_of c.loop-node.all.items in
          let left : c.loop-node.left.now ≡ [] = c.loop-node.invariant.none (rw (w.in_default-last.is, empty) (omega arith)) in
          let so_far : all ++ with_commit [] c.args.time c.loop-node.left.now ≡ with_commit c.args.self.chunks c.args.time c.args.writes.now =
          rw (w.in_default-last.is, empty) at c.loop-node.invariant.put in
          let is = sym (append-nil all) ∙ ap (λ ws. all ++ with_commit [] c.args.time ws) (sym left) ∙ so_far in
          rw (w.all-is, is) ordered
    ]
