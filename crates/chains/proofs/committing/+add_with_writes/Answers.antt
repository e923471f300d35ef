use Rattle.std.proofs.Common.{◌≡◌, ◌<◌, ◌∙◌, ◌++◌, length, List, ap, sym, subst, arith, rules}
use Rattle.chains.specs.KeyWrites.{KeyWrites, IsOrdered, with_commit}
use Rattle.chains.proofs.CommitParts.{left_earlier, right_earlier, chain_earlier, commit-around_chain, put-around}
use Rattle.chains.proofs.KeyNodes.{split-is}
use Rattle.chains.proofs.Order.{ordered-front, ordered-back}
use Rattle.chains.proofs.RowParts.{on-ok}
use Rattle.chains.proofs.committing.+add_with_writes.Goals as goal

pub add_with_writes-requires : goal.add_with_writes-requires
add_with_writes-requires t c =
    let shorter : length c.split_at.result.0.now < length c.args.chains.now =
    omega (arith, c.split_at.ensures.front_len, c.split_at.ensures.back_len, c.in-Some.ensures.cases.1) in
    let ordered = ordered-front c.split_at.result.0.now c.split_at.result.1.now (subst IsOrdered c.split_at.ensures.by_index.0 c.requires.ordered) in
    let later =
    left_earlier c.split_at.result.0.now c.in-Some.chain.now c.in-Some.behind.now
    (split-is c.split_at.result.0.now c.split_at.ensures.by_index.0 c.in-Some.ensures.cases.0) c.args.time c.requires.later in
    let rising = c.parted.ensures.rising_before in
    search rules

pub with_own-requires-clause-later : goal.with_own-requires-clause-later
with_own-requires-clause-later t c =
    chain_earlier c.split_at.result.0.now c.in-Some.chain.now c.in-Some.behind.now
    (split-is c.split_at.result.0.now c.split_at.ensures.by_index.0 c.in-Some.ensures.cases.0) c.args.time c.requires.later

pub add_with_writes-requires-2 : goal.add_with_writes-requires-2
add_with_writes-requires-2 t c =
    let shorter : length c.in-Some.behind.now < length c.args.chains.now = omega (arith, c.split_at.ensures.back_len, c.in-Some.ensures.cases.1) in
    let back = ordered-back c.split_at.result.0.now c.split_at.result.1.now (subst IsOrdered c.split_at.ensures.by_index.0 c.requires.ordered) in
    let ordered = (subst IsOrdered c.in-Some.ensures.cases.0 back).1 in
    let later =
    right_earlier c.split_at.result.0.now c.in-Some.chain.now c.in-Some.behind.now
    (split-is c.split_at.result.0.now c.split_at.ensures.by_index.0 c.in-Some.ensures.cases.0) c.args.time c.requires.later in
    let rising = c.own_write.ensures.rising_after in
    search rules

pub returns : goal.returns
returns t c =
    let old = c.args.found.now.items in
    let left = c.split_at.result.0.now in
    let whole =
    commit-around_chain left c.in-Some.chain.now c.in-Some.behind.now (split-is left c.split_at.ensures.by_index.0 c.in-Some.ensures.cases.0)
    c.key-key.ensures c.requires.ordered c.args.time c.args.writes.now _ _ _ _ c.parted.ensures c.own_write.ensures in
    let same : _ ≡ old ++ with_commit c.args.chains.now c.args.time c.args.writes.now =
    rw c.in_ok-with_own.ensures (ap (λ (l : List KeyWrites). old ++ l) (sym whole)) in
    on-ok c.add_with_writes-2.result
    (λ e. put-around old c.add_with_writes.new.found.items c.push.new.self.items c.add_with_writes-2.new.found.items
    (with_commit left c.args.time c.parted.result.0.now) (with_commit c.in-Some.behind.now c.args.time c.own_write.result.1.now) c.in_ok-with_own.field-0
    c.in_ok-add_with_writes.ensures c.in_ok-push.ensures.items e ∙ same) c.add_with_writes-2.ensures
