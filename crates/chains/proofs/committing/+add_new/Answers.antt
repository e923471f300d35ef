use Rattle.std.proofs.Common.{◌≡◌, ◌<◌, ◌∙◌, ◌++◌, [], length, List, ap, sym, arith, rules}
use Rattle.chains.specs.KeyWrites.{KeyWrites, with_commit}
use Rattle.chains.proofs.CommitParts.{sorted-front, sorted-back, commit-around, put-around}
use Rattle.chains.proofs.RowParts.{on-ok}
use Rattle.chains.proofs.committing.+add_new.Goals as goal

pub add_new-requires : goal.add_new-requires
add_new-requires t c =
    let shorter : length c.split_at.result.0.now < length c.args.writes.now =
    omega (arith, c.split_at.ensures.front_len, c.split_at.ensures.back_len, c.in-Some.ensures.cases.1) in
    let rising = sorted-front c.args.writes.now c.split_at.result.0.now c.split_at.result.1.now c.split_at.ensures.by_index.0 c.requires.rising in
    search rules

pub add_new-requires-2 : goal.add_new-requires-2
add_new-requires-2 t c =
    let shorter : length c.in-Some.after.now < length c.args.writes.now = omega (arith, c.split_at.ensures.back_len, c.in-Some.ensures.cases.1) in
    let rising =
    sorted-back c.args.writes.now c.split_at.result.0.now c.split_at.result.1.now c.in-Some.write.now c.in-Some.after.now c.split_at.ensures.by_index.0
    c.in-Some.ensures.cases.0 c.requires.rising in
    search rules

pub returns : goal.returns
returns t c =
    let old = c.args.found.now.items in
    let whole =
    commit-around c.args.time c.args.writes.now c.split_at.result.0.now c.split_at.result.1.now c.in-Some.write.now c.in-Some.after.now
    c.split_at.ensures.by_index.0 c.in-Some.ensures.cases.0 c.requires.rising in
    let same : _ ≡ old ++ with_commit [] c.args.time c.args.writes.now =
    rw (c.in_ok-new.ensures, c.timed.ensures) (ap (λ (l : List KeyWrites). old ++ l) (sym whole)) in
    on-ok c.add_new-2.result
    (λ e. put-around old c.add_new.new.found.items c.push.new.self.items c.add_new-2.new.found.items (with_commit [] c.args.time c.split_at.result.0.now)
    (with_commit [] c.args.time c.in-Some.after.now) c.in_ok-new.field-0 c.in_ok-add_new.ensures c.in_ok-push.ensures.items e ∙ same) c.add_new-2.ensures
