use Rattle.std.proofs.Common.{◌∙◌, ◌++◌, List, ap, sym}
use Rattle.chains.specs.Shapes.{all_of}
use Rattle.chains.specs.Writes.{Write}
use Rattle.chains.proofs.Branches.{fork_kept, fork_whole}
use Rattle.chains.proofs.Shapes.{behind}
use Rattle.chains.proofs.older.Older.+is_kept.Goals as goal

pub returns-in-len1-up : goal.returns-in-len1-up
returns-in-len1-up t c = λ kept.
    let some = c.in-len1-up.len_at_least in
    fork_kept c.in-Branches.ensures c.from_begun-rest.ensures some c.branch-item.is
    ∙ ap (λ (ws : List Write). ws ++ all_of (behind c.from_begun-rest.result.now)) (rw c.writes.ensures.is at (c.is_kept.ensures kept))
    ∙ sym (fork_whole c.in-Branches.ensures c.from_begun-rest.ensures some c.branch-item.is c.if-rest-branches.true)
