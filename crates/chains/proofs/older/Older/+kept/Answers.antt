use Rattle.std.proofs.lemmas.List.{take_rest}
use Rattle.std.proofs.Common.{◌≡◌, ◌∙◌, ◌+◌, ◌≤◌, ◌∷◌, ◌++◌, List, IfOk, ap, sym, subst, arith, rules}
use Rattle.chains.specs.Growth.{as_branch}
use Rattle.chains.specs.Shapes.{all_of, highest}
use Rattle.chains.specs.Writes.{Write, kept_after}
use Rattle.chains.proofs.Branches.{lower, fork_kept, kept_rising, rest_low}
use Rattle.chains.proofs.Kept.{rising-drop}
use Rattle.chains.proofs.Growth.{ok-map}
use Rattle.chains.proofs.Shapes.{behind, behind_low, first_low}
use Rattle.chains.proofs.older.Older.+kept.Goals as goal

pub kept-requires : goal.kept-requires
kept-requires t c =
    let low = lower c.in-Branches.ensures c.from_begun.ensures c.in-len1-up.len_at_least c.branch-item.is c.writes.ensures.lower in
    search rules

pub with_first-requires : goal.with_first-requires
with_first-requires t c =
    rw (
      c.in_ok-first-in-len1-up.ensures.is,
      c.writes.ensures.is,
    ) (kept_rising c.in-Branches.ensures c.from_begun.ensures c.in-len1-up.len_at_least c.branch-item.is)

pub returns-in-len1-up-clause-height : goal.returns-in-len1-up-clause-height
returns-in-len1-up-clause-height t c =
    let rest = c.from_begun.result.now in
    let some = c.in-len1-up.len_at_least in
    let first = c.in_ok-first-in-len1-up.first in
    let low : highest (as_branch first ∷ behind rest) + 1 ≤ c.args.self.now.height =
    omega (
      arith,
      c.in_ok-first-in-len1-up.ensures.height,
      c.writes.ensures.lower,
      first_low rest some c.branch-item.is,
      behind_low rest some c.branch-item.is,
      rest_low c.in-Branches.ensures c.from_begun.ensures,
    ) in
    ok-map c.with_first.result (λ o. o.height ≤ highest (as_branch first ∷ behind rest) + 1) (λ o. o.height ≤ c.args.self.now.height)
    (λ o by. omega (arith, by, low))
    c.with_first.ensures.height

pub returns-in-len1-up-clause-is : goal.returns-in-len1-up-clause-is
returns-in-len1-up-clause-is t c =
    let first : c.in_ok-first-in-len1-up.first.chunks ≡ kept_after c.args.mark c.branch-item.result.chunks =
    rw c.writes.ensures.is at c.in_ok-first-in-len1-up.ensures.is in
    let kept = fork_kept c.in-Branches.ensures c.from_begun.ensures c.in-len1-up.len_at_least c.branch-item.is in
    subst (λ (ws : List Write). IfOk c.with_first.result (λ o. o.chunks ≡ ws)) (ap (λ (ws : List Write). ws ++ all_of (behind c.from_begun.result.now)) first
    ∙ sym kept) c.with_first.ensures.is

pub of_shared-requires : goal.of_shared-requires
of_shared-requires t c =
    rw (take_rest c.in-Writes.writes.now c.ended_by-ended.result) (rising-drop c.ended_by-ended.result 0 c.in-Writes.writes.now c.in-Writes.ensures.1)
