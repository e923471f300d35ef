-- The time of a ticket is that of the machine's commit.
use Rattle.std.proofs.Common.{◌≡◌, ℕ, ◌<◌, max, true, [], ◌∷◌, ◌++◌, arith, ap, sym, subst, ◌∙◌}
use Rattle.std.proofs.lemmas.Bool.Decides.{nat_tests}
use Rattle.history.specs.Histories.{Commit, History, HasRisingTimes, last}
use Rattle.history.specs.Machine.{Machine, IsMachine, commit_order}
use Rattle.history.specs.Steps.{Step, Decided}
use Rattle.history.specs.Submissions as submissions
use Rattle.history.specs.Submissions.{Submission, commit_made}
use Rattle.history.proofs.Histories.{last_after-append, rising-from_following, may_follow-behind}
use Rattle.history.proofs.Runs.{step-added}
use Rattle.law_image.specs.Values.{Value, IsValue}
use Rattle.group.specs.CommitOrder.{last_time}
use Rattle.group.proofs.Orders.{last_time-push}
use Rattle.group.specs.Tickets.{TicketValue}
use Rattle.group.specs.declared.commit_order.CommitHead.{CommitHead}
use Rattle.commits.specs.Values.{CommitsValue}
use Rattle.law_commits.specs.Standing.{StandsInMemory}
use Rattle.law_commits.proofs.Names.{assigned-is}
use Rattle.law_any_store.specs.Leaving.{JoinsOrder}

-- the last of commits that rise from a time on is later
last-later : (t : ℕ) (h : History Value) (c : Commit Value) → HasRisingTimes t (h ++ c ∷ []) → t < c.time
last-later t [] c up = up.0
last-later t (x ∷ xs) c up = let rest = last-later x.time xs c up.2 in let first = up.0 in omega (arith, first, rest)

-- the later of two that is not the one is the other
later-other : (a b t : ℕ) → max a b ≡ t → a < t → b ≡ t
later-other a b t is less = grind (arith, nat_tests)

pub ticket-time : (old new : CommitsValue) (m after : Machine Value) (label : ℕ) (ticket : TicketValue) (s : Submission Value)
    → JoinsOrder old label ticket.time new → StandsInMemory new after → IsMachine IsValue after
    → Step IsValue m (Decided s (submissions.Queues (commit_made m s))) after → ticket.time ≡ (commit_made m s).time
ticket-time old new m after label ticket s joins stands machine step =
    let c : Commit Value = commit_made m s in
    let head : CommitHead = record { time = ticket.time; label = label; awaited = true } in
    let heads : last_time new.heads ≡ ticket.time = ap last_time joins.heads ∙ last_time-push 0 old.heads head in
    let order : last (commit_order after) ≡ c.time =
    ap (λ (h : History Value). last h) (step-added IsValue m after (Decided s (submissions.Queues c)) step) ∙ last_after-append 0 (commit_order m) (c ∷ []) in
    let up : HasRisingTimes (last after.published) after.queue =
    rising-from_following IsValue after.published after.queue (may_follow-behind IsValue [] after.published after.queue machine.history) in
    let queue : after.queue ≡ m.queue ++ c ∷ [] = ap (λ (x : Machine Value). x.queue) step.3.2 in
    let later = last-later (last after.published) m.queue c (subst (λ (h : History Value). HasRisingTimes (last after.published) h) queue up) in
    let marked = stands.versions.marked in
    sym heads ∙ later-other new.reclaimed (last_time new.heads) c.time (assigned-is new after stands machine ∙ order) (omega (arith, marked, later))
