use Rattle.std.proofs.Common.{◌≡◌, ℕ, ◌==◌, ◌++◌, List, length, map, filter}
use Rattle.group.specs.declared.commit_order.CommitHead.{CommitHead}
use Rattle.group.proofs.commit_order.published_times.Given as goal

abbrev times_labelled : ℕ → List CommitHead → List ℕ
times_labelled label heads = map (λ (head : CommitHead). head.time) (filter (λ (head : CommitHead). head.label == label) heads)

abbrev pub invariant-loop-rest : goal.invariant-loop-rest
invariant-loop-rest l = l.times.items ++ times_labelled l.fn.label l.rest ≡ times_labelled l.fn.label l.fn.heads

abbrev pub decreases-loop-rest : goal.decreases-loop-rest
decreases-loop-rest l = length l.rest
