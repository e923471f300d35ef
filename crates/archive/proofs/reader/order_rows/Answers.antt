use Rattle.std.proofs.Common.{rules}
use Rattle.std.proofs.lemmas.List.Sorted.{IsNonDecreasingBy-from_sort_by_key, answers_always}
use Rattle.archive.proofs.Ordered.{Row, ties_alone}
use Rattle.archive.proofs.reader.order_rows.Goals as goal

pub returns-clause-in_order : goal.returns-clause-in_order
returns-clause-in_order c = IsNonDecreasingBy-from_sort_by_key (λ (row : Row). row.0) _ c.in_ok-sort_by_key.ensures.sorted (λ a r q k. search rules)

pub returns-clause-same : goal.returns-clause-same
returns-clause-same c =
    λ number. ties_alone number _ _ (c.in_ok-sort_by_key.ensures.stable (λ (row : Row). row.0) (answers_always _ _ _ (λ f a r g h. search rules)))

pub returns-in_err-sort_by_key-clause-same : goal.returns-in_err-sort_by_key-clause-same
returns-in_err-sort_by_key-clause-same c =
    λ number. ties_alone number _ _ (c.in_err-sort_by_key.ensures.stable (λ (row : Row). row.0) (answers_always _ _ _ (λ f a r g h. search rules)))
