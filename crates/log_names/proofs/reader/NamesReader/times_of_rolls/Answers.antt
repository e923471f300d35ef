use Rattle.std.proofs.Common.{ℕ, ◌<◌, ◌≤◌, arith}
use Rattle.std.proofs.lemmas.List.Elements.{All-from_recursion, recursion_from_All}
use Rattle.std.proofs.lemmas.List.Sorted.{All-permutation, IsNonDecreasingBy-from_sort}
use Rattle.std.proofs.lemmas.Result.{err_from_is_err_and}
use Rattle.log_names.proofs.Right.{refused}
use Rattle.log_names.proofs.Sorting.{all_right, none_broken}
use Rattle.log_names.proofs.reader.NamesReader.times_of_rolls.Goals as goal

pub returns-in_err-times-clause-only : goal.returns-in_err-times-clause-only
returns-in_err-times-clause-only g c = λ heads told right holds.
    let p = err_from_is_err_and c.from_residual.result c.from_residual.ensures.1 in
    rw (p.1, p.2) (refused _ (λ start is. none_broken _ c.args.upto c.args.label c.args.rolls.now heads holds start is)
    (c.in_err-times.ensures.exact told right))

pub returns-clause-only : goal.returns-clause-only
returns-clause-only g c = λ heads told right holds.
    all_right _ c.args.upto c.args.label c.args.rolls.now heads holds _ _ (c.in_ok-times.ensures.exact told right) (record {
      same = c.sort_unstable.ensures.permutation;
      rising = IsNonDecreasingBy-from_sort (λ x. x) _ c.sort_unstable.ensures.sorted;
    })

pub returns-clause-exact : goal.returns-clause-exact
returns-clause-exact g c = λ told right. (
  _,
  c.in_ok-times.ensures.exact told right,
  record {
    same = c.sort_unstable.ensures.permutation;
    rising = IsNonDecreasingBy-from_sort (λ x. x) _ c.sort_unstable.ensures.sorted;
  },
)

-- what is sorted is no later
pub returns-clause-within : goal.returns-clause-within
returns-clause-within g c =
    let P = λ (time : ℕ). (0 < time) × (time ≤ c.args.upto) in
    recursion_from_All P _
    (All-permutation P _ _ c.sort_unstable.ensures.permutation (All-from_recursion P _ c.in_ok-times.ensures.within))
