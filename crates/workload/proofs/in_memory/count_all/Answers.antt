use Rattle.std.proofs.Common.{◌≡◌, ◌≤◌, ℕ, ◌+◌, ◌∙◌, length, Option, Some, arith, refl, subst}
use Rattle.std.specs.Prelude.{IfSome}
use Rattle.law_any_store.proofs.Memory.{last-published}
use Rattle.workload.proofs.in_memory.count_all.Goals as goal

-- so many are among those that were made
counts : (made others : ℕ) (o : Option ℕ) (count : ℕ) → o ≡ Some count → IfSome o (λ n. made ≡ n + others) → count ≤ made
counts made others o count is told =
    let all : made ≡ count + others = subst (λ (x : Option ℕ). IfSome x (λ n. made ≡ n + others)) is told in
    omega (arith, all)

pub returns-in-Some-clause-last : goal.returns-in-Some-clause-last
returns-in-Some-clause-last c =
    let r = c.requires in
    record {
      state = r.0;
      reached = r.2;
      many = counts (length r.0.published) _ _ _ c.in-Some.is r.3;
      last_is = c.last-last.ensures ∙ last-published _ _ _ r.1;
      holds = c.holds_last_rounds-holds.ensures c.if-holds.true refl r.0 r.1;
    }
