use Rattle.std.proofs.Common.{[]}
use Rattle.history.specs.Histories.{writes_of, versions_of}
use Rattle.history.specs.Sets.{Writes}
use Rattle.history.proofs.Histories.{rising-from_following, writes_of-rising}
use Rattle.history.proofs.Sets.{IsIn, writes-are, versions-are_spans, span-same, rows-are}
use Rattle.history.proofs.laws.lists_are_sets.Goals as goal

pub returns-clause-writes : goal.returns-clause-writes
returns-clause-writes g c = λ h key time write. writes-are h key time write

pub returns-clause-versions : goal.returns-clause-versions
returns-clause-versions g c = λ h key v history.
    let up = writes_of-rising 0 h key (rising-from_following g.V.Stored.IsValue [] h history) in
    let spans = versions-are_spans 0 (writes_of h key) v up in (
      λ has. span-same (IsIn (writes_of h key)) (Writes h key) v (λ time write. writes-are h key time write) (spans.0 has),
      λ span. spans.1 (span-same (Writes h key) (IsIn (writes_of h key)) v (λ time write. (
        (writes-are h key time write).1,
        (writes-are h key time write).0,
      )) span),
    )

pub returns-clause-rows : goal.returns-clause-rows
returns-clause-rows g c = λ h key a b row. rows-are (versions_of h key) a b row
