use Rattle.history.proofs.Sets.{IsIn, versions-are_spans, span-same}
use Rattle.law_image.specs.Facts.{heap_facts, IsHeapFact}
use Rattle.law_image.proofs.Standing.{facts-rise}
use Rattle.law_image.proofs.FactsOf.{heap-facts_are}
use Rattle.law_image.proofs.Homes.{kept-is_set, heap-is, archive-is}
use Rattle.law_image.proofs.laws.kept_versions_are.Goals as goal

pub returns-clause-kept : goal.returns-clause-kept
returns-clause-kept c = λ reading h floors key v stands. kept-is_set reading h floors stands key v

pub returns-clause-heap : goal.returns-clause-heap
returns-clause-heap c = λ reading h floors key v stands. heap-is reading h floors stands key v

pub returns-clause-archive : goal.returns-clause-archive
returns-clause-archive c = λ reading h floors key v stands. archive-is reading h floors stands key v

pub returns-clause-spans : goal.returns-clause-spans
returns-clause-spans c = λ reading h floors key v stands.
    let spans = versions-are_spans 0 (heap_facts reading key) v (facts-rise reading h floors stands key) in (
      λ has. span-same (IsIn (heap_facts reading key)) (IsHeapFact reading key) v (λ time write. heap-facts_are reading key time write) (spans.0 has),
      λ span. spans.1 (span-same (IsHeapFact reading key) (IsIn (heap_facts reading key)) v (λ time write. (
        (heap-facts_are reading key time write).1,
        (heap-facts_are reading key time write).0,
      )) span),
    )
