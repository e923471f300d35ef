use Rattle.std.proofs.Common.{ℕ, ◌≡◌, List, [], ◌∷◌, ◌++◌, ◌∙◌, ap, sym, Some}
use Rattle.archive.specs.Answers.{head_of, skip_to}
use Rattle.archive.specs.declared.head.Placed.{Placed}
use Rattle.archive.specs.declared.search.Bound.{Bound}
use Rattle.archive.specs.Searches.{archive_of, IsBound, IsSeen, AreSkipped}
use Rattle.archive.specs.Traces.{last_of, IsSearched, IsSearchBrokenFrom, IsSkipBroken, GoesOn, Skips}
use Rattle.archive.proofs.Trace.{map_answer, map_found, sound_alone}
use Rattle.archive.proofs.Walking.{are_skipped}
use Rattle.archive.proofs.reader.ArchiveReader.go_on.Goals as goal

pub returns-in-Some-clause-only : goal.returns-in-Some-clause-only
returns-in-Some-clause-only g c = λ records r reads placed.
    let w = c.args.wanted.now in
    let n = c.args.placed.now.number in
    let key = c.in-Some.key in
    let skips : skip_to w (head_of r) ≡ Some key = ap (skip_to w) (sym placed.head) ∙ sym c.skip_to.ensures ∙ c.in-Some.is in
    let goes : (bound : Bound) → IsBound records key w.a bound.number × IsSeen records bound.last → AreSkipped records w n bound.number
    × IsSeen records bound.last =
    λ bound is. (are_skipped w _ c.args.run.now records reads.laid n bound.number r key placed.at skips is.0, is.1) in
    map_found c.count_from.result goes (c.count_from.ensures.only records r reads placed)

pub returns-in-Some-clause-exact : goal.returns-in-Some-clause-exact
returns-in-Some-clause-exact g c = λ last told right placed.
    let area = archive_of (g.D.Disk.state c.args.disk.now) in
    let run = c.args.run.now in
    let w = c.args.wanted.now in
    let n = c.args.placed.now.number in
    let key = c.in-Some.key in
    let skips = ap (λ (p : Placed). skip_to w p.head) (sym placed.0) ∙ sym c.skip_to.ensures ∙ c.in-Some.is in
    let goes : (bound : Bound) → (read : List ℕ) × IsSearched area run key w.a (read ++ n ∷ []) bound.number × (bound.last ≡ last_of area run (read ++ n ∷ []))
    → GoesOn area w run n bound.number bound.last =
    λ bound is. Skips key is.0 skips is.1 is.2 in
    let breaks : (start : ℕ) → IsSearchBrokenFrom area run key w.a n → IsSkipBroken area w run n =
    λ start broken. record { key = key; skips = skips; broken = broken } in
    map_answer c.count_from.result goes breaks (c.count_from.ensures.exact told right placed.0 (sound_alone placed.1))
