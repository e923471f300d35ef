use Rattle.std.proofs.Common.{◌≡◌, ◌∙◌, List, length, ap, sym, arith}
use Rattle.std.specs.List.{concat}
use Rattle.law_image.specs.Reading.{ArchiveRecord}
use Rattle.archive.specs.Pieces.{size_of, run_chunks}
use Rattle.archive.specs.Runs.{run_bytes}
use Rattle.archive.proofs.Lefts.{run_size}
use Rattle.archive.proofs.Joining.{joined_run}
use Rattle.archive.proofs.writer.RunWriter.new.Goals as goal
use Rattle.archive.proofs.writer.RunWriter.new.Goals.{then-start-gt-LAST_PLACE-via-then-start-gt-LAST_PLACE}
use Rattle.archive.proofs.writer.RunWriter.new.Goals.{then-start-gt-LAST_PLACE-via-else-start-gt-LAST_PLACE+then-sizes-start}

pub returns-in_default-clause-is : goal.returns-in_default-clause-is
returns-in_default-clause-is g c = omega (arith, c.in_default.ensures.none, ap size_of c.restart.ensures.left, run_size (g.W.RecordWalk.all c.args.walk))

pub returns-then-start-gt-LAST_PLACE-clause-is : goal.returns-then-start-gt-LAST_PLACE-clause-is
returns-then-start-gt-LAST_PLACE-clause-is g c =
    let len : c.in-Some.sizes.len ≡ length (run_bytes (g.W.RecordWalk.all c.args.walk)) =
    c.in-Some.ensures.len ∙ ap size_of c.restart.ensures.left ∙ run_size (g.W.RecordWalk.all c.args.walk) in
    elim c.then-start-gt-LAST_PLACE.branch [
      | then-start-gt-LAST_PLACE-via-then-start-gt-LAST_PLACE w ↦ omega arith
      | then-start-gt-LAST_PLACE-via-else-start-gt-LAST_PLACE+then-sizes-start w ↦
          omega arith
    ]

pub invariant_of-result : goal.invariant_of-result
invariant_of-result g c =
    let all = g.W.RecordWalk.all c.args.walk in
    let same : g.W.RecordWalk.all c.restart-2.new.self ≡ all = c.restart-2.ensures.all ∙ c.measure.ensures.all ∙ c.restart.ensures.all in
    let len : c.in-Some.sizes.len ≡ length (run_bytes all) = c.in-Some.ensures.len ∙ ap size_of c.restart.ensures.left ∙ run_size all in
    let bytes = c.new-2.ensures ∙ ap concat c.new.ensures ∙ ap (λ (rs : List ArchiveRecord). concat (run_chunks rs)) same ∙ joined_run all in
    (len ∙ sym (ap length bytes), omega arith)

pub returns-clause-is : goal.returns-clause-is
returns-clause-is g c =
    let all = g.W.RecordWalk.all c.args.walk in
    let same : g.W.RecordWalk.all c.restart-2.new.self ≡ all = c.restart-2.ensures.all ∙ c.measure.ensures.all ∙ c.restart.ensures.all in
    let bytes = c.new-2.ensures ∙ ap concat c.new.ensures ∙ ap (λ (rs : List ArchiveRecord). concat (run_chunks rs)) same ∙ joined_run all in
    let records : c.in-Some.sizes.records ≡ length all = c.in-Some.ensures.records ∙ ap length c.restart.ensures.left in
    λ i. record { at = c.args.start; left = bytes i; records = records i }

pub returns-clause-least : goal.returns-clause-least
returns-clause-least g c =
    let all = g.W.RecordWalk.all c.args.walk in
    let same : g.W.RecordWalk.all c.restart-2.new.self ≡ all = c.restart-2.ensures.all ∙ c.measure.ensures.all ∙ c.restart.ensures.all in
    let len : c.in-Some.sizes.len ≡ length (run_bytes all) = c.in-Some.ensures.len ∙ ap size_of c.restart.ensures.left ∙ run_size all in
    let bytes = c.new-2.ensures ∙ ap concat c.new.ensures ∙ ap (λ (rs : List ArchiveRecord). concat (run_chunks rs)) same ∙ joined_run all in
    omega (arith, len, ap length bytes, c.in-Some.ensures.least)

pub returns-clause-most : goal.returns-clause-most
returns-clause-most g c =
    let all = g.W.RecordWalk.all c.args.walk in
    let same : g.W.RecordWalk.all c.restart-2.new.self ≡ all = c.restart-2.ensures.all ∙ c.measure.ensures.all ∙ c.restart.ensures.all in
    let len : c.in-Some.sizes.len ≡ length (run_bytes all) = c.in-Some.ensures.len ∙ ap size_of c.restart.ensures.left ∙ run_size all in
    let bytes = c.new-2.ensures ∙ ap concat c.new.ensures ∙ ap (λ (rs : List ArchiveRecord). concat (run_chunks rs)) same ∙ joined_run all in
    omega (arith, len, ap length bytes, c.in-Some.ensures.most)
