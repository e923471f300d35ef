use Rattle.std.proofs.Common.{◌≡◌, ◌∙◌, List, Some, ap, sym}
use Rattle.std.specs.List.{slice_get}
use Rattle.law_image.specs.Reading.{ArchiveRecord}
use Rattle.law_image.specs.PlansMade.{archive_record}
use Rattle.archive.specs.Answers.{record_of}
use Rattle.chains.specs.Rows.{version_of_loan}
use Rattle.vacuum.proofs.Firsts.{records-none, records-late, records-next}
use Rattle.vacuum.proofs.archive_walk.key_record.Goals as goal

pub returns-in_default : goal.returns-in_default
returns-in_default c =
    sym (ap (λ (rs : List ArchiveRecord). slice_get rs 0)
    (records-none c.args.passed c.args.upto c.args.chain.now c.ending_after.ensures.rising (sym c.in_default.ensures.is)))

pub returns-then-upto-version : goal.returns-then-upto-version
returns-then-upto-version c =
    sym (ap (λ (rs : List ArchiveRecord). slice_get rs 0)
    (records-late c.args.passed c.args.upto c.args.chain.now c.ending_after.ensures.rising (version_of_loan c.in-Some.version) (sym c.in-Some.ensures.is)
    c.if-upto-version.true))

pub returns : goal.returns
returns c =
    let v = version_of_loan c.in-Some.version in
    let next = records-next c.args.passed c.args.upto c.args.chain.now c.ending_after.ensures.rising v (sym c.in-Some.ensures.is) c.if-upto-version.false in
    let head : record_of (record { key = c.key.result; from = v.from; to = v.to }) c.value.result.now ≡ archive_record c.args.chain.now.key v =
    λ i. record { key = c.key.ensures i; version = record { from = v.from; to = v.to; value = c.value.ensures i } } in
    ap (λ (r : ArchiveRecord). Some r) head ∙ sym (ap (λ (rs : List ArchiveRecord). slice_get rs 0) next)
