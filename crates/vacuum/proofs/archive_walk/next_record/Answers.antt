use Rattle.std.proofs.Common.{◌∙◌, List, ap, sym}
use Rattle.std.specs.List.{slice_get}
use Rattle.law_image.specs.Reading.{ArchiveRecord}
use Rattle.archive.specs.Answers.{record_of}
use Rattle.vacuum.specs.Archives.{key_left}
use Rattle.vacuum.proofs.Records.{tested-none, tested-some, at-none, next-is, past-key, fewer-keys}
use Rattle.vacuum.proofs.archive_walk.next_record.Goals as goal

pub returns-then-is_some : goal.returns-then-is_some
returns-then-is_some c =
    let chain = c.in-Some.chain.now in
    let place = c.loop-chain.place in
    let some =
    tested-some (λ p. record_of p.0 p.1.now) c.next_of-found.result (key_left place.passed c.args.since.now c.args.upto chain) (sym c.if-is_some.ensures)
    c.next_of-found.ensures in
    c.next_of-found.ensures
    ∙ sym (next-is c.args.since.now c.args.upto c.args.frozen.now place chain c.in-Some.ensures.ordered (sym c.in-Some.ensures.is) some)
    ∙ ap (λ (rs : List ArchiveRecord). slice_get rs 0) c.loop-chain.invariant

pub loop-chain-smaller : goal.loop-chain-smaller
loop-chain-smaller c =
    rw c.key.ensures (fewer-keys c.args.since.now c.args.upto c.args.frozen.now c.loop-chain.place c.in-Some.chain.now c.in-Some.ensures.ordered
    (sym c.in-Some.ensures.is))

pub loop-chain-preserved : goal.loop-chain-preserved
loop-chain-preserved c =
    let chain = c.in-Some.chain.now in
    let place = c.loop-chain.place in
    let none =
    tested-none (λ p. record_of p.0 p.1.now) c.next_of-found.result (key_left place.passed c.args.since.now c.args.upto chain) (sym c.if-is_some.ensures)
    c.next_of-found.ensures in
    rw c.key.ensures (past-key c.args.since.now c.args.upto c.args.frozen.now place chain c.in-Some.ensures.ordered (sym c.in-Some.ensures.is) none
    ∙ c.loop-chain.invariant)

pub returns : goal.returns
returns c =
    ap (λ (rs : List ArchiveRecord). slice_get rs 0)
    (sym (at-none c.args.since.now c.args.upto c.args.frozen.now c.loop-chain.place (sym c.in_default.ensures.is)) ∙ c.loop-chain.invariant)
