use Rattle.std.proofs.Common.{◌∙◌, List, Some, ap, sym}
use Rattle.std.specs.List.{slice_get}
use Rattle.deltas.specs.declared.«record».Record.{Record}
use Rattle.deltas.specs.declared.«record».Content.TheVariants.{Old}
use Rattle.chains.specs.Rows.{version_of_loan}
use Rattle.vacuum.proofs.Standing.{olds-none, olds-late, olds-one}
use Rattle.vacuum.proofs.anchor_source.anchor_of.Goals as goal

pub returns-in_default : goal.returns-in_default
returns-in_default c =
    sym (ap (λ (rs : List Record). slice_get rs 0) (olds-none c.args.mark c.args.chain.now c.ending_after.ensures.rising (sym c.in_default.ensures.is)))

pub returns-then-mark-version : goal.returns-then-mark-version
returns-then-mark-version c =
    sym (ap (λ (rs : List Record). slice_get rs 0)
    (olds-late c.args.mark c.args.chain.now c.ending_after.ensures.rising (version_of_loan c.in-Some.version) (sym c.in-Some.ensures.is)
    c.if-mark-version.true))

pub returns : goal.returns
returns c =
    let v = version_of_loan c.in-Some.version in
    let one = olds-one c.args.mark c.args.chain.now c.ending_after.ensures.rising v (sym c.in-Some.ensures.is) c.if-mark-version.false in
    (λ i. Some (record { key = c.key.ensures i; content = Old v.from (c.value.ensures i) }))
    ∙ sym (ap (λ (rs : List Record). slice_get rs 0) one)
