use Rattle.std.proofs.Common.{◌∙◌, ◌++◌, ap, length, arith}
use Rattle.deltas.specs.Records.{spelling}
use Rattle.deltas.specs.Loans.{record_of_loan}
use Rattle.deltas.proofs.Bodies.{pushed, length-records}
use Rattle.deltas.proofs.extent_body.ExtentBody.push.Goals as goal

pub invariant_of-self : goal.invariant_of-self
invariant_of-self c =
    let b = c.self.inside in
    let put = c.put_record-self-inside in
    let bytes = spelling (record_of_loan c.args.one) in
    let used = length-records b.image.items b.used c.self.invariant in
    let many = ap length c.self.view_is in
    let room = c.requires in
    (pushed b.image.items c.deref_mut.result.now put.new.out bytes b.image.len b.used put.result c.self.invariant b.image.ok.0 c.deref_mut.ensures.value
    put.ensures.end (omega (arith, room, used, many)) put.ensures.front put.ensures.behind put.ensures.len).begun

pub returns : goal.returns
returns c =
    let b = c.self.inside in
    let put = c.put_record-self-inside in
    let bytes = spelling (record_of_loan c.args.one) in
    let used = length-records b.image.items b.used c.self.invariant in
    let many = ap length c.self.view_is in
    let room = c.requires in
    (pushed b.image.items c.deref_mut.result.now put.new.out bytes b.image.len b.used put.result c.self.invariant b.image.ok.0 c.deref_mut.ensures.value
    put.ensures.end (omega (arith, room, used, many)) put.ensures.front put.ensures.behind put.ensures.len).records
    ∙ ap (λ l. l ++ bytes) c.self.view_is
