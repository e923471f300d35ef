use Rattle.std.proofs.Common.{◌+◌, ◌*◌, ◌<◌, ℕ, List, length, take, drop, ap, ◌∙◌, arith, subst, Ok}
use Rattle.std.proofs.lemmas.List.{length-take}
use Rattle.disk.specs.Calls.{Writes}
use Rattle.disk.specs.declared.area.Area.TheVariants.{Heap}
use Rattle.log_extents.specs.Chains.{first_or}
use Rattle.log_writer.specs.Whole.{WholeState}
use Rattle.log_writer.proofs.Parts.{IsPart}
use Rattle.log_writer.proofs.Whole.{left-count, next-is, others-left}
use Rattle.log_writer.proofs.extents_writer.ExtentsWriter.write_next.Goals as goal

pub image_of-image-requires : goal.image_of-image-requires
image_of-image-requires g c =
    omega (arith, ap (λ (l : List ℕ). length l) c.body_of-body.ensures, length-take 8168 (drop (8168 * c.self.inside.written) c.as_slice-2.result.now))

pub returns-clause-call : goal.returns-clause-call
returns-clause-call g c = λ p rest is told.
    let w = c.self.inside in
    let many = left-count w.gate w.link w.numbers.items w.content.items w.written c.self.invariant.within in
    let seen = ap (λ (v : WholeState). length v.left) c.self.view_is in
    let within : w.written < length w.numbers.items = omega (arith, many, seen, c.requires) in
    let part : IsPart c.extent_place.result _ p =
    next-is w.gate w.link w.numbers.items w.content.items w.written c.gate_at-gate.result c.link_at-link.result c.index-number.result.now
    c.number_behind-next.result c.body_of-body.result.now c.image_of-image.result c.extent_place.result within c.gate_at-gate.ensures
    c.link_at-link.ensures c.index-number.ensures
    (c.number_behind-next.ensures ∙ ap (λ (l : List ℕ). first_or 0 (drop (w.written + 1) l)) c.as_slice.ensures.value)
    (c.body_of-body.ensures ∙ ap (λ (l : List ℕ). take 8168 (drop (8168 * w.written) l)) c.as_slice-2.ensures.value)
    c.image_of-image.ensures c.extent_place.ensures p rest (ap (λ (v : WholeState). v.left) c.self.view_is ∙ is) in
    subst (λ (q : ℕ × List ℕ). Writes Heap q.0 q.1 (Ok tt) (g.D.Disk.state c.args.disk.now).areas (g.D.Disk.state c.write_at.new.self).areas)
    (λ i. (part.place_is i, part.bytes_are i)) (c.in_ok-write_at.ensures.areas told)

pub returns-clause-ok : goal.returns-clause-ok
returns-clause-ok g c =
    let w = c.self.inside in
    let many = left-count w.gate w.link w.numbers.items w.content.items w.written c.self.invariant.within in
    let seen = ap (λ (v : WholeState). length v.left) c.self.view_is in
    let within : w.written < length w.numbers.items = omega (arith, many, seen, c.requires) in
    let numbers = ap (λ (v : WholeState). v.numbers) c.self.view_is in
    let left = others-left w.gate w.link w.numbers.items w.content.items w.written c.index-number.result.now within c.index-number.ensures
    ∙ ap (λ (v : WholeState). drop 1 v.left) c.self.view_is in
    λ i. record { numbers = numbers i; left = left i }
