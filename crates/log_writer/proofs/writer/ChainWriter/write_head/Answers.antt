use Rattle.std.proofs.Common.{◌≡◌, ◌+◌, ℕ, List, length, ap, ◌∙◌, arith, subst, get_or}
use Rattle.std.proofs.lemmas.List.{length-take}
use Rattle.disk.specs.Calls.{Writes}
use Rattle.disk.specs.declared.area.Area.TheVariants.{Heap}
use Rattle.log_extents.specs.Extents.{linked_bytes}
use Rattle.log_writer.specs.Writer.{WriterState}
use Rattle.log_writer.proofs.Parts.{head-is, IsPart}
use Rattle.log_writer.proofs.writer.ChainWriter.write_head.Goals as goal

pub fill_extent-requires : goal.fill_extent-requires
fill_extent-requires g c = omega (arith, ap (λ (l : List ℕ). length l) c.body.ensures, length-take 8168 c.args.self.now.content)

pub returns-clause-call : goal.returns-clause-call
returns-clause-call g c = λ p rest is told.
    let numbers = c.args.self.now.numbers in
    let n = c.index-number.result.now in
    let here : n ≡ get_or numbers 0 n = c.index-number.ensures ∙ ap (λ (w : WriterState). get_or w.numbers 0 n) c.self.view_is in
    let link = ap (λ (w : WriterState). w.link) c.self.view_is in
    let part : IsPart (c.extent_place.result + 1) _ p =
    head-is numbers c.args.self.now.link c.args.self.now.content n c.number_behind.result c.body.result.now c.fill_extent.new.image c.extent_place.result
    c.requires here c.number_behind.ensures c.body.ensures
    (c.fill_extent.ensures
    ∙ ap (λ (k : ℕ). linked_bytes (record { gate = 0; number = n; next = c.number_behind.result; link = k; body = c.body.result.now })) link)
    c.extent_place.ensures p rest is in
    subst (λ (q : ℕ × List ℕ). Writes Heap q.0 q.1 c.write_at.result (g.D.Disk.state c.args.disk.now).areas (g.D.Disk.state c.write_at.new.self).areas)
    (λ i. (part.place_is i, part.bytes_are i)) (c.write_at.ensures.areas told)
