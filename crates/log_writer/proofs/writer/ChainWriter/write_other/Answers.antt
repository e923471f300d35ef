use Rattle.std.proofs.Common.{◌≡◌, ◌*◌, ℕ, List, length, drop, ap, ◌∙◌, arith, subst, get_or}
use Rattle.std.proofs.lemmas.List.{length-take}
use Rattle.disk.specs.Calls.{Writes}
use Rattle.disk.specs.declared.area.Area.TheVariants.{Heap}
use Rattle.log_writer.specs.Writer.{WriterState}
use Rattle.log_writer.proofs.Parts.{other-is, IsPart}
use Rattle.log_writer.proofs.writer.ChainWriter.write_other.Goals as goal

pub fill_extent-requires : goal.fill_extent-requires
fill_extent-requires g c = omega (arith, ap (λ (l : List ℕ). length l) c.body.ensures, length-take 8168 (drop (8168 * c.args.index) c.args.self.now.content))

pub returns-clause-call : goal.returns-clause-call
returns-clause-call g c = λ p rest is told.
    let index = c.args.index in
    let n = c.index-number.result.now in
    let here : n ≡ get_or c.args.self.now.numbers index n = c.index-number.ensures ∙ ap (λ (w : WriterState). get_or w.numbers index n) c.self.view_is in
    let part : IsPart c.extent_place.result _ p =
    other-is c.args.self.now.numbers c.args.self.now.link c.args.self.now.content index n c.number_behind.result c.body.result.now c.fill_extent.new.image
    c.extent_place.result c.requires.other c.requires.within here
    c.number_behind.ensures c.body.ensures c.fill_extent.ensures c.extent_place.ensures p rest is in
    subst (λ (q : ℕ × List ℕ). Writes Heap q.0 q.1 c.write_at.result (g.D.Disk.state c.args.disk.now).areas (g.D.Disk.state c.write_at.new.self).areas)
    (λ i. (part.place_is i, part.bytes_are i)) (c.write_at.ensures.areas told)
