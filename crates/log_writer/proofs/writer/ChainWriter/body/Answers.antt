use Rattle.std.proofs.Common.{ℕ, List, take, drop, ap, ◌∙◌, ◌*◌}
use Rattle.log_writer.specs.Writer.{WriterState}
use Rattle.log_writer.proofs.Parts.{slice-part}
use Rattle.log_writer.proofs.writer.ChainWriter.body.Goals as goal

pub returns : goal.returns
returns c =
    slice-part (8168 * c.args.index) c.min.result 8168 c.as_slice.result.now c.min.ensures
    ∙ ap (λ (xs : List ℕ). take 8168 (drop (8168 * c.args.index) xs)) (c.as_slice.ensures.value ∙ ap (λ (w : WriterState). w.content) c.self.view_is)
