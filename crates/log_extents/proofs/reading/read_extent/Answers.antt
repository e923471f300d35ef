use Rattle.std.proofs.Common.{◌≡◌, Some, sym, ◌∙◌, ap, subst}
use Rattle.log_extents.specs.Extents.{LinkedExtent, linked_bytes, IsLinked, extent_of}
use Rattle.std.proofs.lemmas.Bool.{false≢true}
use Rattle.log_extents.proofs.Bytes.{linked_read}
use Rattle.log_extents.proofs.reading.read_extent.Goals as goal

pub returns-then-is_said-clause-only : goal.returns-then-is_said-clause-only
returns-then-is_said-clause-only c = λ e is image_is.
    ap (λ x. Some x) (c.read_fields-extent.ensures.is ∙ linked_read c.args.most e c.args.image.now c.ranges.most.fits is image_is)

pub returns-else-is_said-clause-only : goal.returns-else-is_said-clause-only
returns-else-is_said-clause-only c = λ e is image_is.
    let same : extent_of c.read_fields-extent.result ≡ e =
    c.read_fields-extent.ensures.is ∙ linked_read c.args.most e c.args.image.now c.ranges.most.fits is image_is in
    let said =
    c.is_said-is_said.ensures.1 (subst (λ (x : LinkedExtent). IsLinked c.args.most x × (c.args.image.now ≡ linked_bytes x)) (sym same) (is, image_is)) in
    absurd (false≢true (sym c.if-is_said.false ∙ said))
