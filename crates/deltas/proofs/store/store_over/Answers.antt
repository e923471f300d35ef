use Rattle.std.proofs.Common.{◌≡◌, refl, List, ℕ, ap, sym, ◌∙◌}
use Rattle.std.proofs.lemmas.Bool.{false≢true}
use Rattle.law_image.specs.Facts.{mask_of}
use Rattle.deltas.specs.declared.«record».Content.TheVariants.{Anchor, Delta}
use Rattle.deltas.proofs.Writes.{delta_else}
use Rattle.deltas.proofs.store.store_over.Goals as goal

pub returns-then-is_whole : goal.returns-then-is_whole
returns-then-is_whole c = ap Anchor c.in_ok-copy.ensures ∙ sym (c.if-is_whole.ensures.0 refl)

pub returns : goal.returns
returns c =
    let old = c.args.old.now in
    let new = c.args.new.now in
    let mask : c.mask.result ≡ mask_of old new =
    c.mask.ensures.is ∙ ap (λ (l : List (List ℕ)). mask_of l c.iter-2.result) c.iter.ensures ∙ ap (λ (l : List (List ℕ)). mask_of old l) c.iter-2.ensures in
    let fields = c.in_ok-changed.ensures in
    (λ i. Delta (mask i) (fields i)) ∙ sym (delta_else old new (λ is. false≢true (c.if-is_whole.ensures.1 is)))
