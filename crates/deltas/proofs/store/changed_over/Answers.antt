use Rattle.std.proofs.Common.{refl, sym}
use Rattle.std.proofs.lemmas.Bool.{false≢true}
use Rattle.deltas.proofs.Writes.{delta_else}
use Rattle.deltas.proofs.store.changed_over.Goals as goal

pub returns-then-is_whole : goal.returns-then-is_whole
returns-then-is_whole c = sym (c.if-is_whole.ensures.0 refl)

pub returns-else-is_whole : goal.returns-else-is_whole
returns-else-is_whole c = sym (delta_else c.args.old.now c.args.new.now (λ is. false≢true (c.if-is_whole.ensures.1 is)))
