use Rattle.std.proofs.Common.{◌∙◌, sym, ap, subst, Option, IsSome}
use Rattle.log_writer.specs.Writer.{WriterState}
use Rattle.log_store.specs.Values.{LogStoreValue}
use Rattle.log_store.proofs.store.LogStore.advance.Goals as goal

pub unreachable-requires : goal.unreachable-requires
unreachable-requires g c =
    let some = subst (λ (o : Option WriterState). IsSome o) (ap (λ (v : LogStoreValue). v.turn) (sym c.self.view_is) ∙ c.in_default.is) c.requires.some in cc
