use Rattle.std.proofs.Common.{◌≡◌, ℕ, Result, Ok, Err, sym, subst}
use Rattle.std.specs.Prelude.{OnOk}
use Rattle.disk.specs.Areas.{Areas}
use Rattle.recovery.specs.declared.fault.FormatFault.{FormatFault}
use Rattle.log_store.specs.Formats.{formatted}
use Rattle.any_store.specs.Formats.{IsSize, IsFormatted}
use Rattle.any_store.specs.declared.formatting.Layout.{Layout}
use Rattle.any_store.specs.declared.formatting.Layout.TheVariants.{Slots, Log}
use Rattle.any_store.proofs.formatting.format_as.Goals as goal

-- a log is formatted in a heap of a size that one may have
with_size : (layout : Layout) (extents : ℕ) (r : Result (Unit {0}) FormatFault) (old new : Areas) → layout ≡ Log extents → IsSize layout
    → OnOk r (new ≡ formatted extents old) → OnOk r (IsFormatted layout old new)
with_size layout extents (Ok done) old new is size made =
    subst (λ (l : Layout). IsFormatted l old new) (sym is) (record { size = subst IsSize is size; new_is = made })
with_size layout extents (Err why) old new is size made = tt

pub returns-in-Log-clause-formatted : goal.returns-in-Log-clause-formatted
returns-in-Log-clause-formatted g c = λ told.
    with_size c.args.layout c.in-Log.extents c.format-in-Log.result _ _ c.in-Log.is c.requires (c.format-in-Log.ensures.formatted told)
