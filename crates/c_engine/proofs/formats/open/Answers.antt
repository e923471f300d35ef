use Rattle.std.proofs.Common.{◌≡◌, refl, subst, true, ap, sym, ◌∙◌}
use Rattle.disk.specs.Areas.{Image}
use Rattle.disk.specs.Calls.{DiskState, fresh_on}
use Rattle.recovery.specs.declared.fault.OpenFault.{OpenFault}
use Rattle.recovery.specs.declared.fault.OpenFault.TheVariants.{NoMemory}
use Rattle.any_store.specs.Calls.{last, floors}
use Rattle.any_store.specs.Opens.{Opens, OpenRefuses}
use Rattle.any_store.specs.Values.{disk_of, with_disk}
use Rattle.floors.specs.Floors.{FloorsValue}
use Rattle.c_engine.specs.Engines.{IsNew}
use Rattle.c_engine.specs.declared.engine.Engine.{Engine}
use Rattle.c_engine.specs.RelayState.{slices_state, relay_state}
use Rattle.c_engine.proofs.Lent.{no_device, image_fault, short_of_memory, noted_afresh, last_over, floors_over}
use Rattle.c_engine.proofs.formats.open.Goals as goal

pub returns-in-Err-clause-refused : goal.returns-in-Err-clause-refused
returns-in-Err-clause-refused c =
    let image : Image = record { status = c.args.status.now; heap = c.args.heap.now; archive = c.args.archive.now } in
    let disk = c.in-Err.field-0-1 in
    let why = c.in-Err.fault in
    let refused : OpenRefuses true (fresh_on image) why (slices_state disk) =
    subst (λ (s : DiskState). OpenRefuses true s why (slices_state disk)) c.new.ensures c.in-Err.ensures.err in (
      why,
      (λ e. no_device disk image (subst (λ (f : OpenFault). OpenRefuses true (fresh_on image) f (slices_state disk)) e refused)),
      image_fault disk image why refused,
      c.open_code.ensures,
    )

pub returns-clause-refused : goal.returns-clause-refused
returns-clause-refused c =
    let image : Image = record { status = c.args.status.now; heap = c.args.heap.now; archive = c.args.archive.now } in
    let opens : Opens true (fresh_on image) c.args.mark c.in-Ok.store =
    subst (λ (s : DiskState). Opens true s c.args.mark c.in-Ok.store) c.new.ensures c.in-Ok.ensures.ok in
    (NoMemory, (λ e. cc), short_of_memory image c.in-Ok.store (opens.layout refl), refl)

pub returns-in-Ok-new-clause-opened : goal.returns-in-Ok-new-clause-opened
returns-in-Ok-new-clause-opened c =
    let image : Image = record { status = c.args.status.now; heap = c.args.heap.now; archive = c.args.archive.now } in
    let opens : Opens true (fresh_on image) c.args.mark c.in-Ok.store =
    subst (λ (s : DiskState). Opens true s c.args.mark c.in-Ok.store) c.new.ensures c.in-Ok.ensures.ok in
    let made : c.in-Ok-new.engine.value ≡ c.new-in-Ok.result = c.in-Ok-new.ensures.ok in
    let over : c.in-Ok-new.engine.value.store ≡ with_disk c.in-Ok.store (relay_state c.new-relay.result) =
    ap (λ (e : Engine). e.store) made ∙ c.new-in-Ok.ensures.store ∙ c.over-store.ensures.store in
    let noted : relay_state c.new-relay.result ≡ record { areas = (disk_of c.in-Ok.store).areas; made = 0; refused = 0 } =
    c.new-relay.ensures ∙ noted_afresh image c.args.mark c.in-Ok.store (slices_state c.disk.result.now) opens c.disk.ensures in (
      c.in-Ok.store,
      opens,
      over ∙ ap (with_disk c.in-Ok.store) noted,
      subst (IsNew c.args.mark) (sym made) c.new-in-Ok.ensures.is_new,
      c.last-info.ensures ∙ sym (ap last over ∙ last_over c.in-Ok.store (relay_state c.new-relay.result)),
      c.every-info.ensures
          ∙ ap (λ (f : FloorsValue). f.every)
          (c.floors.ensures ∙ sym (ap floors over ∙ floors_over c.in-Ok.store (relay_state c.new-relay.result))),
    )
