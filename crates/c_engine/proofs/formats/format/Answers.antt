use Rattle.std.proofs.Common.{◌≡◌, ◌⊎◌, ◌∙◌, refl, subst, ap}
use Rattle.disk.specs.Areas.{Areas}
use Rattle.disk.specs.Calls.{DiskState}
use Rattle.disk.specs.Memory.{disk_state}
use Rattle.any_store.specs.Formats.{IsFormatted}
use Rattle.c_engine.specs.Bytes.{AreBytesTold}
use Rattle.c_engine.specs.RelayNoted.{empty_areas}
use Rattle.c_engine.specs.declared.code.Code.TheVariants.{NoMemory}
use Rattle.c_engine.proofs.NewStores.{new-told}
use Rattle.c_engine.proofs.formats.format.Goals as goal

pub returns : goal.returns
returns c =
    let areas : Areas = (disk_state c.format.new.disk).areas in
    let formatted : IsFormatted c.args.layout empty_areas areas =
    subst (λ (a : Areas). IsFormatted c.args.layout a areas) (ap (λ (s : DiskState). s.areas) c.new-disk.ensures.fresh) (c.in-Ok.ensures.formatted refl) in
    new-told c.args.layout areas c.tell_status.result c.tell_status.new.info c.tell_status.new.out formatted
    (λ none. let bad = c.in-Ok.ensures.bad_size.1 none in cc) c.tell_status.ensures.known (c.tell_status.ensures.heap ∙ c.in-Ok-len.ensures.len)
    (subst (λ (s : DiskState). (c.tell_status.result ≡ NoMemory)
    ⊎ AreBytesTold s.areas.status.bytes c.tell_status.result c.tell_status.new.info c.tell_status.new.out) c.len.ensures.same c.tell_status.ensures.told)
