use Rattle.std.proofs.Common.{◌∙◌, ap, subst, Bool, Result}
use Rattle.std.proofs.lemmas.Result.{err_from_is_err_and}
use Rattle.disk.specs.Areas.{Areas}
use Rattle.disk.specs.Calls.{DiskState, looked}
use Rattle.disk.specs.declared.area.DeviceFault.{DeviceFault}
use Rattle.log_store.specs.Formats.{formatted, FormatStops, LeavesOff}
use Rattle.log_store.proofs.Formats.{refused_so}
use Rattle.log_store.proofs.formatting.format.Goals as goal

pub returns-in_err-write_store-clause-stop : goal.returns-in_err-write_store-clause-stop
returns-in_err-write_store-clause-stop g c =
    λ told. refused_so _ c.from_residual-in_err-write_store.result
    (subst (λ (a : Areas). FormatStops a (g.D.Disk.state c.write_store.new.disk).areas) (ap (λ (s : DiskState). s.areas) c.is_occupied.ensures.same)
    (c.in_err-write_store.ensures.stop told))

pub returns-clause-free : goal.returns-clause-free
returns-clause-free g c = λ told occupied. let yes = (c.in_ok-is_occupied.ensures.occupied told).1 occupied in let no = c.if-branch.false in cc

pub returns-clause-formatted : goal.returns-clause-formatted
returns-clause-formatted g c =
    λ told. c.in_ok-write_store.ensures.formatted told
    ∙ ap (λ (s : DiskState). formatted c.args.extents s.areas) c.is_occupied.ensures.same

pub returns-in_err-write_store-clause-refuses : goal.returns-in_err-write_store-clause-refuses
returns-in_err-write_store-clause-refuses g c =
    let old : DiskState = g.D.Disk.state c.args.disk.now in
    let same = c.is_occupied.ensures.same ∙ ap (λ (r : Result Bool DeviceFault). looked r old) c.in_ok-is_occupied.was in
    let off : LeavesOff g.D.Disk.tells old (g.D.Disk.state c.write_store.new.disk) =
    subst (λ (s : DiskState). LeavesOff g.D.Disk.tells s (g.D.Disk.state c.write_store.new.disk)) same (record {
      first = c.in_err-write_store.ensures.first;
      refused = c.in_err-write_store.ensures.refused;
      stop = c.in_err-write_store.ensures.stop;
    }) in
    let p = err_from_is_err_and c.from_residual-in_err-write_store.result c.from_residual-in_err-write_store.ensures.1 in
    rw (p.1, p.2) off
