use Rattle.std.proofs.Common.{ap, Err}
use Rattle.recovery.specs.declared.fault.FormatFault.{FormatFault}
use Rattle.log_store.specs.Live.{live_value}
use Rattle.log_store.proofs.Created.{created_is}
use Rattle.log_store.proofs.store.LogStore.create.Goals as goal

pub returns-in-Err-clause-err : goal.returns-in-Err-clause-err
returns-in-Err-clause-err g c = record {
  bad_size = (
    λ is. c.in-Err.ensures.bad_size.0 (ap (λ (f : FormatFault). Err f) is),
    λ no. let same = c.in-Err.ensures.bad_size.1 no in cc,
  );
  occupied = λ told is. c.in-Err.ensures.occupied told (ap (λ (f : FormatFault). Err f) is);
  stop = λ told. c.in-Err.ensures.stop told;
  refused = c.in-Err.ensures.refused;
}

pub returns-in-Ok-format-clause-ok : goal.returns-in-Ok-format-clause-ok
returns-in-Ok-format-clause-ok g c = record {
  new_is = created_is c.args.mark c.args.extents c.new_roots.result c.new-in-Ok-format.result.items c.new-in-Ok-format-2.result
      c.none-in-Ok-format.result c.new-in-Ok-format-3.result.items c.in-Ok.space c.of_recovered.result c.of_opened.result (live_value c.in-Ok-none.live)
      c.new-2.result.items c.none-in-Ok-format-2.result c.in-Ok-new.archive (g.D.Disk.state c.format.new.disk) c.new_roots.ensures
      c.new-in-Ok-format.ensures.items c.new-in-Ok-format-2.ensures c.none-in-Ok-format.ensures c.new-in-Ok-format-3.ensures.items c.in-Ok.ensures
      c.of_recovered.ensures c.of_opened.ensures c.in-Ok-none.ensures c.new-2.ensures.items c.none-in-Ok-format-2.ensures c.in-Ok-new.ensures;
  formatted = λ told. c.in-Ok-format.ensures.formatted told;
  refused = c.in-Ok-format.ensures.refused;
}
