use Rattle.log_dump.proofs.dump.read_dump.Goals as goal

pub returns-in-Ok-dump_text-clause-dump : goal.returns-in-Ok-dump_text-clause-dump
returns-in-Ok-dump_text-clause-dump g c = record {
  shown = c.in-Ok.shown;
  stands = c.in-Ok.ensures.shown;
  is = record { text = c.in-Ok-dump_text.ensures; fault = c.fault_of.ensures };
}
