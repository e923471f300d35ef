use Rattle.shell.proofs.actions.perform.Goals as goal

pub returns-in-At : goal.returns-in-At
returns-in-At g c = rw c.in-At.is c.ask_at.ensures

pub returns-in-Between : goal.returns-in-Between
returns-in-Between g c = rw c.in-Between.is c.ask_between.ensures

pub returns-in-Ask : goal.returns-in-Ask
returns-in-Ask g c = rw c.in-Ask.is c.ask_if.ensures

pub returns-in-Write : goal.returns-in-Write
returns-in-Write g c = rw c.in-Write.is c.write.ensures

pub returns-in-Vacuum : goal.returns-in-Vacuum
returns-in-Vacuum g c = rw c.in-Vacuum.is c.vacuum_upto.ensures

pub returns-in-Grow : goal.returns-in-Grow
returns-in-Grow g c = rw c.in-Grow.is c.grow.ensures

pub returns-in-Floor : goal.returns-in-Floor
returns-in-Floor g c = rw c.in-Floor.is c.raise_upto.ensures

pub returns-in-Info : goal.returns-in-Info
returns-in-Info g c = rw c.in-Info.is c.info_by_layout.ensures

pub returns-in-Format : goal.returns-in-Format
returns-in-Format g c = rw c.in-Format.is c.make_if.ensures

pub returns-in-Dump : goal.returns-in-Dump
returns-in-Dump g c = rw c.in-Dump.is c.dump_by_layout.ensures
