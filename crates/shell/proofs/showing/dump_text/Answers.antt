use Rattle.std.proofs.Common.{subst, sym}
use Rattle.session.specs.Texts.{Text}
use Rattle.shell.specs.Dump.{IsDump}
use Rattle.shell.proofs.Said.{appended-none}
use Rattle.shell.proofs.showing.dump_text.Goals as goal

pub returns : goal.returns
returns c =
    let text = c.in_ok-write_dump.ensures in
    subst (λ (t : Text). IsDump c.args.header.now c.args.slots.now t) (sym (appended-none _ c.write_dump.new.output.items text.0 (cc) text.2)) text.1
