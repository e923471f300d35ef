use Rattle.std.proofs.Common.{◌++◌, ◌∙◌, ap, subst, sym}
use Rattle.log_dump.specs.Dump.{Text, IsDumpText}
use Rattle.log_dump.proofs.dump.dump_text.Goals as goal

pub returns : goal.returns
returns c =
    let text = c.in_ok-write_dump.ensures in
    subst (IsDumpText c.args.shown.now) (sym (text.2 ∙ ap (λ (t : Text). t ++ text.0) c.new-text.ensures.items)) text.1
