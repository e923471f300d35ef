use Rattle.std.proofs.Common.{◌∙◌, ◌++◌, List, ap}
use Rattle.chains.specs.KeyWrites.{KeyWrites}
use Rattle.chains.specs.Shapes.{all_of}
use Rattle.chains.proofs.Shapes.{all_of-push}
use Rattle.chains.proofs.key_parts.add_fork.Goals as goal

pub returns : goal.returns
returns c =
    ap all_of c.in_ok-push.ensures.items
    ∙ all_of-push c.args.found.now.items c.in_ok-fork.field-0
    ∙ ap (λ (m : List KeyWrites). all_of c.args.found.now.items ++ m) c.in_ok-fork.ensures
