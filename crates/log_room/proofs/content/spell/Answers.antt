use Rattle.std.proofs.Common.{List, ◌++◌, ap, ◌∙◌}
use Rattle.std.specs.List.{flat_map}
use Rattle.deltas.specs.declared.«record».Record.{Record}
use Rattle.deltas.specs.Records.{spelling}
use Rattle.log_room.proofs.Spelled.{is_content}
use Rattle.log_room.proofs.content.spell.Goals as goal

pub returns : goal.returns
returns c = is_content _ _ _ _ _ _ _ c.in_ok-bytes.ensures.items c.in_ok-push_commit.ensures.items
    (c.in_ok-push_all.ensures ∙ ap (λ (rs : List Record). c.push_commit.new.out.items ++ flat_map spelling rs) c.new-2.ensures)
